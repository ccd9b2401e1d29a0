-- Which lower values are the rules of lower blocks.
use Rattle.std.proofs.Common.{◌≡◌, ◌≢◌, ℕ, zero, suc, ◌-◌, ◌<◌, ◌≤◌, true, List, [], map, length, get_or, take, sym, ◌∙◌, ap, subst, arith, Option, None, Some, inl, inr}
use Rattle.std.specs.Prelude.{slice_index}
use Rattle.std.specs.List.{All, Contains, sum_by}
use Rattle.std.specs.Option.{MatchOption}
use Rattle.std.proofs.lemmas.Bool.{cases_lt}
use Rattle.std.proofs.lemmas.List.{take_all}
use Rattle.std.proofs.lemmas.List.Elements.{Contains-get_or, All-contains}
use denote.Bor.{Bor}
use Rattle.nichols_tensor.specs.Words.{up_to}
use Rattle.nichols_tensor.proofs.Entries.{from_map, in_map}
use Rattle.nichols_tensor.proofs.Over.{all_at}
use Rattle.nichols_tensor.proofs.Tests.{all_of_entries}
use Rattle.nichols_braid.specs.Braid.{BraidValue, IsBraid, IsLetter}
use Rattle.nichols_braid.specs.Kernel.{is_killed}
use Rattle.nichols_braid.specs.Product.{product_before}
use Rattle.nichols_braid.specs.Products.{leading, products, rows}
use Rattle.nichols_braid.proofs.NextProducts.{products_size}
use Rattle.nichols_value.specs.Block.{block_basis, is_whole, left_lower_basis, lower_basis, lower_letters}
use Rattle.nichols_value.specs.Rule.{PlainRule, rule_of, lean_rule_of}
use Rattle.nichols_value.specs.Value.{IsRight}
use Rattle.nichols_value.specs.Worth.{worth}
use Rattle.nichols_value.specs.declared.key.BlockKey.{BlockKey}
use Rattle.nichols_value.specs.declared.shared.LowerValue.{LowerValue}
use Rattle.nichols_value.specs.declared.value.BlockValue.{BlockValue}
use Rattle.nichols_value.specs.declared.value.BlockValue.TheVariants.{Rule}
use Rattle.nichols_value.proofs.Blocks.{no_lower_letter, product_before_leading, lower_basis_is, block_rows, from_lower_letters}
use Rattle.nichols_value.proofs.LeftBlocks.{left_lower_is_lower, letter_sent_to}
use Rattle.nichols_value.proofs.Wholes.{rule_value}
use Rattle.nichols_block.specs.Below.{IsNoRule}
use Rattle.nichols_block.specs.Lower.{AreLowerRules, AreLowerValues, IsUpperBlock}

-- where no lower value has the leading letter, there are no least words below
no_words_at : (braid : BraidValue) (m : ℕ) (g : List ℕ) (lower : List LowerValue) (a : ℕ) → 1 ≤ m → map (λ (l : LowerValue). l.letter) lower ≡ lower_letters braid m g → IsLetter braid a →
    All (λ (l : LowerValue). l.letter ≢ leading braid a) lower → lower_basis braid m g a ≡ []
no_words_at braid zero g lower a some letters la none = absurd (omega arith)
no_words_at braid (suc m) g lower a some letters la none =
    no_lower_letter braid m g a la (λ i.
    let (l, j, e) = from_map (λ (x : LowerValue). x.letter) (leading braid a) lower (subst (λ ls. Contains ls (leading braid a)) (sym letters) i) in
    All-contains (λ (x : LowerValue). x.letter ≢ leading braid a) lower l none j (sym e))

pub no_words : (braid : BraidValue) (key : BlockKey) (lower : List LowerValue) (a i b : ℕ) → IsUpperBlock braid key → AreLowerRules braid key lower → IsLetter braid a → length lower ≤ i → b ≡ leading braid a →
    All (λ (l : LowerValue). l.letter ≢ b) (take i lower) → lower_basis braid key.degree key.product a ≡ []
no_words braid key lower a i b block rules la long first none =
    no_words_at braid key.degree key.product lower a block.some rules.letters la
    (subst (λ ls. All (λ (l : LowerValue). l.letter ≢ leading braid a) ls) (take_all i lower long)
    (subst (λ c. All (λ (l : LowerValue). l.letter ≢ c) (take i lower)) first none))

-- the value with the leading letter is the rule of the lower block
rule_at : (braid : BraidValue) (key : BlockKey) (lower : List LowerValue) (a i b : ℕ) (l : LowerValue) → AreLowerRules braid key lower → IsLetter braid a → i < length lower → l ≡ get_or lower i l → l.letter ≡ b → b ≡ leading braid a →
    worth l.value ≡ Rule (rule_of braid (key.degree - 1) (product_before braid a key.product))
rule_at braid key lower a i b l rules la less here same first =
    let there : Contains lower l = subst (Contains lower) (sym here) (Contains-get_or lower i l less) in
    all_at (λ (x : LowerValue). worth x.value ≡ Rule (rule_of braid (key.degree - 1) (product_before braid x.letter key.product))) lower l rules.rules there
    ∙ ap (λ h. Rule (rule_of braid (key.degree - 1) h)) (ap (λ c. product_before braid c key.product) (same ∙ first) ∙ product_before_leading braid a la key.product)

not_none : (v : BlockValue) (r : PlainRule) → v ≡ Rule r → IsNoRule v → ⊥
not_none v r e n = subst IsNoRule e n

same_rule : (v : BlockValue) (r s : PlainRule) → v ≡ Rule r → v ≡ Rule s → s ≡ r
same_rule v r s e f = let h : Rule r ≡ Rule s = sym e ∙ f in cc

pub answered : (braid : BraidValue) (key : BlockKey) (lower : List LowerValue) (a i b : ℕ) (l : LowerValue) (o : Option (Bor PlainRule)) → AreLowerRules braid key lower → IsLetter braid a → i < length lower → l ≡ get_or lower i l →
    l.letter ≡ b → b ≡ leading braid a → MatchOption o (IsNoRule (worth l.value)) (λ r. worth l.value ≡ Rule r.now) →
    MatchOption o (lower_basis braid key.degree key.product a ≡ []) (λ r. r.now ≡ rule_of braid (key.degree - 1) (product_before braid a key.product))
answered braid key lower a i b l None rules la less here same first none =
    absurd (not_none (worth l.value) (rule_of braid (key.degree - 1) (product_before braid a key.product)) (rule_at braid key lower a i b l rules la less here same first) none)
answered braid key lower a i b l (Some r) rules la less here same first found =
    same_rule (worth l.value) (rule_of braid (key.degree - 1) (product_before braid a key.product)) r.now (rule_at braid key lower a i b l rules la less here same first) found

-- the basis of the rule of a lower block
rule_basis : (braid : BraidValue) (m : ℕ) (g : List ℕ) (a : ℕ) → 1 ≤ m → (rule_of braid (m - 1) (product_before braid a g)).basis ≡ lower_basis braid m g a
unfolding rule_of lean_rule_of
rule_basis braid zero g a some = absurd (omega arith)
rule_basis braid (suc m) g a some = let back : suc m - 1 ≡ m = omega arith in ap (λ k. block_basis braid k (product_before braid a g)) back ∙ sym (lower_basis_is braid m g a)

pub basis_of_rule : (braid : BraidValue) (m : ℕ) (g : List ℕ) (a : ℕ) (r : PlainRule) → 1 ≤ m → r ≡ rule_of braid (m - 1) (product_before braid a g) → r.basis ≡ lower_basis braid m g a
basis_of_rule braid m g a r some e = ap (λ (x : PlainRule). x.basis) e ∙ rule_basis braid m g a some

-- ---- left lower blocks

pub images_of_all : (braid : BraidValue) (key : BlockKey) → IsUpperBlock braid key → length key.product ≡ braid.letters
images_of_all braid key block = products_size braid key.degree key.product block.there

-- the left lower block by the letter that c is sent to
pub left_words_at : (braid : BraidValue) (key : BlockKey) (a c : ℕ) → IsBraid braid → IsUpperBlock braid key → IsLetter braid c → slice_index key.product (c - 1) ≡ a → left_lower_basis braid key.degree key.product a ≡ lower_basis braid key.degree key.product c
left_words_at braid key a c is block lc sent = ap (left_lower_basis braid key.degree key.product) (sym sent) ∙ left_lower_is_lower braid is key.degree key.product block.there c lc

-- where no letter before the last is sent to a, the last is
pub last_is_sent : (braid : BraidValue) (key : BlockKey) (a n c : ℕ) → IsBraid braid → IsUpperBlock braid key → IsLetter braid a → n ≡ braid.letters → n ≤ c → ((d : ℕ) → 1 ≤ d → d < c → slice_index key.product (d - 1) ≡ a → ⊥) →
    slice_index key.product (n - 1) ≡ a
last_is_sent braid key a n c is block la size past none =
    let (d, ld, sent) = letter_sent_to braid is key.degree key.product block.there a la in
    elim (cases_lt d c) [
      | inl before ↦ absurd (none d ld.0 before sent)
      | inr more ↦ let last : n ≡ d = omega (arith, more, ld.1, size, past) in ap (λ k. slice_index key.product (k - 1)) last ∙ sent
    ]

-- ---- the number of candidates

rows_at : (braid : BraidValue) (m : ℕ) (g : List ℕ) → IsBraid braid → 1 ≤ m → length g ≡ braid.letters → rows is_killed braid m g ≡ sum_by (λ b. length (lower_basis braid m g b)) (up_to braid.letters)
rows_at braid zero g is some size = absurd (omega arith)
rows_at braid (suc m) g is some size = block_rows braid is m g size

pub all_counted : (braid : BraidValue) (key : BlockKey) (n b count : ℕ) → IsBraid braid → IsUpperBlock braid key → n ≡ braid.letters → b ≤ n → n ≤ b → count ≡ sum_by (λ c. length (lower_basis braid key.degree key.product c)) (up_to b) →
    count ≡ rows is_killed braid key.degree key.product
all_counted braid key n b count is block size low high counted =
    let all : b ≡ braid.letters = omega arith in
    counted ∙ ap (λ k. sum_by (λ c. length (lower_basis braid key.degree key.product c)) (up_to k)) all ∙ sym (rows_at braid key.degree key.product is block.some (images_of_all braid key block))

-- ---- right values

-- rules of lower blocks are right where the blocks of the degree below are whole
pub rules_are_right : (braid : BraidValue) (limit m : ℕ) (key : BlockKey) (lower : List LowerValue) → key.degree ≡ suc m → ((g : List ℕ) → Contains (products braid m) g → is_whole braid limit m g ≡ true) → AreLowerRules braid key lower → AreLowerValues braid limit key lower
rules_are_right braid limit m key lower degree whole h = record {
  letters = h.letters;
  right = all_of_entries (λ (l : LowerValue). IsRight braid limit (key.degree - 1) (product_before braid l.letter key.product) (worth l.value)) lower (λ l i.
      let below : m ≡ key.degree - 1 = omega (arith, degree) in
      let listed : Contains (lower_letters braid (suc m) key.product) l.letter =
      subst (λ d. Contains (lower_letters braid d key.product) l.letter) degree (subst (λ ls. Contains ls l.letter) h.letters (in_map (λ (v : LowerValue). v.letter) l lower i)) in
      let own : is_whole braid limit m (product_before braid l.letter key.product) ≡ true = whole (product_before braid l.letter key.product) (from_lower_letters braid m key.product l.letter listed).2 in
      let rule = all_at (λ (v : LowerValue). worth v.value ≡ Rule (rule_of braid (key.degree - 1) (product_before braid v.letter key.product))) lower l h.rules i in
      inl (rule ∙ sym (rule_value braid limit (key.degree - 1) (product_before braid l.letter key.product) (subst (λ d. is_whole braid limit d (product_before braid l.letter key.product) ≡ true) below own))));
}
