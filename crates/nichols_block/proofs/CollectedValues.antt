-- The values of lower blocks, collected by letter.
use Rattle.std.proofs.Common.{◌≡◌, ℕ, suc, ◌-◌, ◌<◌, Bool, true, false, ◌&&◌, List, [], ◌∷◌, ◌++◌, length, map, filter, refl, sym, ◌∙◌, ap, subst, arith, cond}
use Rattle.std.specs.List.{AllByRecursion, Contains}
use Rattle.std.proofs.lemmas.Bool.Decides.{Decides-eqb}
use Rattle.std.proofs.lemmas.List.{append-nil, map-append}
use Rattle.std.proofs.lemmas.List.Elements.{filter-append}
use Rattle.nichols_tensor.specs.Positions.{word_at}
use Rattle.nichols_tensor.specs.Words.{up_to}
use Rattle.nichols_tensor.proofs.Over.{all-append}
use Rattle.nichols_tensor.proofs.Rising.{word_at_is_in}
use Rattle.nichols_braid.specs.Braid.{BraidValue}
use Rattle.nichols_braid.specs.Product.{product_before}
use Rattle.nichols_braid.specs.Products.{leading, products}
use Rattle.nichols_value.specs.declared.key.BlockKey.{BlockKey}
use Rattle.nichols_value.specs.declared.shared.LowerValue.{LowerValue}
use Rattle.nichols_value.specs.declared.value.BlockValue.TheVariants.{Rule}
use Rattle.nichols_value.specs.Block.{has_block, lower_letters}
use Rattle.nichols_value.specs.Rule.{rule_of}
use Rattle.nichols_value.specs.Worth.{worth}
use Rattle.nichols_value.proofs.Blocks.{block_is, has_block_is}
use Rattle.nichols_value.specs.declared.value.BlockValue.{BlockValue}
use Rattle.nichols_block.specs.Below.{is_lower_letter}
use Rattle.nichols_block.specs.Lower.{AreLowerRules}

-- ---- one letter

lower_letter_is : (braid : BraidValue) (m : ℕ) (g : List ℕ) (a first : ℕ) (b : Bool) → first ≡ leading braid a → first ≡ a → has_block braid m (product_before braid a g) ≡ b → is_lower_letter braid m g a ≡ b
lower_letter_is braid m g a first b e same has = ap (λ t. t && has_block braid m (product_before braid a g)) ((Decides-eqb (leading braid a) a).1 (sym e ∙ same)) ∙ has

pub no_lower : (braid : BraidValue) (m : ℕ) (g : List ℕ) (a first : ℕ) (h : List ℕ) → first ≡ leading braid a → first ≡ a → h ≡ product_before braid a g → (Contains (products braid m) h → ⊥) → is_lower_letter braid m g a ≡ false
no_lower braid m g a first h e same h_is none = lower_letter_is braid m g a first false e same (at (has_block braid m (product_before braid a g)) refl)
  where
    at : (b : Bool) → has_block braid m (product_before braid a g) ≡ b → b ≡ false
    at true has = absurd (none (subst (Contains (products braid m)) (sym h_is) (block_is braid m (product_before braid a g) has)))
    at false has = refl

pub is_lower : (braid : BraidValue) (m k : ℕ) (g : List ℕ) (a first : ℕ) (h : List ℕ) → first ≡ leading braid a → first ≡ a → h ≡ product_before braid a g → k < length (products braid m) → word_at (products braid m) k ≡ h → is_lower_letter braid m g a ≡ true
is_lower braid m k g a first h e same h_is less at =
    lower_letter_is braid m g a first true e same (has_block_is braid m (product_before braid a g) (subst (Contains (products braid m)) (at ∙ h_is) (word_at_is_in (products braid m) k less)))

-- ---- all letters

-- the values for the letters up to a, each of which has R with the product before its letter
pub record HasLower (braid : BraidValue) (m : ℕ) (g : List ℕ) (R : List ℕ → BlockValue → Type 0) (a : ℕ) (lower : List LowerValue) : Type 0 where
  pub letters : map (λ (l : LowerValue). l.letter) lower ≡ filter (is_lower_letter braid m g) (up_to a)
  pub each : AllByRecursion (λ (l : LowerValue). R (product_before braid l.letter g) (worth l.value)) lower

pub next_letter : (t : ℕ → Bool) (a n : ℕ) (b : Bool) → n ≡ suc a → t n ≡ b → filter t (up_to n) ≡ filter t (up_to a) ++ cond b (n ∷ []) []
next_letter t a n b e is =
    subst (λ k. t k ≡ b → filter t (up_to k) ≡ filter t (up_to a) ++ cond b (k ∷ []) []) (sym e)
    (λ at. filter-append t (up_to a) (suc a ∷ []) ∙ ap (λ c. filter t (up_to a) ++ cond c (suc a ∷ []) []) at) is

pub lower_same : (braid : BraidValue) (m : ℕ) (g : List ℕ) (R : List ℕ → BlockValue → Type 0) (a n : ℕ) (lower : List LowerValue) → HasLower braid m g R a lower → n ≡ suc a → is_lower_letter braid m g n ≡ false → HasLower braid m g R n lower
lower_same braid m g R a n lower h e isnt = record {
  letters = h.letters ∙ sym (append-nil (filter (is_lower_letter braid m g) (up_to a))) ∙ sym (next_letter (is_lower_letter braid m g) a n false e isnt);
  each = h.each;
}

pub lower_more : (braid : BraidValue) (m : ℕ) (g : List ℕ) (R : List ℕ → BlockValue → Type 0) (a n : ℕ) (lower new : List LowerValue) (v : LowerValue) → HasLower braid m g R a lower → n ≡ suc a → v.letter ≡ n → is_lower_letter braid m g n ≡ true →
    R (product_before braid n g) (worth v.value) → new ≡ lower ++ v ∷ [] → HasLower braid m g R n new
lower_more braid m g R a n lower new v h e letter is has new_is = record {
  letters =
      ap (map (λ (l : LowerValue). l.letter)) new_is ∙ map-append (λ (l : LowerValue). l.letter) lower (v ∷ [])
      ∙ ap (λ xs. xs ++ v.letter ∷ []) h.letters ∙ ap (λ k. filter (is_lower_letter braid m g) (up_to a) ++ k ∷ []) letter ∙ sym (next_letter (is_lower_letter braid m g) a n true e is);
  each =
      subst (AllByRecursion (λ (l : LowerValue). R (product_before braid l.letter g) (worth l.value))) (sym new_is)
      (all-append (λ (l : LowerValue). R (product_before braid l.letter g) (worth l.value)) lower (v ∷ []) h.each (subst (λ k. R (product_before braid k g) (worth v.value)) (sym letter) has, tt));
}

-- of all letters they are those of the lower letters
pub letters_whole : (braid : BraidValue) (m n : ℕ) (key : BlockKey) (R : List ℕ → BlockValue → Type 0) (lower : List LowerValue) → HasLower braid m key.product R n lower → n ≡ braid.letters → key.degree ≡ suc m →
    map (λ (l : LowerValue). l.letter) lower ≡ lower_letters braid key.degree key.product
unfolding lower_letters
letters_whole braid m n key R lower h e degree = h.letters ∙ ap (λ k. filter (is_lower_letter braid m key.product) (up_to k)) e ∙ sym (ap (λ d. lower_letters braid d key.product) degree)

-- ---- rules

abbrev pub HasRules : BraidValue → ℕ → List ℕ → ℕ → List LowerValue → Type 0
HasRules braid m g a lower = HasLower braid m g (λ h v. v ≡ Rule (rule_of braid m h)) a lower

pub rules_whole : (braid : BraidValue) (m n : ℕ) (key : BlockKey) (lower : List LowerValue) → HasRules braid m key.product n lower → n ≡ braid.letters → key.degree ≡ suc m → AreLowerRules braid key lower
rules_whole braid m n key lower h e degree =
    let below : key.degree - 1 ≡ m = omega arith in
    record {
      letters = letters_whole braid m n key (λ g v. v ≡ Rule (rule_of braid m g)) lower h e degree;
      rules = subst (λ d. AllByRecursion (λ (l : LowerValue). worth l.value ≡ Rule (rule_of braid d (product_before braid l.letter key.product))) lower) (sym below) h.each;
    }
