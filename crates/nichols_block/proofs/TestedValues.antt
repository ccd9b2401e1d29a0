-- The values of the blocks of a degree, and those of lower blocks collected from them.
use Rattle.std.proofs.Common.{◌≡◌, ℕ, suc, ◌+◌, ◌-◌, ◌≤◌, ◌⊎◌, List, [], ◌∷◌, ◌++◌, length, get_or, refl, sym, ◌∙◌, ap, ap₂, subst, arith, inl, inr, length-append}
use Rattle.std.specs.List.{AllByRecursion}
use Rattle.std.proofs.lemmas.Bool.{cases_lt}
use Rattle.std.proofs.lemmas.List.{get_or_append_left}
use Rattle.std.proofs.Math.Seq.{get_or-append_seam}
use Rattle.nichols_tensor.specs.Positions.{word_at}
use Rattle.nichols_tensor.specs.Words.{up_to}
use Rattle.nichols_braid.specs.Braid.{BraidValue}
use Rattle.nichols_braid.specs.Product.{product_before}
use Rattle.nichols_braid.specs.Products.{products}
use Rattle.nichols_braid.proofs.InlineProducts.{product_of_none}
use Rattle.nichols_braid.proofs.NextProducts.{products_first}
use Rattle.nichols_value.specs.declared.key.BlockKey.{BlockKey}
use Rattle.nichols_value.specs.declared.shared.LowerValue.{LowerValue}
use Rattle.nichols_value.specs.declared.shared.Shared.{Shared}
use Rattle.nichols_value.specs.declared.value.BlockValue.{BlockValue}
use Rattle.nichols_value.specs.declared.value.BlockValue.TheVariants.{Rule, Starved}
use Rattle.nichols_value.specs.Rule.{PlainRule, rule_of}
use Rattle.nichols_value.specs.Value.{IsRight}
use Rattle.nichols_value.specs.Worth.{worth}
use Rattle.nichols_value.proofs.Wholes.{rule_value, whole_below_first, whole_from}
use Rattle.nichols_block.specs.Lower.{AreLowerValues}
use Rattle.nichols_block.specs.Tested.{AreRightFor}
use Rattle.nichols_block.proofs.CollectedValues.{HasLower, letters_whole}
use Rattle.nichols_braid.proofs.FirstDegree.{first_rows}
use Rattle.nichols_braid.specs.Kernel.{is_killed}

-- ---- values by product

pub right_none : (braid : BraidValue) (limit m : ℕ) (gs : List (List ℕ)) → AreRightFor braid limit m gs 0 []
right_none braid limit m gs = record { count = refl; each = λ k v less. absurd (omega arith) }

pub right_more : (braid : BraidValue) (limit m : ℕ) (gs : List (List ℕ)) (n : ℕ) (values new : List Shared) (v : Shared) → AreRightFor braid limit m gs n values → IsRight braid limit m (word_at gs n) (worth v) → new ≡ values ++ v ∷ [] → AreRightFor braid limit m gs (n + 1) new
right_more braid limit m gs n values new v before right e = record {
  count = ap length e ∙ length-append values (v ∷ []) ∙ ap (λ i. i + 1) before.count;
  each = λ k u less at.
      elim (cases_lt k n) [
        | inl first ↦ before.each k u first (at ∙ ap (λ (vs : List Shared). get_or vs k u) e ∙ get_or_append_left values (v ∷ []) u k (omega (arith, before.count)))
        | inr last ↦
            let here : k ≡ n = omega arith in
            let same : u ≡ v = at ∙ ap₂ (λ (vs : List Shared) i. get_or vs i u) e (here ∙ sym before.count) ∙ get_or-append_seam values v [] u in
            subst (λ (x : Shared). IsRight braid limit m (word_at gs k) (worth x)) (sym same) (subst (λ i. IsRight braid limit m (word_at gs i) (worth v)) (sym here) right)
      ];
}

-- a shared value is right where the value is
pub shared_right : (braid : BraidValue) (limit m : ℕ) (g : List ℕ) (v w : BlockValue) → IsRight braid limit m g v → (w ≡ v) ⊎ (w ≡ Starved) → IsRight braid limit m g w
shared_right braid limit m g v w right (inl e) = subst (IsRight braid limit m g) (sym e) right
shared_right braid limit m g v w right (inr e) = inr e

-- ---- degree 0

pub first_right : (braid : BraidValue) (limit : ℕ) (gs : List (List ℕ)) (r : PlainRule) (w : BlockValue) → 1 ≤ limit → gs ≡ products braid 0 → r ≡ rule_of braid 0 (up_to braid.letters) → (w ≡ Rule r) ⊎ (w ≡ Starved) → IsRight braid limit 0 (word_at gs 0) w
first_right braid limit gs r w some e rule told =
    shared_right braid limit 0 (word_at gs 0) (Rule r) w
    (inl (ap Rule rule ∙ ap (λ g. Rule (rule_of braid 0 g)) (sym here) ∙ sym (rule_value braid limit 0 (word_at gs 0) (whole_from braid limit 0 (word_at gs 0) (let few = first_rows is_killed braid (word_at gs 0) in omega (arith, few, some)) (whole_below_first braid limit (word_at gs 0)))))) told
  where
    here : word_at gs 0 ≡ up_to braid.letters
    here = ap (λ hs. word_at hs 0) (e ∙ products_first braid) ∙ product_of_none braid

pub first_count : (braid : BraidValue) (gs : List (List ℕ)) → gs ≡ products braid 0 → length gs ≡ 1
first_count braid gs e = ap length (e ∙ products_first braid)

-- ---- lower blocks by letter

abbrev pub HasValues : BraidValue → ℕ → ℕ → List ℕ → ℕ → List LowerValue → Type 0
HasValues braid limit m g a lower = HasLower braid m g (λ h v. IsRight braid limit m h v) a lower

pub values_whole : (braid : BraidValue) (limit m n : ℕ) (key : BlockKey) (lower : List LowerValue) → HasValues braid limit m key.product n lower → n ≡ braid.letters → key.degree ≡ suc m → AreLowerValues braid limit key lower
values_whole braid limit m n key lower h e degree =
    let below : key.degree - 1 ≡ m = omega arith in
    record {
      letters = letters_whole braid m n key (λ g v. IsRight braid limit m g v) lower h e degree;
      right = subst (λ d. AllByRecursion (λ (l : LowerValue). IsRight braid limit d (product_before braid l.letter key.product) (worth l.value)) lower) (sym below) h.each;
    }
