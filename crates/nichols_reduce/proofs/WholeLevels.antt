-- The blocks of levels that the tests make are whole.
use Rattle.std.proofs.Common.{◌≡◌, ◌⊎◌, ℕ, suc, ◌<◌, ◌≤◌, true, List, [], length, map, get_or, take, sym, ◌∙◌, ap, subst, arith, inl, inr}
use Rattle.std.specs.List.{Contains}
use Rattle.std.proofs.lemmas.Bool.{cases_lt}
use Rattle.std.proofs.lemmas.List.{get_or_default, take_all}
use Rattle.nichols_tensor.specs.Positions.{word_at}
use Rattle.nichols_braid.specs.declared.TheConstants.{MOST_ROWS}
use Rattle.nichols_braid.specs.Braid.{BraidValue}
use Rattle.nichols_braid.specs.Kernel.{is_killed}
use Rattle.nichols_braid.specs.Products.{products, rows}
use Rattle.nichols_value.specs.declared.shared.Shared.{Shared}
use Rattle.nichols_value.specs.declared.value.BlockValue.{BlockValue}
use Rattle.nichols_value.specs.declared.value.BlockValue.TheVariants.{Rule, Starved}
use Rattle.nichols_value.specs.Block.{is_whole}
use Rattle.nichols_value.specs.Rule.{PlainRule, rule_of}
use Rattle.nichols_value.specs.Value.{IsRight}
use Rattle.nichols_value.specs.Worth.{worth}
use Rattle.nichols_value.proofs.Wholes.{right_rule, whole_below_first, whole_from}
use Rattle.nichols_block.specs.Levels.{rules_of}
use Rattle.nichols_reduce.specs.Whole.{AreWhole, IsWholeRule}
use Rattle.nichols_braid.proofs.FirstDegree.{first_rows}

pub first_is_whole : (braid : BraidValue) (last : ℕ) → last ≡ 0 → AreWhole braid last
first_is_whole braid last e m g below i =
    let few : rows is_killed braid 0 g ≤ 1 = first_rows is_killed braid g in
    let first : 0 ≡ m = omega (arith, e, below) in
    subst (λ d. is_whole braid MOST_ROWS d g ≡ true) first (whole_from braid MOST_ROWS 0 g (omega (arith, few)) (whole_below_first braid MOST_ROWS g))

-- a right value that is a rule
pub whole_rule : (braid : BraidValue) (m : ℕ) (g : List ℕ) (value copy : BlockValue) (r : PlainRule) → IsRight braid MOST_ROWS m g value → (copy ≡ value) ⊎ (copy ≡ Starved) → copy ≡ Rule r → IsWholeRule braid m g copy
whole_rule braid m g value copy r right (inr starved) is = absurd (let c : Starved ≡ Rule r = sym starved ∙ is in cc)
whole_rule braid m g value copy r right (inl same) is =
    let (whole, own) = right_rule braid MOST_ROWS m g r (subst (IsRight braid MOST_ROWS m g) (sym same ∙ is) right) in
    record { rule = is ∙ ap Rule own; whole = whole }

-- the rules of the first products of a degree
pub record AreWholeRules (braid : BraidValue) (m k : ℕ) (gs : List (List ℕ)) (vs : List Shared) : Type 0 where
  pub rules : map worth vs ≡ map Rule (map (rule_of braid m) (take k gs))
  pub whole : (i : ℕ) → i < k → i < length gs → is_whole braid MOST_ROWS m (word_at gs i) ≡ true

pub all_rules : (braid : BraidValue) (m k : ℕ) (gs : List (List ℕ)) (vs : List Shared) → gs ≡ products braid m → length gs ≤ k → AreWholeRules braid m k gs vs → map worth vs ≡ map Rule (rules_of braid m)
unfolding rules_of
all_rules braid m k gs vs listed past h = h.rules ∙ ap (λ ps. map Rule (map (rule_of braid m) ps)) (take_all k gs past ∙ listed)

-- with the next degree, too, all blocks are whole
pub whole_more : (braid : BraidValue) (last k : ℕ) (gs : List (List ℕ)) (vs : List Shared) → gs ≡ products braid (suc last) → length gs ≤ k → AreWhole braid last → AreWholeRules braid (suc last) k gs vs → AreWhole braid (suc last)
whole_more braid last k gs vs listed past whole h m g below i =
    elim (cases_lt m (suc last)) [
      | inl less ↦ whole m g (omega arith) i
      | inr same ↦
          let here : suc last ≡ m = omega (arith, same, below) in
          let own : Contains gs g = subst (λ ps. Contains ps g) (sym listed) (subst (λ d. Contains (products braid d) g) (sym here) i) in
          let (j, inside, at) = own in
          subst (λ d. is_whole braid MOST_ROWS d g ≡ true) here (subst (λ p. is_whole braid MOST_ROWS (suc last) p ≡ true) (place_is gs g j inside at) (h.whole j (omega (arith, inside, past)) inside))
    ]
  where
    place_is : (ps : List (List ℕ)) (p : List ℕ) (j : ℕ) → j < length ps → get_or ps j p ≡ p → word_at ps j ≡ p
    place_is ps p j inside at = get_or_default ps j [] p inside ∙ at
