-- The value of a block of degree 1 is right.
use Rattle.std.proofs.Common.{◌≡◌, ◌≤◌, ℕ, true, List, [], ◌∷◌, inl, sym, ◌∙◌, arith}
use Rattle.std.specs.List.{AllByRecursion}
use Rattle.nichols_braid.specs.Braid.{BraidValue}
use Rattle.nichols_braid.specs.Kernel.{is_killed}
use Rattle.nichols_braid.specs.Product.{product_before}
use Rattle.nichols_value.specs.Block.{is_whole}
use Rattle.nichols_value.specs.Rule.{rule_of}
use Rattle.nichols_value.specs.Value.{IsRight}
use Rattle.nichols_value.specs.Worth.{worth}
use Rattle.nichols_value.specs.declared.shared.LowerValue.{LowerValue}
use Rattle.nichols_value.specs.declared.value.BlockValue.TheVariants.{Rule}
use Rattle.nichols_value.proofs.Wholes.{rule_value, whole_below_first, whole_from}
use Rattle.nichols_block.specs.Lower.{AreLowerRules, AreLowerValues}
use Rattle.nichols_braid.proofs.FirstDegree.{first_rows}

whole_first : (braid : BraidValue) (limit : ℕ) (g : List ℕ) → 1 ≤ limit → is_whole braid limit 0 g ≡ true
whole_first braid limit g some = let few = first_rows is_killed braid g in whole_from braid limit 0 g (omega (arith, few, some)) (whole_below_first braid limit g)

-- the lower rules of a block of degree 1 are right
pub lower_rules_are_right : (braid : BraidValue) (limit : ℕ) (g : List ℕ) (lower : List LowerValue) → 1 ≤ limit → AreLowerRules braid (record { degree = 1; product = g }) lower → AreLowerValues braid limit (record { degree = 1; product = g }) lower
lower_rules_are_right braid limit g lower some rules = record { letters = rules.letters; right = each lower rules.rules }
  where
    each : (vs : List LowerValue) → AllByRecursion (λ (l : LowerValue). worth l.value ≡ Rule (rule_of braid 0 (product_before braid l.letter g))) vs → AllByRecursion (λ (l : LowerValue). IsRight braid limit 0 (product_before braid l.letter g) (worth l.value)) vs
    each [] h = tt
    each (v ∷ vs) h = (inl (h.0 ∙ sym (rule_value braid limit 0 (product_before braid v.letter g) (whole_first braid limit (product_before braid v.letter g) some))), each vs h.1)
