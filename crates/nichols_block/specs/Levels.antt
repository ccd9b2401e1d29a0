-- The degrees of an algebra from 0 on, as values of their blocks.
use Rattle.std.specs.Prelude.{◌≡◌, ◌≤◌, ℕ, suc, List, [], ◌∷◌, map, length}
use Rattle.nichols_braid.specs.declared.TheConstants.{MOST_DEGREES}
use Rattle.nichols_braid.specs.Braid.{BraidValue}
use Rattle.nichols_braid.specs.Products.{products}
use Rattle.nichols_value.specs.declared.shared.Shared.{Shared}
use Rattle.nichols_value.specs.declared.value.BlockValue.{BlockValue}
use Rattle.nichols_value.specs.declared.value.BlockValue.TheVariants.{Rule, Over, Void, Starved}
use Rattle.nichols_value.specs.Rule.{IsRuleOf, PlainRule, rule_of}
use Rattle.nichols_value.specs.Worth.{worth}
use Rattle.nichols_block.specs.declared.levels.Degree.{Degree}

-- levels as contracts see them: the braid, the last degree, and for how many degrees more there is room
abbrev pub LevelsValue : Type 0
LevelsValue = record { braid : BraidValue; last : ℕ; spare : ℕ }

-- the rules of the blocks of degree m, by product
unfoldable pub rules_of : BraidValue → ℕ → List PlainRule
rules_of braid m = map (rule_of braid m) (products braid m)

-- a value that is kept for the block of degree m and product g: its rule, with what serves the degree above where m is the last degree
abbrev pub IsKept : BraidValue → ℕ → ℕ → List ℕ → BlockValue → Type 0
IsKept braid last m g (Rule r) = IsRuleOf braid m g r × (m ≡ last → r ≡ rule_of braid m g)
IsKept braid last m g (Over count) = ⊥
IsKept braid last m g Void = ⊥
IsKept braid last m g Starved = ⊥

-- one value for each of these products
abbrev pub AreKept : BraidValue → ℕ → ℕ → List (List ℕ) → List Shared → Type 0
AreKept braid last m [] [] = Unit {0}
AreKept braid last m (g ∷ gs) (v ∷ vs) = IsKept braid last m g (worth v) × AreKept braid last m gs vs
AreKept braid last m _ _ = ⊥

-- the degrees from m on have their products, with a value for each
abbrev pub AreDegrees : BraidValue → ℕ → ℕ → List Degree → Type 0
AreDegrees braid last m [] = Unit {0}
AreDegrees braid last m (d ∷ ds) = (d.products ≡ products braid m) × AreKept braid last m (products braid m) d.values.items × AreDegrees braid last (suc m) ds

-- the degrees from 0 on
pub record AreLevels (braid : BraidValue) (last : ℕ) (degrees : List Degree) : Type 0 where
  pub count : length degrees ≡ suc last
  pub most : last ≤ MOST_DEGREES
  pub each : AreDegrees braid last 0 degrees
