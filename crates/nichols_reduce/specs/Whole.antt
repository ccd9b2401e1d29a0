-- Blocks that are whole under the greatest rows limit, as the tests make them.
use Rattle.std.specs.Prelude.{◌≡◌, ◌≤◌, ℕ, List, true}
use Rattle.std.specs.List.{Contains}
use Rattle.nichols_braid.specs.declared.TheConstants.{MOST_ROWS}
use Rattle.nichols_braid.specs.Braid.{BraidValue}
use Rattle.nichols_braid.specs.Products.{products}
use Rattle.nichols_value.specs.declared.value.BlockValue.{BlockValue}
use Rattle.nichols_value.specs.declared.value.BlockValue.TheVariants.{Rule}
use Rattle.nichols_value.specs.Block.{is_whole}
use Rattle.nichols_value.specs.Rule.{rule_of}

-- each block of a degree up to the last is whole
abbrev pub AreWhole : BraidValue → ℕ → Type 0
AreWhole braid last = (m : ℕ) (g : List ℕ) → m ≤ last → Contains (products braid m) g → is_whole braid MOST_ROWS m g ≡ true

-- the value is the rule of the block of degree m and product g, which is whole
pub record IsWholeRule (braid : BraidValue) (m : ℕ) (g : List ℕ) (value : BlockValue) : Type 0 where
  pub rule : value ≡ Rule (rule_of braid m g)
  pub whole : is_whole braid MOST_ROWS m g ≡ true
