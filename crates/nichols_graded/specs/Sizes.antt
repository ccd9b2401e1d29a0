-- The numbers of least words of blocks.
use Rattle.std.specs.Prelude.{◌≡◌, ◌<◌, ℕ, Bool, true, false, List, map, length, slice_index}
use Rattle.nichols_braid.specs.Braid.{BraidValue}
use Rattle.nichols_braid.specs.Products.{products}
use Rattle.nichols_value.specs.declared.value.BlockValue.{BlockValue}
use Rattle.nichols_value.specs.declared.value.BlockValue.TheVariants.{Rule, Over, Void, Starved}
use Rattle.nichols_value.specs.Block.{block_basis}
use Rattle.nichols_graded.specs.declared.TheConstants.{DIMENSION_BOUND}

-- the number of least words in a value; none where it is no rule
abbrev pub size_of : BlockValue → ℕ
size_of (Rule r) = length r.basis
size_of (Over count) = 0
size_of Void = 0
size_of Starved = 0

-- whether a value is a rule
abbrev pub is_rule : BlockValue → Bool
is_rule (Rule r) = true
is_rule (Over count) = false
is_rule Void = false
is_rule Starved = false

-- the numbers of least words of the blocks of degree m, by product
pub record AreSizes (braid : BraidValue) (m : ℕ) (sizes : List ℕ) : Type 0 where
  pub counts : sizes ≡ map (λ g. length (block_basis braid m g)) (products braid m)
  pub small : (k : ℕ) → slice_index sizes k < DIMENSION_BOUND
