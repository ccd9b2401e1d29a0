-- The values of blocks.
use Rattle.std.specs.Prelude.{◌≡◌, ◌⊎◌, ℕ, List, if◌then◌else◌}
use Rattle.nichols_braid.specs.Braid.{BraidValue}
use Rattle.nichols_braid.specs.Kernel.{is_killed}
use Rattle.nichols_braid.specs.Products.{rows}
use Rattle.nichols_value.specs.Block.{is_whole, is_whole_below}
use Rattle.nichols_value.specs.Rule.{rule_of}
use Rattle.nichols_value.specs.declared.value.BlockValue.{BlockValue}
use Rattle.nichols_value.specs.declared.value.BlockValue.TheVariants.{Rule, Over, Void, Starved}

-- the value of the block of degree m and product g under a rows limit: its rule where it is whole, the number of its candidates
-- where all its lower blocks are whole and it isn't, and else void
unfoldable pub block_value : BraidValue → ℕ → ℕ → List ℕ → BlockValue
block_value braid limit m g =
    if is_whole braid limit m g then Rule (rule_of braid m g) else (if is_whole_below braid limit m g then Over (rows is_killed braid m g) else Void)

-- a value is right for a block: it is the block's value, or want of memory
abbrev pub IsRight : BraidValue → ℕ → ℕ → List ℕ → BlockValue → Type 0
IsRight braid limit m g value = (value ≡ block_value braid limit m g) ⊎ (value ≡ Starved)
