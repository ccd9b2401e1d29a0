-- An algebra up to its last finished degree, as contracts see it.
use Rattle.std.specs.Prelude.{◌≡◌, ◌⊎◌, ℕ, ◌≤◌, Bool, false, Option, Some, None}
use Rattle.std.specs.List.{Contains}
use Rattle.nichols_braid.specs.declared.TheConstants.{MOST_DEGREES, MOST_ROWS}
use Rattle.nichols_layout.specs.declared.TheConstants.{MOST_WINDOW}
use Rattle.nichols_braid.specs.Braid.{BraidValue, IsBraid}
use Rattle.nichols_braid.specs.Kernel.{is_in_kernel}
use Rattle.nichols_braid.specs.End.{is_empty_degree}
use Rattle.nichols_block.specs.Levels.{LevelsValue}
use Rattle.nichols_graded.specs.declared.ends.End.{End}
use Rattle.nichols_graded.specs.declared.ends.End.TheVariants.{Starved}
use Rattle.nichols_graded.specs.Ends.{end_reached, finished_degrees}

-- what contracts see: the braid, the limits, the last finished degree, and whether the end was reached
pub record GradedValue : Type 0 where
  pub braid : BraidValue
  pub limit : ℕ
  pub rows : ℕ
  pub window : ℕ
  pub last : ℕ
  pub ended : Bool

-- what contracts see of these levels under a degree limit and a rows limit
abbrev pub graded_value : LevelsValue → ℕ → ℕ → ℕ → Bool → GradedValue
graded_value levels limit rows window ended = record { braid = levels.braid; limit = limit; rows = rows; window = window; last = levels.last; ended = ended }

-- what holds between calls
pub record IsGraded (g : GradedValue) : Type 0 where
  pub braid : IsBraid g.braid
  pub most : g.limit ≤ MOST_DEGREES
  pub some_rows : 1 ≤ g.rows
  pub few_rows : g.rows ≤ MOST_ROWS
  pub some_window : 1 ≤ g.window
  pub few_window : g.window ≤ MOST_WINDOW
  pub finished : Contains (finished_degrees g.braid g.limit g.rows) g.last
  pub going : g.ended ≡ false → is_empty_degree is_in_kernel g.braid g.last ≡ false

-- degree 0 is finished
abbrev pub first_degree : BraidValue → ℕ → ℕ → ℕ → GradedValue
first_degree braid limit rows window = record { braid = braid; limit = limit; rows = rows; window = window; last = 0; ended = false }

-- an answer tells the end: where there was no memory for a block of the next degree it isn't known, and else it is the end, where it is
-- reached
abbrev pub TellsEnd : GradedValue → Option End → Type 0
TellsEnd g end = (end ≡ Some Starved) ⊎ (end ≡ end_reached g.braid g.limit g.rows g.last)

-- where there was no memory for a block of the next degree, the end isn't reached
abbrev pub IsOpenWhereStarved : GradedValue → Option End → Type 0
IsOpenWhereStarved g end = end ≡ Some Starved → end_reached g.braid g.limit g.rows g.last ≡ None
