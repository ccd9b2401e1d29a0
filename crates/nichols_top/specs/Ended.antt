-- An algebra whose end was reached.
use Rattle.std.specs.Prelude.{◌≡◌, suc, length, Option, Some}
use Rattle.nichols_braid.specs.Braid.{BraidValue}
use Rattle.nichols_graded.specs.Ends.{end_by, end_reached}
use Rattle.nichols_graded.specs.Graded.{GradedValue}
use Rattle.nichols_graded.specs.declared.ends.Stop.{Stop}
use Rattle.nichols_top.specs.Algebra.{Scope, degrees_in, stop_in}

-- the end was reached: this stops the algebra, or nothing, and it is closed
abbrev pub HasEnd : GradedValue → Option Stop → Type 0
HasEnd graded stop = end_reached graded.braid graded.limit graded.rows graded.last ≡ Some (end_by stop)

-- the algebra of a braid with its last finished degree, and what stops it
pub record IsEnded (braid : BraidValue) (scope : Scope) (graded : GradedValue) (stop : Option Stop) : Type 0 where
  pub braid_is : graded.braid ≡ braid
  pub counted : length (degrees_in braid scope) ≡ suc graded.last
  pub stop_is : stop ≡ stop_in braid scope
  pub reached : HasEnd graded stop
