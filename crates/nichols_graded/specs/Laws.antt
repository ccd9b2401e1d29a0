-- What the laws of this crate say.
use Rattle.std.specs.Prelude.{◌≡◌, ℕ, suc, ◌≤◌, Some, option_map, if◌then◌else◌}
use Rattle.std.specs.List.{Contains}
use Rattle.nichols_braid.specs.declared.TheConstants.{MOST_DEGREES}
use Rattle.nichols_braid.specs.Braid.{BraidValue}
use Rattle.nichols_braid.specs.Kernel.{is_in_kernel}
use Rattle.nichols_braid.specs.End.{is_empty_degree}
use Rattle.nichols_graded.specs.Ends.{finished_degrees, stops_at, end_reached}
use Rattle.nichols_graded.specs.declared.ends.End.TheVariants.{Closed, Stopped}

-- after a finished degree the end is reached exactly where it is empty, and the algebra is closed, or where something stops the next one
abbrev pub EndIsReached : Type 0
EndIsReached =
    (braid : BraidValue) (limit rows_limit m : ℕ) → limit ≤ MOST_DEGREES → Contains (finished_degrees braid limit rows_limit) m →
    end_reached braid limit rows_limit m ≡ (if is_empty_degree is_in_kernel braid m then Some Closed else option_map Stopped (stops_at braid limit rows_limit (suc m)))
