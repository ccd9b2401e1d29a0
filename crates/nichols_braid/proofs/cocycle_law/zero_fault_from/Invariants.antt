use Rattle.std.proofs.Common.{◌≡◌, None}
use Rattle.nichols_tensor.specs.Words.{up_to}
use Rattle.nichols_braid.specs.Faults.{first_answer, zero_fault_at}
use Rattle.nichols_braid.specs.Tables.{with_scalars}
use Rattle.nichols_braid.proofs.cocycle_law.zero_fault_from.Given as goal

abbrev pub invariant-loop-j : goal.invariant-loop-j
invariant-loop-j l = first_answer (zero_fault_at (with_scalars l.field l.rack l.scalars) l.i) (up_to l.j) ≡ None
