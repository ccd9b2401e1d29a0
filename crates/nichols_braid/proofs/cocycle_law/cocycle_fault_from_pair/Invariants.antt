use Rattle.std.proofs.Common.{◌≡◌, None}
use Rattle.nichols_tensor.specs.Words.{up_to}
use Rattle.nichols_braid.specs.Faults.{first_answer, cocycle_fault_at}
use Rattle.nichols_braid.specs.Tables.{with_scalars}
use Rattle.nichols_braid.proofs.cocycle_law.cocycle_fault_from_pair.Given as goal

abbrev pub invariant-loop-k : goal.invariant-loop-k
invariant-loop-k l = first_answer (cocycle_fault_at (with_scalars l.field l.rack l.scalars) l.i l.j) (up_to l.k) ≡ None
