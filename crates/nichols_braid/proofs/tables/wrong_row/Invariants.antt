use Rattle.std.proofs.Common.{◌≡◌, cond, map, Some, None}
use Rattle.nichols_tensor.specs.Words.{up_to}
use Rattle.nichols_braid.specs.Faults.{first_answer, row_fits}
use Rattle.nichols_braid.proofs.tables.wrong_row.Given as goal

abbrev pub invariant-loop-r : goal.invariant-loop-r
invariant-loop-r g l = first_answer (λ r. cond (row_fits l.letters (map (λ row. row.items) l.rows) r) None (Some r)) (up_to l.r) ≡ None
