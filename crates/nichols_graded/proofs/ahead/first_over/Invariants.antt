use Rattle.std.proofs.Common.{◌≡◌, suc, drop, map}
use Rattle.nichols_braid.specs.Kernel.{is_killed}
use Rattle.nichols_braid.specs.Products.{rows}
use Rattle.nichols_graded.specs.Ends.{rows_stop}
use Rattle.nichols_graded.proofs.ahead.first_over.Given as goal

abbrev pub invariant-loop-k : goal.invariant-loop-k
invariant-loop-k l =
    rows_stop l.limit (suc l.degree) 1 (map (rows is_killed l.braid (suc l.degree)) l.next)
    ≡ rows_stop l.limit (suc l.degree) (suc l.k) (drop l.k (map (rows is_killed l.braid (suc l.degree)) l.next))
