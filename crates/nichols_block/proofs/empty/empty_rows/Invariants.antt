use Rattle.std.proofs.Common.{◌≡◌, [], replicate}
use Rattle.nichols_block.proofs.empty.empty_rows.Given as goal

abbrev pub invariant-loop : goal.invariant-loop
invariant-loop l = l.rows ≡ record { rows = replicate l.counter []; begun = [] }
