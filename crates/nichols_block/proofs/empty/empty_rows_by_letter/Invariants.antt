use Rattle.std.proofs.Common.{◌≡◌, [], replicate}
use Rattle.nichols_block.proofs.empty.empty_rows_by_letter.Given as goal

abbrev pub invariant-loop : goal.invariant-loop
invariant-loop l = l.lists.items ≡ replicate l.counter (record { rows = replicate l.count []; begun = [] })
