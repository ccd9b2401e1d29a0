use Rattle.std.proofs.Common.{◌≡◌, [], take}
use Rattle.nichols_rows.specs.Places.{independent_in}
use Rattle.nichols_block.proofs.split.least_rows.Given as goal

abbrev pub invariant-loop-k : goal.invariant-loop-k
invariant-loop-k l = l.least ≡ record { rows = independent_in (take l.k l.rows.rows) (take l.k l.places); begun = [] }
