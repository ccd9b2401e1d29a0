use Rattle.std.proofs.Common.{◌≡◌, take}
use Rattle.nichols_rows.specs.CombinationAt.{combination_at}
use Rattle.nichols_rows.proofs.combination.combination_of.Given as goal

abbrev pub invariant-loop-cell : goal.invariant-loop-cell
invariant-loop-cell l = l.terms.items ≡ combination_at l.words (take l.cell-index l.cells)
