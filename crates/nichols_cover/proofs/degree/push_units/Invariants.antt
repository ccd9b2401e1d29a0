use Rattle.std.proofs.Common.{◌≡◌, ◌++◌, []}
use Rattle.nichols_cover.specs.Units.{unit_rows}
use Rattle.nichols_cover.proofs.degree.push_units.Given as goal

abbrev pub invariant-loop-column : goal.invariant-loop-column
invariant-loop-column l = l.rows ≡ record { rows = l.fn.rows.rows ++ unit_rows l.column; begun = [] }
