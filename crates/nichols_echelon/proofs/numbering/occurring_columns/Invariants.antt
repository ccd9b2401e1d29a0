use Rattle.std.proofs.Common.{◌≡◌, ◌++◌, drop}
use Rattle.nichols_echelon.specs.Numbering.{all_columns}
use Rattle.nichols_echelon.proofs.numbering.occurring_columns.Given as goal

abbrev pub invariant-loop-k : goal.invariant-loop-k
invariant-loop-k l = l.columns.items ++ all_columns (drop l.k l.rows.rows) ≡ all_columns l.rows.rows
