use Rattle.std.proofs.Common.{◌<◌, ◌≤◌, ◌^◌, ℕ}
use Rattle.nichols_echelon.specs.Cells.{AllBelow}
use Rattle.nichols_echelon.specs.Combination.{row_at}
use Rattle.nichols_echelon.proofs.width_of.Given as goal

abbrev pub invariant-loop-k : goal.invariant-loop-k
invariant-loop-k l = record {
  below : (j : ℕ) → j < l.k → AllBelow l.width (row_at l.rows.rows j);
  short : l.width ≤ 2 ^ 32;
}
