use Rattle.std.proofs.Common.{◌≡◌, ◌<◌, ℕ, [], length}
use Rattle.nichols_echelon.specs.Combination.{row_at}
use Rattle.nichols_echelon.specs.Numbering.{IsNumbered}
use Rattle.nichols_echelon.proofs.numbering.numbered_rows.Given as goal

abbrev pub invariant-loop-k : goal.invariant-loop-k
invariant-loop-k l = record {
  begun : l.numbered.begun ≡ [];
  count : length l.numbered.rows ≡ l.k;
  each : (j : ℕ) → j < l.k → IsNumbered l.columns (row_at l.rows.rows j) (row_at l.numbered.rows j);
}
