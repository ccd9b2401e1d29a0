use Rattle.std.proofs.Common.{◌≡◌, ◌≤◌, ℕ, length}
use Rattle.nichols_echelon.specs.Sums.{IsZero}
use Rattle.nichols_block.specs.Rows.{AreRowsAt, rows_by}
use Rattle.nichols_block.proofs.derivatives.derivative_rows.Given as goal

abbrev pub invariant-loop-a : goal.invariant-loop-a
invariant-loop-a l = record {
  letters : length l.lists.items ≡ l.a;
  each : (b : ℕ) → 1 ≤ b → b ≤ l.a → AreRowsAt l.braid l.key.degree l.key.product l.spots b (rows_by l.lists.items b);
  zero : IsZero l.braid.field l.sums;
}
