use Rattle.std.proofs.Common.{◌≡◌, ℕ, length}
use Rattle.nichols_field.specs.Field.{plus, times}
use Rattle.nichols_echelon.specs.Cells.{entry}
use Rattle.nichols_echelon.specs.Parts.{joined_row}
use Rattle.nichols_echelon.specs.Sums.{sum_at}
use Rattle.nichols_echelon.proofs.parts.add_parts.Given as goal

abbrev pub invariant-loop-a : goal.invariant-loop-a
invariant-loop-a l = record {
  value : (place : ℕ) → sum_at l.field l.sums place ≡ plus l.field (sum_at l.field l.initial.sums place) (times l.field l.by (entry l.field (joined_row l.lists l.offsets l.k l.a) place));
  width : length l.sums ≡ length l.initial.sums;
}
