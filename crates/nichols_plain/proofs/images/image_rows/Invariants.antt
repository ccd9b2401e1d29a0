use Rattle.std.proofs.Common.{◌≡◌, ◌<◌, ℕ, length}
use Rattle.nichols_tensor.specs.Positions.{word_at}
use Rattle.nichols_echelon.specs.Cells.{entry}
use Rattle.nichols_echelon.specs.Combination.{AllRowsElements, row_at}
use Rattle.nichols_plain.specs.Columns.{image_entry}
use Rattle.nichols_plain.proofs.images.image_rows.Given as goal

abbrev pub invariant-loop-word : goal.invariant-loop-word
invariant-loop-word l = record {
  count : length l.rows.items ≡ l.word-index;
  entries : (i : ℕ) → i < l.word-index → (column : ℕ) → entry l.braid.field (row_at l.rows.items i) column ≡ image_entry l.braid column (word_at l.words i);
  elements : AllRowsElements l.braid.field l.rows.items;
}
