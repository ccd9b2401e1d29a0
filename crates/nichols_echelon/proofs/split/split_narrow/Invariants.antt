use Rattle.std.proofs.Common.{◌≡◌, ◌≤◌, [], length}
use Rattle.nichols_echelon.specs.Combination.{AllRowsBelow}
use Rattle.nichols_echelon.specs.NextRow.{Holds, Follows}
use Rattle.nichols_echelon.specs.Sums.{IsZero}
use Rattle.nichols_echelon.proofs.split.split_narrow.Given as goal

abbrev pub invariant-loop-position : goal.invariant-loop-position
invariant-loop-position l = record {
  echelon : Holds l.field l.rows l.echelon;
  follows : Follows l.field l.rows l.echelon.pivots.items l.places.items;
  seen : length l.echelon.left.rows ≡ l.position;
  count : length l.places.items ≡ l.position;
  begun : (l.echelon.left.begun ≡ []) × (l.echelon.steps.begun ≡ []);
  zero : IsZero l.field l.sums × IsZero l.field l.back;
  width : (length l.sums ≡ length l.echelon.pivots.items) × (length l.rows ≤ length l.back);
  below : AllRowsBelow (length l.echelon.pivots.items) l.rows;
}
