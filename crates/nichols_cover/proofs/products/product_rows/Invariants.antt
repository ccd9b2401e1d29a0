use Rattle.std.proofs.Common.{◌≡◌, ◌≤◌, ◌*◌, [], length}
use Rattle.nichols_echelon.specs.Sums.{IsZero}
use Rattle.nichols_cover.specs.Ideal.{generators}
use Rattle.nichols_cover.specs.Rows.{AreProductRows}
use Rattle.nichols_cover.proofs.products.product_rows.Given as goal

abbrev pub invariant-loop-number : goal.invariant-loop-number
invariant-loop-number l = record {
  zero : IsZero l.field l.sums;
  width : l.level.count * l.letters ≤ length l.sums;
  begun : l.rows.begun ≡ [];
  rows : AreProductRows l.field l.letters l.level.forms.rows l.number (generators l.field l.quadratic) l.rows.rows;
}
