use Rattle.std.proofs.Common.{◌≡◌, length, take}
use Rattle.nichols_echelon.specs.Sums.{IsZero}
use Rattle.nichols_cover.specs.Ideal.{generators}
use Rattle.nichols_cover.specs.Rows.{ArePut}
use Rattle.nichols_cover.proofs.products.push_products.Given as goal

abbrev pub invariant-loop-relation : goal.invariant-loop-relation
invariant-loop-relation l = record {
  zero : IsZero l.field l.sums;
  width : length l.sums ≡ length l.fn.sums;
  put : ArePut l.field l.letters l.level.forms.rows l.number (generators l.field (take l.relation-index l.quadratic)) l.fn.rows l.rows;
}
