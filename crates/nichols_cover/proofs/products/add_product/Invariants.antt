use Rattle.std.proofs.Common.{◌≡◌, length, take}
use Rattle.nichols_cover.proofs.ProductSums.{IsBegun}
use Rattle.nichols_cover.proofs.products.add_product.Given as goal

abbrev pub invariant-loop-term : goal.invariant-loop-term
invariant-loop-term l = record {
  sums : IsBegun l.field l.letters l.level.forms.rows l.number l.relation (take l.term-index l.relation.form) l.fn.sums l.sums;
  width : length l.sums ≡ length l.fn.sums;
}
