use Rattle.std.proofs.Common.{◌≡◌, length, take}
use Rattle.nichols_cover.proofs.ProductSums.{AreFollowed}
use Rattle.nichols_cover.proofs.products.add_followed.Given as goal

abbrev pub invariant-loop-cell : goal.invariant-loop-cell
invariant-loop-cell l = record {
  sums : AreFollowed l.field l.letters l.y l.by (take l.cell-index l.cells) l.fn.sums l.sums;
  width : length l.sums ≡ length l.fn.sums;
}
