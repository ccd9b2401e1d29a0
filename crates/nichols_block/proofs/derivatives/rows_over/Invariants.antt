use Rattle.std.proofs.Common.{◌≤◌, length, take}
use Rattle.nichols_echelon.specs.Sums.{IsZero}
use Rattle.nichols_value.specs.Block.{lower_basis}
use Rattle.nichols_block.specs.Rows.{AreRowsAt}
use Rattle.nichols_block.proofs.derivatives.rows_over.Given as goal

abbrev pub invariant-loop-spot : goal.invariant-loop-spot
invariant-loop-spot l = record {
  rows : AreRowsAt l.braid l.key.degree l.key.product (take l.spot-index l.spots) l.a l.rows;
  zero : IsZero l.braid.field l.sums;
  width : length (lower_basis l.braid l.key.degree l.key.product l.a) ≤ length l.sums;
}
