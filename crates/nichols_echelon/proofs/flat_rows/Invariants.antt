use Rattle.std.proofs.Common.{◌≡◌, [], take}
use Rattle.nichols_echelon.specs.Combination.{AreRows}
use Rattle.nichols_echelon.proofs.flat_rows.Given as goal

abbrev pub invariant-loop-row : goal.invariant-loop-row
invariant-loop-row l = record {
  rows : l.flat.rows ≡ take l.row-index l.rows;
  begun : l.flat.begun ≡ [];
  shape : AreRows l.flat.rows;
}
