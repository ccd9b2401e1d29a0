use Rattle.std.proofs.Common.{◌≡◌, take}
use Rattle.nichols_echelon.specs.Numbering.{IsNumbered}
use Rattle.nichols_echelon.proofs.numbering.push_numbered.Given as goal

abbrev pub invariant-loop-cell : goal.invariant-loop-cell
invariant-loop-cell l = record {
  rows : l.out.rows ≡ l.initial.out.rows;
  numbered : IsNumbered l.columns (take l.cell-index l.cells) l.out.begun;
}
