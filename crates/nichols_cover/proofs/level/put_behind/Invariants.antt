use Rattle.std.proofs.Common.{◌≡◌, take}
use Rattle.std.specs.Prelude.{slice_index}
use Rattle.nichols_cover.specs.Rows.{numbered}
use Rattle.nichols_cover.specs.Units.{behind}
use Rattle.nichols_cover.proofs.level.put_behind.Given as goal

abbrev pub invariant-loop-cell : goal.invariant-loop-cell
invariant-loop-cell l = record {
  begun : l.forms.begun ≡ numbered (slice_index l.numbers) (behind l.others (take l.cell-index l.cells));
  rows : l.forms.rows ≡ l.fn.forms.rows;
}
