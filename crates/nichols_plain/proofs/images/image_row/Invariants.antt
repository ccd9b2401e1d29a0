use Rattle.std.proofs.Common.{◌≡◌, take}
use Rattle.nichols_plain.specs.Columns.{row_of}
use Rattle.nichols_plain.proofs.images.image_row.Given as goal

abbrev pub invariant-loop-term : goal.invariant-loop-term
invariant-loop-term l = l.cells.items ≡ row_of l.braid.letters (take l.term-index l.term-items)
