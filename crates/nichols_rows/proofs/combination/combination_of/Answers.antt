use Rattle.std.proofs.Common.{arith}
use Rattle.nichols_rows.proofs.LoopsOverPlaces.{form_is_ordered}
use Rattle.nichols_rows.proofs.combination.combination_of.Goals as goal

pub from_terms-requires : goal.from_terms-requires
from_terms-requires c = form_is_ordered c.args.words.now c.requires.rising c.args.cells.now c.loop-cell.cell-index c.loop-cell.terms.items c.requires.shape c.requires.inside (omega arith) c.loop-cell.invariant
