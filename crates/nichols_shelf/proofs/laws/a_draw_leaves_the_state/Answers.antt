use Rattle.nichols_shelf.proofs.ShelfLaws.{a_draw_leaves_the_state}
use Rattle.nichols_shelf.proofs.laws.a_draw_leaves_the_state.Goals as goal

pub returns : goal.returns
returns c = a_draw_leaves_the_state
