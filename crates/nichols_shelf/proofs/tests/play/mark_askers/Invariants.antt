use Rattle.std.proofs.Common.{◌≡◌, ℕ, ◌||◌, false, get_or, length, take}
use Rattle.nichols_shelf.specs.Lists.{is_in}
use Rattle.nichols_shelf.specs.Views.{askers}
use Rattle.nichols_shelf.proofs.tests.play.mark_askers.Given as goal

abbrev pub invariant-loop-i : goal.invariant-loop-i
invariant-loop-i l =
    (length l.resumed.items ≡ length l.layout.degrees)
    × ((b : ℕ) → get_or l.resumed.items b false ≡ (get_or l.initial.resumed.items b false || is_in b (askers (take l.i l.layout.edges) l.block l.bits)))
