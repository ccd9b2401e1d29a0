use Rattle.std.proofs.Common.{◌≡◌, ◌*◌, ◌<◌, ℕ, false, get_or}
use Rattle.nichols_shelf.specs.Owed.{AreStretches}
use Rattle.nichols_shelf.proofs.owed.next.Given as goal

abbrev pub invariant-loop-stretch : goal.invariant-loop-stretch
invariant-loop-stretch l =
    AreStretches l.marks l.stretches.items
    × ((b : ℕ) → b < 64 * l.stretch → get_or l.marks b false ≡ false)
