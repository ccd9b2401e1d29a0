use Rattle.std.proofs.Common.{◌≡◌, ℕ, ◌<◌, ◌+◌, vec_len, get_or, false}
use Rattle.std.specs.Slots.{slots_items}
use Rattle.nichols_shelf.specs.Views.{says_published}
use Rattle.nichols_shelf.proofs.closing.marks.Given as goal

abbrev pub invariant-loop-block : goal.invariant-loop-block
invariant-loop-block l =
    (vec_len l.marks ≡ l.block)
    × ((b : ℕ) → b < l.block → get_or l.marks.items b false ≡ says_published (get_or (slots_items l.closed.words) (1 + l.blocks + b) 0))
