use Rattle.std.proofs.Common.{◌≡◌, ℕ, ◌*◌, ◌<◌, get_or, length}
use Rattle.nichols_tensor.specs.declared.TheConstants.{LETTER_LIMIT}
use Rattle.nichols_core.specs.Layout.{edge_at}
use Rattle.nichols_shelf.specs.Tables.{letter_place}
use Rattle.nichols_shelf.proofs.tables.entries.Given as goal

abbrev pub invariant-loop-number : goal.invariant-loop-number
invariant-loop-number l =
    (length l.table.items ≡ length l.layout.degrees * LETTER_LIMIT)
    × ((k : ℕ) → k < l.number → get_or l.table.items (letter_place (edge_at l.layout.edges k).upper (edge_at l.layout.edges k).letter) 0 ≡ k)
