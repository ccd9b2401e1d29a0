use Rattle.std.proofs.Common.{◌≡◌, ℕ, ◌<◌, ◌≤◌, ◌||◌, get_or, false, vec_len}
use Rattle.nichols_shelf.proofs.owed.mark_all.Given as goal

abbrev pub invariant-loop-i : goal.invariant-loop-i
invariant-loop-i l =
    (vec_len l.marks ≡ vec_len l.initial.marks)
    × ((b : ℕ) → b < l.i → get_or l.marks.items b false ≡ (get_or l.initial.marks.items b false || get_or l.others b false))
    × ((b : ℕ) → l.i ≤ b → get_or l.marks.items b false ≡ get_or l.initial.marks.items b false)
