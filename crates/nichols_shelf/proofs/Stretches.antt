-- Flags of stretches of blocks.
use Rattle.std.proofs.Common.{◌≡◌, ℕ, ◌+◌, ◌*◌, ◌<◌, ◌≤◌, ◌⊎◌, Bool, false, List, get_or, set, sym, ◌∙◌, inl, inr, ⊎_elim, lt_of_not-le, arith, length-set, get_or-set_other}
use mathlib.Core.Logic.{dite}
use native.Mathlib.Decide.{ℕ_discrete, dec_le}
use Rattle.nichols_shelf.specs.Owed.{AreStretches}

pub le_or_lt : (a b : ℕ) → (a ≤ b) ⊎ (b < a)
le_or_lt a b = elim (dec_le a b) [ yes h ↦ inl h | no h ↦ inr (lt_of_not-le h) ]

module _ (marks stretches : List Bool) (h : AreStretches marks stretches) (s : ℕ) (before : (b : ℕ) → b < 64 * s → get_or marks b false ≡ false) where
  -- none of a stretch without a flag is marked
  pub passed_over : get_or stretches s false ≡ false → (b : ℕ) → b < 64 * (s + 1) → get_or marks b false ≡ false
  passed_over free b below = ⊎_elim (λ from. h.free s free b from (omega arith)) (λ under. before b under) (le_or_lt (64 * s) b)

  -- and the flag of one that was searched in vain may be cleared
  pub searched : ((b : ℕ) → 64 * s ≤ b → b < 64 * (s + 1) → get_or marks b false ≡ false)
      → AreStretches marks (set stretches s false) × ((b : ℕ) → b < 64 * (s + 1) → get_or marks b false ≡ false)
  searched none = (
    record {
      room = length-set stretches s false ∙ h.room;
      free = λ j clear b from to. dite (ℕ_discrete j s)
          (λ e. none b (omega arith) (omega arith))
          (λ ne. h.free j (sym (get_or-set_other stretches s j false false ne) ∙ clear) b from to);
    },
    (λ b below. ⊎_elim (λ from. none b from below) (λ under. before b under) (le_or_lt (64 * s) b)),
  )
