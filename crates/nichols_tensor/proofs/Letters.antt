-- The list of the letters.
use Rattle.std.proofs.Common.{◌≡◌, ℕ, zero, suc, ◌+◌, [], ◌∷◌, length, Contains, refl, ◌∙◌, ap, subst, arith, inl, inr}
use Rattle.std.proofs.lemmas.List.{length-append}
use Rattle.std.proofs.lemmas.List.Elements.{Contains-append_left, Contains-push, Contains-push_cases}
use Rattle.std.proofs.lemmas.Bool.{cases_lt}
use Rattle.nichols_tensor.specs.Words.{up_to, IsLetterOf}
use Rattle.nichols_tensor.proofs.Entries.{contains_none}

pub in_up_to : (n a : ℕ) → IsLetterOf n a → Contains (up_to n) a
in_up_to zero a h = absurd (omega arith)
in_up_to (suc n) a h =
    elim (cases_lt a (suc n)) [
      | inl less ↦ Contains-append_left (up_to n) (suc n ∷ []) a (in_up_to n a (h.0, omega arith))
      | inr more ↦ let last : suc n ≡ a = omega arith in subst (Contains (up_to (suc n))) last (Contains-push (up_to n) (suc n))
    ]

pub from_up_to : (n a : ℕ) → Contains (up_to n) a → IsLetterOf n a
from_up_to zero a h = absurd (contains_none a h)
from_up_to (suc n) a h =
    elim (Contains-push_cases (up_to n) (suc n) a h) [
      | inl i ↦ let l : IsLetterOf n a = from_up_to n a i in (l.0, omega arith)
      | inr last ↦ (omega arith, omega arith)
    ]

pub up_to_length : (n : ℕ) → length (up_to n) ≡ n
up_to_length zero = refl
up_to_length (suc n) = length-append (up_to n) (suc n ∷ []) ∙ ap (λ l. l + 1) (up_to_length n) ∙ (let e : n + 1 ≡ suc n = omega arith in e)
