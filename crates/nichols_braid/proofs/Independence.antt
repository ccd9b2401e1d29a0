-- The least words are independent: a combination of them that passes a linear test is zero.
use Rattle.std.proofs.Common.{◌≡◌, ◌≢◌, ℕ, Bool, true, false, not, cond, List, [], ◌∷◌, ◌++◌, length, refl, sym, ◌∙◌, ap, subst, nat_eq, inl, inr, append_assoc}
use Rattle.std.specs.List.{Contains}
use Rattle.std.proofs.lemmas.List.{append-nil}
use Rattle.std.proofs.lemmas.List.Elements.{Contains-append_left, Contains-push_cases}
use Rattle.std.proofs.lemmas.Bool.Decides.{Decides-eqb}
use Rattle.nichols_field.specs.Field.{FieldValue, IsField, plus, times, negative}
use Rattle.nichols_field.proofs.FieldLaws.{times_comm, times_assoc, times_plus, times_is_element, has_reciprocal}
use Rattle.nichols_field.proofs.FieldAlgebra.{zero_plus, zero_times, one_times, negative_twice}
use Rattle.nichols_tensor.specs.Combination.{Combination, value_at, HasSameValues, IsZero, AllAmong, single, scalar_multiple, minus, same_letters}
use Rattle.nichols_tensor.specs.Words.{IsWordOver, words_before}
use Rattle.nichols_tensor.specs.WordOrder.{IsRising}
use Rattle.nichols_tensor.proofs.Values.{value_is_element, value_at-scalar_multiple, value_at-minus, value_at-linear_map, weight, weight_split, without, same_itself}
use Rattle.nichols_tensor.proofs.Linear.{same_from_minus}
use Rattle.nichols_tensor.proofs.Enumeration.{among_weaker, among-append, among-scalar_multiple}
use Rattle.nichols_tensor.proofs.Entries.{contains_none}
use Rattle.nichols_tensor.proofs.Rising.{in_middle, stands_before}
use Rattle.nichols_tensor.proofs.AllWords.{in_words_before}
use Rattle.nichols_braid.specs.Braid.{BraidValue}
use Rattle.nichols_braid.specs.Kernel.{Vanishing}
use Rattle.nichols_braid.specs.Least.{is_least, basis}
use Rattle.nichols_braid.specs.LinearTest.{IsLinearTest}
use Rattle.nichols_braid.proofs.Maps.{extended_identity}
use Rattle.nichols_braid.proofs.Congruences.{AreCongruent}
use Rattle.nichols_braid.proofs.LeastWords.{least_refutes_at}
use Rattle.nichols_braid.proofs.Reduction.{from_basis, basis_rises}

-- ---- one word and the others

value_as_weight : (k : FieldValue) → IsField k → (f : Combination) (u : List ℕ) → value_at k f u ≡ weight k (λ v. value_at k (single v) u) f
value_as_weight k is f u = sym (extended_identity k is f u) ∙ value_at-linear_map k is single f u

-- f is its value at w times w, and the terms of other words
pub value_split : (k : FieldValue) → IsField k → (w : List ℕ) (f : Combination) (u : List ℕ) → value_at k f u ≡ plus k (times k (value_at k f w) (value_at k (single w) u)) (value_at k (without w f) u)
value_split k is w f u =
    value_as_weight k is f u ∙ weight_split k is (λ v. value_at k (single v) u) w f
    ∙ ap (plus k (times k (value_at k f w) (value_at k (single w) u))) (sym (value_as_weight k is (without w f) u))

other_words : (w : List ℕ) (f : Combination) (ws : List (List ℕ)) → AllAmong f (ws ++ w ∷ []) → AllAmong (without w f) ws
unfolding AllAmong
other_words w [] ws h = tt
other_words w (t ∷ f) ws h = at (same_letters t.word w) refl (other_words w f ws h.1)
  where
    other : same_letters t.word w ≡ false → Contains ws t.word
    other d =
        elim (Contains-push_cases ws w t.word h.0) [
          | inl i ↦ i
          | inr e ↦ absurd (let c : true ≡ false = sym (same_itself t.word) ∙ ap (same_letters t.word) (sym e) ∙ d in cc)
        ]

    at : (b : Bool) → same_letters t.word w ≡ b → AllAmong (without w f) ws → AllAmong (cond (not b) (t ∷ without w f) (without w f)) ws
    at true e r = r
    at false e r = (other e, r)

-- where f passes and its value at w has the reciprocal r, w is congruent to -r times the other terms
congruent_to_others : (k : FieldValue) → IsField k → (test : Combination → Bool) → IsLinearTest k test → (w : List ℕ) (f : Combination) (r : ℕ) → times k (value_at k f w) r ≡ 1 → test f ≡ true →
    AreCongruent k test (single w) (scalar_multiple k (times k (negative k 1) r) (without w f))
congruent_to_others k is test l w f r e h = l.sees_values (scalar_multiple k r f) (minus k (single w) (scalar_multiple k (times k (negative k 1) r) (without w f))) values (l.keeps_multiples r f h)
  where
    values : HasSameValues k (scalar_multiple k r f) (minus k (single w) (scalar_multiple k (times k (negative k 1) r) (without w f)))
    values u =
        let n : ℕ = negative k 1 in
        let s : ℕ = value_at k (single w) u in
        let o : ℕ = value_at k (without w f) u in
        let c : ℕ = value_at k f w in
        let left : value_at k (scalar_multiple k r f) u ≡ plus k s (times k r o) =
        value_at-scalar_multiple k is r f u ∙ ap (times k r) (value_split k is w f u) ∙ times_plus k r (times k c s) o
        ∙ ap (λ x. plus k x (times k r o)) (sym (times_assoc k r c s) ∙ ap (λ x. times k x s) (times_comm k r c ∙ e) ∙ one_times k s (value_is_element k is (single w) u)) in
        let right : value_at k (minus k (single w) (scalar_multiple k (times k n r) (without w f))) u ≡ plus k s (times k r o) =
        value_at-minus k is (single w) (scalar_multiple k (times k n r) (without w f)) u
        ∙ ap (λ x. plus k s (times k n x)) (value_at-scalar_multiple k is (times k n r) (without w f) u ∙ times_assoc k n r o)
        ∙ ap (plus k s) (negative_twice k (times k r o) is (times_is_element k r o is)) in
        left ∙ sym right

-- ---- the last word of the combination

abbrev IsIndependent : FieldValue → (Combination → Bool) → List (List ℕ) → Type 0
IsIndependent k test ws = (f : Combination) → AllAmong f ws → test f ≡ true → IsZero k f

one_more : (vanishes : Vanishing) (braid : BraidValue) → IsField braid.field → (m : ℕ) → IsLinearTest braid.field (vanishes braid m) → (vs : List (List ℕ)) (w : List ℕ) (us : List (List ℕ)) →
    basis vanishes braid m ≡ vs ++ w ∷ us → IsIndependent braid.field (vanishes braid m) vs → IsIndependent braid.field (vanishes braid m) (vs ++ w ∷ [])
one_more vanishes braid is m l vs w us e independent f among h = at (nat_eq (value_at k f w) 0) refl
  where
    k : FieldValue
    k = braid.field

    others : AllAmong (without w f) vs
    others = other_words w f vs among

    from : (v : List ℕ) → Contains (vs ++ w ∷ us) v → (length v ≡ m) × IsWordOver braid.letters v × (is_least vanishes braid v ≡ true)
    from v i = from_basis vanishes braid m v (subst (λ ws. Contains ws v) (sym e) i)

    last : (length w ≡ m) × IsWordOver braid.letters w × (is_least vanishes braid w ≡ true)
    last = from w (in_middle vs w us)

    before : (v : List ℕ) → Contains vs v → Contains (words_before braid.letters w) v
    before v i =
        let own : (length v ≡ m) × IsWordOver braid.letters v × (is_least vanishes braid v ≡ true) = from v (Contains-append_left vs (w ∷ us) v i) in
        in_words_before braid.letters v w (own.0 ∙ sym last.0) own.1 (stands_before vs w us v (subst IsRising e (basis_rises vanishes braid m)) i)

    nonzero : value_at k f w ≢ 0 → IsZero k f
    nonzero some =
        let (r, element, reciprocal) = has_reciprocal k (value_at k f w) is (value_is_element k is f w) some in
        absurd (least_refutes_at vanishes braid is m l w last.0 last.2 (scalar_multiple k (times k (negative k 1) r) (without w f))
        (among-scalar_multiple k (times k (negative k 1) r) (without w f) (words_before braid.letters w) (among_weaker (without w f) vs (words_before braid.letters w) before others))
        (congruent_to_others k is (vanishes braid m) l w f r reciprocal h))

    zero : value_at k f w ≡ 0 → IsZero k f
    zero none =
        let same : HasSameValues k f (without w f) = λ u.
        value_split k is w f u ∙ ap (λ x. plus k (times k x (value_at k (single w) u)) (value_at k (without w f) u)) none
        ∙ ap (λ x. plus k x (value_at k (without w f) u)) (zero_times k (value_at k (single w) u) is) ∙ zero_plus k (value_at k (without w f) u) (value_is_element k is (without w f) u) in
        λ u. same u ∙ independent (without w f) others (l.sees_values f (without w f) same h) u

    at : (b : Bool) → nat_eq (value_at k f w) 0 ≡ b → IsZero k f
    at true t = zero ((Decides-eqb (value_at k f w) 0).0 t)
    at false t = nonzero (λ z. let c : true ≡ false = sym ((Decides-eqb (value_at k f w) 0).1 z) ∙ t in cc)

from_front : (vanishes : Vanishing) (braid : BraidValue) → IsField braid.field → (m : ℕ) → IsLinearTest braid.field (vanishes braid m) → (vs us : List (List ℕ)) →
    basis vanishes braid m ≡ vs ++ us → IsIndependent braid.field (vanishes braid m) vs → IsIndependent braid.field (vanishes braid m) (basis vanishes braid m)
from_front vanishes braid is m l vs [] e independent f among h = independent f (subst (AllAmong f) (e ∙ append-nil vs) among) h
from_front vanishes braid is m l vs (w ∷ us) e independent f among h =
    from_front vanishes braid is m l (vs ++ w ∷ []) us (e ∙ sym (append_assoc vs (w ∷ []) us)) (one_more vanishes braid is m l vs w us e independent) f among h

-- a combination of least words that passes is zero
pub basis_is_independent : (vanishes : Vanishing) (braid : BraidValue) → IsField braid.field → (m : ℕ) → IsLinearTest braid.field (vanishes braid m) → (f : Combination) → AllAmong f (basis vanishes braid m) → vanishes braid m f ≡ true → IsZero braid.field f
unfolding AllAmong
basis_is_independent vanishes braid is m l f among h = from_front vanishes braid is m l [] (basis vanishes braid m) refl nothing f among h
  where
    nothing : IsIndependent braid.field (vanishes braid m) []
    nothing [] a p = λ w. refl
    nothing (t ∷ f) a p = absurd (contains_none t.word a.0)

-- combinations of least words that are congruent have the same values
pub same_on_basis : (vanishes : Vanishing) (braid : BraidValue) → IsField braid.field → (m : ℕ) → IsLinearTest braid.field (vanishes braid m) → (f g : Combination) → AllAmong f (basis vanishes braid m) → AllAmong g (basis vanishes braid m) →
    AreCongruent braid.field (vanishes braid m) f g → HasSameValues braid.field f g
same_on_basis vanishes braid is m l f g a b h =
    let ws : List (List ℕ) = basis vanishes braid m in
    same_from_minus braid.field is f g
    (basis_is_independent vanishes braid is m l (minus braid.field f g) (among-append f (scalar_multiple braid.field (negative braid.field 1) g) ws a (among-scalar_multiple braid.field (negative braid.field 1) g ws b)) h)
