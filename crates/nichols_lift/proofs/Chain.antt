-- The crossings at consecutive places carry a letter to the end of its word; crossings before it leave it there.
use Rattle.std.proofs.Common.{◌≡◌, ℕ, zero, suc, ◌<◌, List, [], ◌∷◌, ◌++◌, map, length, refl, sym, ◌∙◌, ap, ap₂, subst, arith, append_assoc}
use Rattle.std.specs.List.{All}
use Rattle.std.proofs.lemmas.List.{append-nil}
use Rattle.std.proofs.lemmas.List.Elements.{All-head, All-tail}
use Rattle.std.proofs.lemmas.List.Sorted.{All-permutation}
use Rattle.nichols_field.specs.Field.{FieldValue, IsField, IsElement, times}
use Rattle.nichols_field.proofs.FieldLaws.{times_assoc, times_one, times_is_element}
use Rattle.nichols_tensor.specs.Combination.{Term}
use Rattle.nichols_tensor.proofs.Pushed.{pushed_length}
use Rattle.nichols_braid.specs.Braid.{BraidValue, act, scalar}
use Rattle.nichols_braid.specs.Crossing.{cross, cross_scalar, crossed_term}
use Rattle.nichols_braid.specs.Lift.{exchanged_at, IsDescentAt, IsSorted, IsDescending}
use Rattle.nichols_braid.specs.Derivation.{scalars_met}
use Rattle.nichols_braid.proofs.Rearranged.{consecutive}
use Rattle.nichols_tensor.proofs.Terms.{term}
use Rattle.nichols_lift.proofs.Step.{exchanged_is_permutation, exchanged_length}
use Rattle.nichols_braid.proofs.WholeKernel.{cross_length}

-- ---- a letter is carried to the end

cross_behind : (braid : BraidValue) (front : List ℕ) (a b : ℕ) (u : List ℕ) → cross braid (suc (length front)) (front ++ a ∷ b ∷ u) ≡ front ++ act braid a b ∷ a ∷ u
cross_behind braid [] a b u = refl
cross_behind braid (x ∷ front) a b u = ap (λ w. x ∷ w) (cross_behind braid front a b u)

scalar_behind : (braid : BraidValue) (front : List ℕ) (a b : ℕ) (u : List ℕ) → cross_scalar braid (suc (length front)) (front ++ a ∷ b ∷ u) ≡ scalar braid a b
scalar_behind braid [] a b u = refl
scalar_behind braid (x ∷ front) a b u = scalar_behind braid front a b u

pub carried_to_end : (braid : BraidValue) → IsField braid.field → (front : List ℕ) (a : ℕ) (u : List ℕ) (c : ℕ) → IsElement braid.field c →
    crossed_term braid (consecutive (suc (length front)) (length u)) (term (front ++ a ∷ u) c) ≡ term (front ++ (map (act braid a) u ++ a ∷ [])) (times braid.field c (scalars_met braid a u))
carried_to_end braid is front a [] c e = ap (term (front ++ a ∷ [])) (sym (times_one braid.field c e))
carried_to_end braid is front a (b ∷ u) c e =
    let next : List ℕ = front ++ act braid a b ∷ [] in
    let d : ℕ = times braid.field c (scalar braid a b) in
    ap₂ (λ w s. crossed_term braid (consecutive (suc (suc (length front))) (length u)) (term w (times braid.field c s))) (cross_behind braid front a b u ∙ sym (append_assoc front (act braid a b ∷ []) (a ∷ u))) (scalar_behind braid front a b u)
    ∙ ap (λ n. crossed_term braid (consecutive (suc n) (length u)) (term (next ++ a ∷ u) d)) (sym (pushed_length front (act braid a b)))
    ∙ carried_to_end braid is next a u d (times_is_element braid.field c (scalar braid a b) is)
    ∙ ap₂ term (append_assoc front (act braid a b ∷ []) (map (act braid a) u ++ a ∷ [])) (times_assoc braid.field c (scalar braid a b) (scalars_met braid a u))

-- ---- a greatest entry is carried to the end

exchanged_behind : (front : List ℕ) (a b : ℕ) (u : List ℕ) → exchanged_at (suc (length front)) (front ++ a ∷ b ∷ u) ≡ front ++ b ∷ a ∷ u
exchanged_behind [] a b u = refl
exchanged_behind (x ∷ front) a b u = ap (λ w. x ∷ w) (exchanged_behind front a b u)

descent_behind : (front : List ℕ) (a b : ℕ) (u : List ℕ) → b < a → IsDescentAt (suc (length front)) (front ++ a ∷ b ∷ u)
descent_behind [] a b u h = h
descent_behind (x ∷ front) a b u h = descent_behind front a b u h

descending_carry : (n : ℕ) (front rest places : List ℕ) → All (λ a. a < n) rest → IsDescending ((front ++ rest) ++ n ∷ []) places → IsDescending (front ++ n ∷ rest) (consecutive (suc (length front)) (length rest) ++ places)
descending_carry n front [] places less h = subst (λ es. IsDescending (es ++ n ∷ []) places) (append-nil front) h
descending_carry n front (r ∷ rest) places less h = (
  descent_behind front n r rest (All-head (λ a. a < n) r rest less),
  subst (λ es. IsDescending es (consecutive (suc (suc (length front))) (length rest) ++ places)) (append_assoc front (r ∷ []) (n ∷ rest) ∙ sym (exchanged_behind front n r rest))
      (subst (λ k. IsDescending ((front ++ r ∷ []) ++ n ∷ rest) (consecutive (suc k) (length rest) ++ places)) (pushed_length front r)
      (descending_carry n (front ++ r ∷ []) rest places (All-tail (λ a. a < n) r rest less) (subst (λ es. IsDescending (es ++ n ∷ []) places) (sym (append_assoc front (r ∷ []) rest)) h))),
)

-- ---- a greatest entry at the end stays there

exchanged_within : (n i : ℕ) (ends : List ℕ) → IsDescentAt i ends → exchanged_at i (ends ++ n ∷ []) ≡ exchanged_at i ends ++ n ∷ []
exchanged_within n zero ends h = absurd h
exchanged_within n (suc zero) [] h = absurd h
exchanged_within n (suc zero) (a ∷ []) h = absurd h
exchanged_within n (suc zero) (a ∷ b ∷ ends) h = refl
exchanged_within n (suc (suc i)) [] h = absurd h
exchanged_within n (suc (suc i)) (a ∷ ends) h = ap (λ w. a ∷ w) (exchanged_within n (suc i) ends h)

descent_within : (n i : ℕ) (ends : List ℕ) → IsDescentAt i ends → IsDescentAt i (ends ++ n ∷ [])
descent_within n zero ends h = absurd h
descent_within n (suc zero) [] h = absurd h
descent_within n (suc zero) (a ∷ []) h = absurd h
descent_within n (suc zero) (a ∷ b ∷ ends) h = h
descent_within n (suc (suc i)) [] h = absurd h
descent_within n (suc (suc i)) (a ∷ ends) h = descent_within n (suc i) ends h

sorted_within : (n : ℕ) (ends : List ℕ) → All (λ a. a < n) ends → IsSorted ends → IsSorted (ends ++ n ∷ [])
sorted_within n [] less h = tt
sorted_within n (a ∷ []) less h = (let b : a < n = All-head (λ a. a < n) a [] less in omega arith, tt)
sorted_within n (a ∷ b ∷ ends) less h = (h.0, sorted_within n (b ∷ ends) (All-tail (λ a. a < n) a (b ∷ ends) less) h.1)

descending_within : (n : ℕ) (ends places : List ℕ) → All (λ a. a < n) ends → IsDescending ends places → IsDescending (ends ++ n ∷ []) places
descending_within n ends [] less h = sorted_within n ends less h
descending_within n ends (i ∷ places) less h = (
  descent_within n i ends h.0,
  subst (λ es. IsDescending es places) (sym (exchanged_within n i ends h.0))
      (descending_within n (exchanged_at i ends) places (All-permutation (λ a. a < n) ends (exchanged_at i ends) (exchanged_is_permutation i ends h.0) less) h.1),
)

all_behind : (P : ℕ → Type 0) (front rest : List ℕ) → All P (front ++ rest) → All P rest
all_behind P [] rest h = h
all_behind P (x ∷ front) rest h = all_behind P front rest (All-tail P x (front ++ rest) h)

-- so a descending list of what is left gives one of the whole
pub descending_inserted : (n : ℕ) (front rest places : List ℕ) → All (λ a. a < n) (front ++ rest) → IsDescending (front ++ rest) places → IsDescending (front ++ n ∷ rest) (consecutive (suc (length front)) (length rest) ++ places)
descending_inserted n front rest places less h =
    descending_carry n front rest places (all_behind (λ a. a < n) front rest less) (descending_within n (front ++ rest) places less h)

-- ---- a letter at the end stays there

-- the term with a letter put behind, and with a factor
abbrev pub behind : ℕ → Term → Term
behind x t = record { word = t.word ++ x ∷ []; coefficient = t.coefficient }

abbrev pub multiple : FieldValue → ℕ → Term → Term
multiple k c t = record { word = t.word; coefficient = times k c t.coefficient }

cross_within : (braid : BraidValue) (x i : ℕ) (ends v : List ℕ) → IsDescentAt i ends → length v ≡ length ends → cross braid i (v ++ x ∷ []) ≡ cross braid i v ++ x ∷ []
cross_within braid x zero ends v h same = absurd h
cross_within braid x (suc zero) [] v h same = absurd h
cross_within braid x (suc zero) (a ∷ []) v h same = absurd h
cross_within braid x (suc zero) (a ∷ b ∷ ends) [] h same = absurd (omega arith)
cross_within braid x (suc zero) (a ∷ b ∷ ends) (y ∷ []) h same = absurd (omega arith)
cross_within braid x (suc zero) (a ∷ b ∷ ends) (y ∷ z ∷ v) h same = refl
cross_within braid x (suc (suc i)) [] v h same = absurd h
cross_within braid x (suc (suc i)) (a ∷ ends) [] h same = absurd (omega arith)
cross_within braid x (suc (suc i)) (a ∷ ends) (y ∷ v) h same = ap (λ w. y ∷ w) (cross_within braid x (suc i) ends v h (omega arith))

scalar_within : (braid : BraidValue) (x i : ℕ) (ends v : List ℕ) → IsDescentAt i ends → length v ≡ length ends → cross_scalar braid i (v ++ x ∷ []) ≡ cross_scalar braid i v
scalar_within braid x zero ends v h same = absurd h
scalar_within braid x (suc zero) [] v h same = absurd h
scalar_within braid x (suc zero) (a ∷ []) v h same = absurd h
scalar_within braid x (suc zero) (a ∷ b ∷ ends) [] h same = absurd (omega arith)
scalar_within braid x (suc zero) (a ∷ b ∷ ends) (y ∷ []) h same = absurd (omega arith)
scalar_within braid x (suc zero) (a ∷ b ∷ ends) (y ∷ z ∷ v) h same = refl
scalar_within braid x (suc (suc i)) [] v h same = absurd h
scalar_within braid x (suc (suc i)) (a ∷ ends) [] h same = absurd (omega arith)
scalar_within braid x (suc (suc i)) (a ∷ ends) (y ∷ v) h same = scalar_within braid x (suc i) ends v h (omega arith)

pub crossed_within : (braid : BraidValue) (x : ℕ) (places ends v : List ℕ) (c : ℕ) → IsDescending ends places → length v ≡ length ends → crossed_term braid places (term (v ++ x ∷ []) c) ≡ behind x (crossed_term braid places (term v c))
crossed_within braid x [] ends v c h same = refl
crossed_within braid x (i ∷ places) ends v c h same =
    ap₂ (λ w s. crossed_term braid places (term w (times braid.field c s))) (cross_within braid x i ends v h.0 same) (scalar_within braid x i ends v h.0 same)
    ∙ crossed_within braid x places (exchanged_at i ends) (cross braid i v) (times braid.field c (cross_scalar braid i v)) h.1 (cross_length braid i v ∙ same ∙ sym (exchanged_length i ends))

pub crossed_term-append : (braid : BraidValue) (places more : List ℕ) (t : Term) → crossed_term braid (places ++ more) t ≡ crossed_term braid more (crossed_term braid places t)
crossed_term-append braid [] more t = refl
crossed_term-append braid (i ∷ places) more t = crossed_term-append braid places more (term (cross braid i t.word) (times braid.field t.coefficient (cross_scalar braid i t.word)))

pub crossed_multiple : (braid : BraidValue) (places : List ℕ) (v : List ℕ) (c d : ℕ) → crossed_term braid places (term v (times braid.field c d)) ≡ multiple braid.field c (crossed_term braid places (term v d))
crossed_multiple braid [] v c d = refl
crossed_multiple braid (i ∷ places) v c d =
    ap (λ s. crossed_term braid places (term (cross braid i v) s)) (times_assoc braid.field c d (cross_scalar braid i v))
    ∙ crossed_multiple braid places (cross braid i v) c (times braid.field d (cross_scalar braid i v))
