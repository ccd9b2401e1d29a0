-- A letter carried past words from the left, and the skew derivations behind it.
use Rattle.std.proofs.Common.{◌≡◌, ℕ, Bool, true, false, List, [], ◌∷◌, ◌++◌, map, refl, sym, ◌∙◌, ap, ap₂, nat_eq}
use Rattle.std.specs.List.{AllByRecursion}
use Rattle.std.proofs.lemmas.Bool.Decides.{Decides-eqb}
use Rattle.std.proofs.lemmas.List.{map-append, append-nil}
use Rattle.nichols_field.specs.Field.{FieldValue, IsField, times}
use Rattle.nichols_field.proofs.FieldLaws.{times_comm, times_assoc}
use Rattle.nichols_field.proofs.FieldAlgebra.{swap_factors}
use Rattle.nichols_tensor.specs.Combination.{Term, Combination, value_at, HasSameValues, scalar_multiple, linear_map}
use Rattle.nichols_tensor.specs.Words.{IsWordOver, IsOver}
use Rattle.nichols_tensor.proofs.Tests.{same_answer}
use Rattle.nichols_tensor.proofs.Linear.{linear_map-append, same_scaled}
use Rattle.nichols_braid.specs.Braid.{BraidValue, IsLetter, IsRack, IsCocycle, act, scalar}
use Rattle.nichols_braid.specs.Derivation.{scalars_met, derived_word, skew_derivative}
use Rattle.nichols_braid.specs.LeftProduct.{letter_times, carried_word, carried_past}
use Rattle.nichols_braid.proofs.Forms.{scalar_multiple-scalar_multiple}
use Rattle.nichols_braid.proofs.LeftProducts.{letter_times-scalar_multiple}
use Rattle.nichols_braid.proofs.Maps.{extended_same_on, linear_map-multiple, linear_map-linear_map}
use Rattle.nichols_braid.proofs.Rule.{here}

scaled_commute : (k : FieldValue) (c d : ℕ) (f : Combination) → scalar_multiple k c (scalar_multiple k d f) ≡ scalar_multiple k d (scalar_multiple k c f)
scaled_commute k c d f = scalar_multiple-scalar_multiple k c d f ∙ ap (λ n. scalar_multiple k n f) (times_comm k c d) ∙ sym (scalar_multiple-scalar_multiple k d c f)

scalar_multiple-append : (k : FieldValue) (c : ℕ) (f g : Combination) → scalar_multiple k c (f ++ g) ≡ scalar_multiple k c f ++ scalar_multiple k c g
scalar_multiple-append k c f g = map-append (λ t. record { word = t.word; coefficient = times k c t.coefficient }) f g

-- ---- a carried past a letter in front

-- `θ_a x_b f = q(a, b) x_{a ▷ b} θ_a f`
carried_past-letter_times : (braid : BraidValue) (a b : ℕ) (f : Combination) → carried_past braid a (letter_times b f) ≡ scalar_multiple braid.field (scalar braid a b) (letter_times (act braid a b) (carried_past braid a f))
carried_past-letter_times braid a b [] = refl
carried_past-letter_times braid a b (t ∷ f) =
    ap₂ (λ n r. record { word = act braid a b ∷ map (act braid a) t.word; coefficient = n } ∷ r) (swap_factors braid.field t.coefficient (scalar braid a b) (scalars_met braid a t.word)) (carried_past-letter_times braid a b f)

-- ---- two letters carried past a word

-- both ways each letter x becomes `a ▷ (c ▷ x)`
acted_twice : (braid : BraidValue) → IsRack braid → (a c : ℕ) → IsLetter braid a → IsLetter braid c → (w : List ℕ) → IsWordOver braid.letters w →
    map (act braid (act braid a c)) (map (act braid a) w) ≡ map (act braid a) (map (act braid c) w)
acted_twice braid rack a c la lc [] over = refl
acted_twice braid rack a c la lc (x ∷ w) over = ap₂ (λ y v. y ∷ v) (sym (rack.distributive a c x la lc over.0)) (acted_twice braid rack a c la lc w over.1)

-- (a b) (c d) ≡ (a c) (b d)
swap_middle_factors : (k : FieldValue) (a b c d : ℕ) → times k (times k a b) (times k c d) ≡ times k (times k a c) (times k b d)
swap_middle_factors k a b c d = times_assoc k a b (times k c d) ∙ ap (times k a) (swap_factors k b c d) ∙ sym (times_assoc k a c (times k b d))

-- a first and then `a ▷ c` meet as much as c first and then a
met_twice : (braid : BraidValue) → IsCocycle braid → (a c : ℕ) → IsLetter braid a → IsLetter braid c → (w : List ℕ) → IsWordOver braid.letters w →
    times braid.field (scalars_met braid a w) (scalars_met braid (act braid a c) (map (act braid a) w)) ≡ times braid.field (scalars_met braid c w) (scalars_met braid a (map (act braid c) w))
met_twice braid cocycle a c la lc [] over = refl
met_twice braid cocycle a c la lc (x ∷ w) over =
    let k : FieldValue = braid.field in
    swap_middle_factors k (scalar braid a x) (scalars_met braid a w) (scalar braid (act braid a c) (act braid a x)) (scalars_met braid (act braid a c) (map (act braid a) w))
    ∙ ap₂ (times k) (times_comm k (scalar braid a x) (scalar braid (act braid a c) (act braid a x)) ∙ sym (cocycle.law a c x la lc over.0) ∙ times_comm k (scalar braid a (act braid c x)) (scalar braid c x)) (met_twice braid cocycle a c la lc w over.1)
    ∙ swap_middle_factors k (scalar braid c x) (scalar braid a (act braid c x)) (scalars_met braid c w) (scalars_met braid a (map (act braid c) w))

-- ---- the derivation by `a ▷ c` behind a is that by c before a

-- a's map keeps letters apart
same_if_acted_same : (braid : BraidValue) → IsRack braid → (a c x : ℕ) → IsLetter braid a → IsLetter braid c → IsLetter braid x → nat_eq (act braid a c) (act braid a x) ≡ nat_eq c x
same_if_acted_same braid rack a c x la lc lx =
    same_answer (nat_eq (act braid a c) (act braid a x)) (nat_eq c x)
    (λ e. (Decides-eqb c x).1 (rack.injective a c x la lc lx ((Decides-eqb (act braid a c) (act braid a x)).0 e)))
    (λ e. (Decides-eqb (act braid a c) (act braid a x)).1 (ap (act braid a) ((Decides-eqb c x).0 e)))

-- the term of the first letter
first_carried : (braid : BraidValue) → IsRack braid → IsCocycle braid → (a c x : ℕ) → IsLetter braid a → IsLetter braid c → (w : List ℕ) → IsWordOver braid.letters w → (same : Bool) → (same ≡ true → c ≡ x) →
    scalar_multiple braid.field (times braid.field (scalar braid a x) (scalars_met braid a w)) (here same (record { word = map (act braid (act braid a c)) (map (act braid a) w); coefficient = scalars_met braid (act braid a c) (map (act braid a) w) }))
    ≡ scalar_multiple braid.field (scalar braid a c) (carried_past braid a (here same (record { word = map (act braid c) w; coefficient = scalars_met braid c w })))
unfolding here
first_carried braid rack cocycle a c x la lc w over true e =
    let k : FieldValue = braid.field in
    ap₂ (λ v n. record { word = v; coefficient = n } ∷ []) (acted_twice braid rack a c la lc w over)
    (times_assoc k (scalar braid a x) (scalars_met braid a w) (scalars_met braid (act braid a c) (map (act braid a) w)) ∙ ap₂ (λ y n. times k (scalar braid a y) n) (sym (e refl)) (met_twice braid cocycle a c la lc w over))
first_carried braid rack cocycle a c x la lc w over false e = refl

-- at a word w, where `θ_a w` is its word times what a met
derived_word-carried_past : (braid : BraidValue) → IsRack braid → IsCocycle braid → (a c : ℕ) → IsLetter braid a → IsLetter braid c → (w : List ℕ) → IsWordOver braid.letters w →
    scalar_multiple braid.field (scalars_met braid a w) (derived_word braid (act braid a c) (map (act braid a) w)) ≡ scalar_multiple braid.field (scalar braid a c) (carried_past braid a (derived_word braid c w))
unfolding derived_word here
derived_word-carried_past braid rack cocycle a c la lc [] over = refl
derived_word-carried_past braid rack cocycle a c la lc (x ∷ w) over =
    scalar_multiple-append k (times k p met) (here (nat_eq ac ax) then) (letter_times ax behind)
    ∙ ap₂ (λ f g. f ++ g)
    (ap (λ b. scalar_multiple k (times k p met) (here b then)) (same_if_acted_same braid rack a c x la lc over.0) ∙ first_carried braid rack cocycle a c x la lc w over.1 (nat_eq c x) (Decides-eqb c x).0)
    (sym (scalar_multiple-scalar_multiple k p met (letter_times ax behind))
    ∙ ap (scalar_multiple k p) (sym (letter_times-scalar_multiple k ax met behind) ∙ ap (letter_times ax) (derived_word-carried_past braid rack cocycle a c la lc w over.1) ∙ letter_times-scalar_multiple k ax q (carried_past braid a before))
    ∙ scaled_commute k p q (letter_times ax (carried_past braid a before))
    ∙ ap (scalar_multiple k q) (sym (carried_past-letter_times braid a x before)))
    ∙ sym (ap (scalar_multiple k q) (linear_map-append k (carried_word braid a) (here (nat_eq c x) now) (letter_times x before)) ∙ scalar_multiple-append k q (carried_past braid a (here (nat_eq c x) now)) (carried_past braid a (letter_times x before)))
  where
    k : FieldValue
    k = braid.field

    p : ℕ
    p = scalar braid a x

    q : ℕ
    q = scalar braid a c

    met : ℕ
    met = scalars_met braid a w

    ac : ℕ
    ac = act braid a c

    ax : ℕ
    ax = act braid a x

    now : Term
    now = record { word = map (act braid c) w; coefficient = scalars_met braid c w }

    then : Term
    then = record { word = map (act braid ac) (map (act braid a) w); coefficient = scalars_met braid ac (map (act braid a) w) }

    before : Combination
    before = derived_word braid c w

    behind : Combination
    behind = derived_word braid ac (map (act braid a) w)

-- `∂_{a ▷ c} θ_a f = q(a, c) θ_a ∂_c f`, for each f over the letters
pub skew_derivative-carried_past : (braid : BraidValue) → IsField braid.field → IsRack braid → IsCocycle braid → (a c : ℕ) → IsLetter braid a → IsLetter braid c → (f : Combination) → IsOver braid.letters f →
    HasSameValues braid.field (skew_derivative braid (act braid a c) (carried_past braid a f)) (scalar_multiple braid.field (scalar braid a c) (carried_past braid a (skew_derivative braid c f)))
skew_derivative-carried_past braid is rack cocycle a c la lc f over w =
    linear_map-linear_map k is (carried_word braid a) behind f w
    ∙ extended_same_on k is (λ v. linear_map k behind (carried_word braid a v)) (λ v. scalar_multiple k q (carried_past braid a (before v))) f (each f over) w
    ∙ linear_map-multiple k is q (λ v. carried_past braid a (before v)) f w
    ∙ same_scaled k is q (linear_map k (λ v. carried_past braid a (before v)) f) (carried_past braid a (skew_derivative braid c f)) (λ u. sym (linear_map-linear_map k is before (carried_word braid a) f u)) w
  where
    k : FieldValue
    k = braid.field

    q : ℕ
    q = scalar braid a c

    before : List ℕ → Combination
    before = derived_word braid c

    behind : List ℕ → Combination
    behind = derived_word braid (act braid a c)

    each : (f : Combination) → IsOver braid.letters f → AllByRecursion (λ t. HasSameValues k (linear_map k behind (carried_word braid a t.word)) (scalar_multiple k q (carried_past braid a (before t.word)))) f
    each [] h = tt
    each (t ∷ f) h =
        ((λ u. ap (λ g. value_at k g u) (append-nil (scalar_multiple k (scalars_met braid a t.word) (behind (map (act braid a) t.word))) ∙ derived_word-carried_past braid rack cocycle a c la lc t.word h.0)), each f h.1)
