-- The skew derivation from the right end of a word.
use Rattle.std.proofs.Common.{◌≡◌, ℕ, Bool, true, false, List, [], ◌∷◌, ◌++◌, map, refl, sym, ◌∙◌, ap, append_assoc, nat_eq}
use Rattle.std.specs.Prelude.{if◌then◌else◌}
use Rattle.std.proofs.lemmas.List.{map-append}
use Rattle.nichols_field.specs.Field.{FieldValue, IsField, times}
use Rattle.nichols_field.proofs.FieldAlgebra.{swap_factors}
use Rattle.nichols_tensor.specs.Combination.{Term, Combination, value_at, HasSameValues, single, scalar_multiple, linear_map}
use Rattle.nichols_tensor.proofs.Linear.{same_images, same_append, same_scaled, linear_map-single}
use Rattle.nichols_braid.specs.Braid.{BraidValue, act, scalar}
use Rattle.nichols_braid.specs.Derivation.{derived_word, skew_derivative, scalars_met}
use Rattle.nichols_braid.specs.RightProduct.{times_letter}
use Rattle.nichols_braid.proofs.Maps.{extended_same, linear_map-sum, linear_map-multiple, linear_map-linear_map, extended_identity, same_commuted, times_letter_is_extended}

-- a derived term, with the letter b behind it
abbrev passed : BraidValue → ℕ → ℕ → Term → Term
passed braid a b t = record { word = t.word ++ act braid a b ∷ []; coefficient = times braid.field (scalar braid a b) t.coefficient }

met-push : (braid : BraidValue) (a b : ℕ) (u : List ℕ) → scalars_met braid a (u ++ b ∷ []) ≡ times braid.field (scalar braid a b) (scalars_met braid a u)
met-push braid a b [] = refl
met-push braid a b (x ∷ u) = ap (times braid.field (scalar braid a x)) (met-push braid a b u) ∙ swap_factors braid.field (scalar braid a x) (scalar braid a b) (scalars_met braid a u)

prefixed : ℕ → Term → Term
prefixed x t = record { word = x ∷ t.word; coefficient = t.coefficient }

prefixed-passed : (braid : BraidValue) (a b x : ℕ) (ts : List Term) → map (prefixed x) (map (passed braid a b) ts) ≡ map (passed braid a b) (map (prefixed x) ts)
unfolding prefixed
prefixed-passed braid a b x [] = refl
prefixed-passed braid a b x (t ∷ ts) = ap (λ r. passed braid a b (prefixed x t) ∷ r) (prefixed-passed braid a b x ts)

-- a term, where the test says so
unfoldable pub here : Bool → Term → Combination
here c t = if c then t ∷ [] else []

pub map-here : (f : Term → Term) (c : Bool) (t : Term) → map f (here c t) ≡ here c (f t)
unfolding here
map-here f true t = refl
map-here f false t = refl

pub derived_word-push : (braid : BraidValue) (a b : ℕ) (u : List ℕ) →
    derived_word braid a (u ++ b ∷ []) ≡ map (passed braid a b) (derived_word braid a u) ++ (if nat_eq a b then record { word = u; coefficient = 1 } ∷ [] else [])
unfolding prefixed here derived_word
derived_word-push braid a b [] = at (nat_eq a b)
  where
    at : (c : Bool) → (let ts : List Term = if c then record { word = []; coefficient = 1 } ∷ [] else [] in ts ++ []) ≡ (let ts : List Term = if c then record { word = []; coefficient = 1 } ∷ [] else [] in ts)
    at true = refl
    at false = refl
derived_word-push braid a b (x ∷ u) =
    let g : Term → Term = passed braid a b in
    let ts : Combination = derived_word braid a u in
    let first : Combination = here (nat_eq a x) (record { word = map (act braid a) u; coefficient = scalars_met braid a u }) in
    let last : Term = record { word = u; coefficient = 1 } in
    ap (λ d. here (nat_eq a x) d ++ map (prefixed x) (derived_word braid a (u ++ b ∷ []))) (cc (map-append (act braid a) u (b ∷ []), met-push braid a b u))
    ∙ ap (λ d. d ++ map (prefixed x) (derived_word braid a (u ++ b ∷ []))) (sym (map-here g (nat_eq a x) (record { word = map (act braid a) u; coefficient = scalars_met braid a u })))
    ∙ ap (λ d. map g first ++ map (prefixed x) d) (derived_word-push braid a b u)
    ∙ ap (λ d. map g first ++ d) (map-append (prefixed x) (map g ts) (here (nat_eq a b) last) ∙ ap (λ d. d ++ map (prefixed x) (here (nat_eq a b) last)) (prefixed-passed braid a b x ts) ∙ ap (λ d. map g (map (prefixed x) ts) ++ d) (map-here (prefixed x) (nat_eq a b) last))
    ∙ sym (append_assoc (map g first) (map g (map (prefixed x) ts)) (here (nat_eq a b) (prefixed x last)))
    ∙ ap (λ d. d ++ here (nat_eq a b) (prefixed x last)) (sym (map-append g first (map (prefixed x) ts)))

passed_is_scaled : (braid : BraidValue) (a b : ℕ) (ts : Combination) → map (passed braid a b) ts ≡ scalar_multiple braid.field (scalar braid a b) (times_letter ts (act braid a b))
passed_is_scaled braid a b [] = refl
passed_is_scaled braid a b (t ∷ ts) = ap (λ r. passed braid a b t ∷ r) (passed_is_scaled braid a b ts)

chosen_identity : (k : FieldValue) → IsField k → (c : Bool) (f : Combination) → HasSameValues k (linear_map k (λ v. if c then single v else []) f) (if c then f else [])
chosen_identity k is true f = extended_identity k is f
chosen_identity k is false f = nothing f
  where
    nothing : (g : Combination) → HasSameValues k (linear_map k (λ v. []) g) []
    nothing [] w = refl
    nothing (t ∷ g) w = nothing g w

-- `∂_a(f x_b) = [a = b] f + q(a, b) ∂_a(f) x_{a ▷ b}`
pub skew_derivative-times_letter : (braid : BraidValue) → IsField braid.field → (a b : ℕ) (f : Combination) →
    HasSameValues braid.field (skew_derivative braid a (times_letter f b)) ((if nat_eq a b then f else []) ++ scalar_multiple braid.field (scalar braid a b) (times_letter (skew_derivative braid a f) (act braid a b)))
skew_derivative-times_letter braid is a b f w =
    same_images k is D (times_letter f b) (linear_map k pushed f) (times_letter_is_extended k is f b) w
    ∙ linear_map-linear_map k is pushed D f w
    ∙ extended_same k is (λ v. linear_map k D (pushed v)) (λ v. later v ++ now v) f (λ v u. linear_map-single k is D (v ++ b ∷ []) u ∙ ap (λ g. value_at k g u) (derived_word-push braid a b v ∙ ap (λ g. g ++ now v) (passed_is_scaled braid a b (D v)))) w
    ∙ linear_map-sum k is later now f w
    ∙ same_append k is (linear_map k later f) (linear_map k now f) (scalar_multiple k q (times_letter (skew_derivative braid a f) c)) (if nat_eq a b then f else []) behind (chosen_identity k is (nat_eq a b) f) w
    ∙ same_commuted k is (scalar_multiple k q (times_letter (skew_derivative braid a f) c)) (if nat_eq a b then f else []) w
  where
    k : FieldValue
    k = braid.field

    D : List ℕ → Combination
    D = derived_word braid a

    pushed : List ℕ → Combination
    pushed v = single (v ++ b ∷ [])

    q : ℕ
    q = scalar braid a b

    c : ℕ
    c = act braid a b

    now : List ℕ → Combination
    now v = if nat_eq a b then single v else []

    later : List ℕ → Combination
    later v = scalar_multiple k q (times_letter (D v) c)

    behind : HasSameValues k (linear_map k later f) (scalar_multiple k q (times_letter (linear_map k D f) c))
    behind u =
        linear_map-multiple k is q (λ v. times_letter (D v) c) f u
        ∙ same_scaled k is q (linear_map k (λ v. times_letter (D v) c) f) (times_letter (linear_map k D f) c)
        (λ x. extended_same k is (λ v. times_letter (D v) c) (λ v. linear_map k (λ z. single (z ++ c ∷ [])) (D v)) f (λ v. times_letter_is_extended k is (D v) c) x
        ∙ sym (linear_map-linear_map k is D (λ z. single (z ++ c ∷ [])) f x)
        ∙ sym (times_letter_is_extended k is (linear_map k D f) c x)) u
