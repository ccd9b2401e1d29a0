-- The enumerated combinations of some words: each has these words, and each combination of these words has the values of one.
use Rattle.std.proofs.Common.{◌≡◌, ℕ, Bool, true, false, not, cond, List, [], ◌∷◌, ◌++◌, refl, sym, ◌∙◌, ap, subst, inl, inr}
use Rattle.std.specs.List.{Contains}
use Rattle.std.specs.Cmp.Lexicographic.{same_text}
use Rattle.nichols_field.specs.Field.{FieldValue, IsField, plus, elements}
use Rattle.nichols_field.proofs.FieldLaws.{plus_zero}
use Rattle.nichols_field.proofs.FieldAlgebra.{zero_plus}
use Rattle.nichols_field.proofs.Elements.{element_is_listed, listed_is_element}
use Rattle.nichols_tensor.specs.Combination.{Combination, value_at, HasSameValues, same_letters, words_of, AllElements, AllAmong, scalar_multiple}
use Rattle.nichols_tensor.specs.Words.{combinations}
use Rattle.nichols_tensor.proofs.Entries.{contains_none, contains_first, contains_later, contains_cases, in_map, in_flat_map, from_map, from_flat_map}
use Rattle.nichols_tensor.proofs.Over.{all-append, all-weaker, all-scalar_multiple}
use Rattle.nichols_tensor.proofs.Values.{without, value_without, value_is_element, same_itself, same_back}

-- the combination of the words of the list with the values of f there
chosen : FieldValue → Combination → List (List ℕ) → Combination
chosen k f [] = []
chosen k f (w ∷ ws) = record { word = w; coefficient = value_at k f w } ∷ chosen k (without w f) ws

chosen_is_enumerated : (k : FieldValue) → IsField k → (f : Combination) (ws : List (List ℕ)) → Contains (combinations k ws) (chosen k f ws)
unfolding chosen combinations
chosen_is_enumerated k is f [] = contains_first [] []
chosen_is_enumerated k is f (w ∷ ws) =
    in_flat_map _ (value_at k f w) (elements k) _ (element_is_listed k (value_at k f w) (value_is_element k is f w))
    (in_map (λ g. record { word = w; coefficient = value_at k f w } ∷ g) (chosen k (without w f) ws) (combinations k ws) (chosen_is_enumerated k is (without w f) ws))

other_is_in : (v w : List ℕ) (ws : List (List ℕ)) → same_letters v w ≡ false → Contains (w ∷ ws) v → Contains ws v
other_is_in v w ws d h =
    elim (contains_cases w ws v h) [
      | inl e ↦ absurd (let t : same_letters v w ≡ true = subst (λ u. same_letters v u ≡ true) e (same_itself v) in let c : true ≡ false = sym t ∙ d in cc)
      | inr later ↦ later
    ]

all_without : (w : List ℕ) (f : Combination) (ws : List (List ℕ)) → AllAmong f (w ∷ ws) → AllAmong (without w f) ws
unfolding AllAmong
all_without w [] ws h = tt
all_without w (t ∷ f) ws h = at (same_letters t.word w) refl (all_without w f ws h.1)
  where
    at : (b : Bool) → same_letters t.word w ≡ b → AllAmong (without w f) ws → AllAmong (cond (not b) (t ∷ without w f) (without w f)) ws
    at true e r = r
    at false e r = (other_is_in t.word w ws e h.0, r)

chosen_values : (k : FieldValue) → IsField k → (f : Combination) (ws : List (List ℕ)) → AllAmong f ws → HasSameValues k (chosen k f ws) f
unfolding chosen AllAmong
chosen_values k is [] [] h v = refl
chosen_values k is (t ∷ f) [] h v = absurd (contains_none t.word h.0)
chosen_values k is f (w ∷ ws) h v =
    ap (plus k (cond (same_letters w v) (value_at k f w) 0)) (chosen_values k is (without w f) ws (all_without w f ws h) v ∙ value_without k is w f v ∙ ap (λ b. cond b 0 (value_at k f v)) (same_back v w))
    ∙ at (same_letters w v) refl
  where
    at : (b : Bool) → same_letters w v ≡ b → plus k (cond b (value_at k f w) 0) (cond b 0 (value_at k f v)) ≡ value_at k f v
    at true e = plus_zero k (value_at k f w) (value_is_element k is f w) ∙ ap (value_at k f) (same_text w v (sym e))
    at false e = zero_plus k (value_at k f v) (value_is_element k is f v)

-- a combination of the words has the values of one that is enumerated
pub enumerated : (k : FieldValue) → IsField k → (f : Combination) (ws : List (List ℕ)) → AllAmong f ws → (g : Combination) × Contains (combinations k ws) g × HasSameValues k g f
enumerated k is f ws h = (chosen k f ws, chosen_is_enumerated k is f ws, chosen_values k is f ws h)

-- an enumerated combination has these words, in this order, and elements as coefficients
pub enumerated_words : (k : FieldValue) (ws : List (List ℕ)) (g : Combination) → Contains (combinations k ws) g → words_of g ≡ ws
unfolding combinations
enumerated_words k [] g h =
    elim (contains_cases [] [] g h) [
      | inl e ↦ ap words_of e
      | inr none ↦ absurd (contains_none g none)
    ]
enumerated_words k (w ∷ ws) g h =
    let (c, i, j) = from_flat_map _ g (elements k) h in
    let (r, l, e) = from_map _ g (combinations k ws) j in
    ap words_of e ∙ ap (λ vs. w ∷ vs) (enumerated_words k ws r l)

pub enumerated_elements : (k : FieldValue) (ws : List (List ℕ)) (g : Combination) → Contains (combinations k ws) g → AllElements k g
unfolding combinations
enumerated_elements k [] g h =
    elim (contains_cases [] [] g h) [
      | inl e ↦ subst (AllElements k) (sym e) tt
      | inr none ↦ absurd (contains_none g none)
    ]
enumerated_elements k (w ∷ ws) g h =
    let (c, i, j) = from_flat_map _ g (elements k) h in
    let (r, l, e) = from_map _ g (combinations k ws) j in
    subst (AllElements k) (sym e) (listed_is_element k c i, enumerated_elements k ws r l)

-- the words of a combination stand among themselves
pub among_weaker : (f : Combination) (ws vs : List (List ℕ)) → ((w : List ℕ) → Contains ws w → Contains vs w) → AllAmong f ws → AllAmong f vs
unfolding AllAmong
among_weaker f ws vs h k = all-weaker (λ t. Contains ws t.word) (λ t. Contains vs t.word) (λ t. h t.word) f k

pub among_own_words : (f : Combination) → AllAmong f (words_of f)
unfolding AllAmong
among_own_words [] = tt
among_own_words (t ∷ f) = (contains_first t.word (words_of f), among_weaker f (words_of f) (t.word ∷ words_of f) (λ w i. contains_later t.word (words_of f) w i) (among_own_words f))

pub among_from_words : (f : Combination) (ws : List (List ℕ)) → words_of f ≡ ws → AllAmong f ws
among_from_words f ws e = subst (AllAmong f) e (among_own_words f)

pub among-append : (f g : Combination) (ws : List (List ℕ)) → AllAmong f ws → AllAmong g ws → AllAmong (f ++ g) ws
unfolding AllAmong
among-append f g ws h k = all-append (λ t. Contains ws t.word) f g h k

pub among-scalar_multiple : (k : FieldValue) (c : ℕ) (f : Combination) (ws : List (List ℕ)) → AllAmong f ws → AllAmong (scalar_multiple k c f) ws
unfolding AllAmong
among-scalar_multiple k c f ws h = all-scalar_multiple (Contains ws) k c f h
