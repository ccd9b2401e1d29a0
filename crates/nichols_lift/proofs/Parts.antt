-- The image of a combination of words of any lengths under the quantum symmetrizer: its constant term, and a part for each letter.
use Rattle.std.proofs.Common.{◌≡◌, ℕ, zero, suc, ◌≤◌, Bool, true, false, cond, List, [], ◌∷◌, ◌++◌, length, map, refl, sym, ◌∙◌, ap, ap₂, subst, arith, nat_eq, if◌then◌else◌}
use Rattle.std.specs.List.{AllByRecursion, flat_map}
use Rattle.std.proofs.lemmas.List.{length-map}
use Rattle.nichols_field.specs.Field.{FieldValue, IsField, IsElement, plus, times}
use Rattle.nichols_field.proofs.FieldLaws.{plus_zero, plus_is_element, zero_is_element, times_is_element}
use Rattle.nichols_field.proofs.FieldAlgebra.{zero_plus}
use Rattle.nichols_tensor.specs.Combination.{Term, Combination, HasSameValues, value_at, same_letters, words_of, single, scalar_multiple, linear_map, AllElements}
use Rattle.nichols_tensor.specs.WordOrder.{IsOrdered}
use Rattle.nichols_tensor.specs.Words.{IsWordOver, IsOver, HasDegree, up_to}
use Rattle.nichols_tensor.proofs.Values.{value_is_element, value_at-append}
use Rattle.nichols_tensor.proofs.Over.{all_of_words, all_among}
use Rattle.nichols_words.proofs.Sums.{among_same}
use Rattle.nichols_braid.specs.Braid.{BraidValue, IsBraid, act}
use Rattle.nichols_braid.specs.Crossing.{cross, crossed_term}
use Rattle.nichols_braid.specs.Lift.{lift, bubble}
use Rattle.nichols_braid.specs.Symmetrizer.{permutations, lifts, symmetrizer_image}
use Rattle.nichols_braid.specs.Derivation.{derived_word, skew_derivative, scalars_met}
use Rattle.nichols_braid.specs.RightProduct.{times_letter}
use Rattle.nichols_braid.proofs.Maps.{extended_same_on, linear_map-sum, plus_times_one}
use Rattle.nichols_braid.proofs.Degrees.{AllWords, words-append, words-linear_map}
use Rattle.nichols_lift.specs.Lengths.{AllAtMost}
use Rattle.nichols_lift.proofs.Totals.{total, total_zero, value_at-flat_map}
use Rattle.nichols_braid.proofs.KeptProducts.{cross_over}
use Rattle.nichols_lift.proofs.Factorisation.{part, lifts_factor, linear_map-flat_map, extended_part, same_flat_maps}
use Rattle.nichols_lift.proofs.Kernel.{lifts_of_empty}
use Rattle.nichols_braid.proofs.WholeKernel.{cross_length}

-- ---- values

-- the constant term
abbrev pub constant : ℕ → Combination
constant c = record { word = []; coefficient = c } ∷ []

-- the part of a letter
abbrev pub letter_part : BraidValue → Combination → ℕ → Combination
letter_part braid f a = times_letter (symmetrizer_image braid (skew_derivative braid a f)) a

-- the empty word, where there are no letters
empty_image : List ℕ → Combination
empty_image [] = single []
empty_image (x ∷ w) = []

letter_images : BraidValue → List ℕ → Combination
letter_images braid w = flat_map (λ a. part braid a w) (up_to braid.letters)

no_part : (braid : BraidValue) (a : ℕ) (v : List ℕ) → value_at braid.field (part braid a []) v ≡ 0
unfolding derived_word
no_part braid a v = refl

lifts_split : (braid : BraidValue) → IsBraid braid → (w : List ℕ) → IsWordOver braid.letters w → HasSameValues braid.field (lifts braid w) (empty_image w ++ letter_images braid w)
unfolding empty_image letter_images
lifts_split braid is [] over v =
    let k : FieldValue = braid.field in
    let none : value_at k (flat_map (λ a. part braid a []) (up_to braid.letters)) v ≡ 0 =
    value_at-flat_map k is.field (λ a. part braid a []) (up_to braid.letters) v ∙ total_zero k is.field (λ a. value_at k (part braid a []) v) (up_to braid.letters) (λ a i. no_part braid a v) in
    ap (λ f. value_at k f v) (lifts_of_empty braid)
    ∙ sym (plus_zero k (value_at k (single []) v) (value_is_element k is.field (single []) v))
    ∙ ap (plus k (value_at k (single []) v)) (sym none)
    ∙ sym (value_at-append k is.field (single []) (flat_map (λ a. part braid a []) (up_to braid.letters)) v)
lifts_split braid is (x ∷ w) over v = lifts_factor braid is (length w) (x ∷ w) refl over v

-- the constant term of a sum is the value at the empty word
constant_of_sum : (k : FieldValue) → IsField k → (f : Combination) (v : List ℕ) → value_at k (linear_map k empty_image f) v ≡ value_at k (constant (value_at k f [])) v
unfolding empty_image
constant_of_sum k is [] v = none (same_letters [] v)
  where
    none : (b : Bool) → ◌≡◌ {A = ℕ} 0 (plus k (cond b 0 0) 0)
    none true = sym (plus_zero k 0 (zero_is_element k is))
    none false = sym (plus_zero k 0 (zero_is_element k is))
constant_of_sum k is (t ∷ f) v =
    value_at-append k is (scalar_multiple k t.coefficient (empty_image t.word)) (linear_map k empty_image f) v
    ∙ at t.word (value_at k (linear_map k empty_image f) v) (constant_of_sum k is f v)
  where
    e : IsElement k (value_at k f [])
    e = value_is_element k is f []

    with_constant : (b : Bool) (rest : ℕ) → rest ≡ plus k (cond b (value_at k f []) 0) 0 → plus k (plus k (cond b (times k t.coefficient 1) 0) 0) rest ≡ plus k (cond b (plus k t.coefficient (value_at k f [])) 0) 0
    with_constant true rest h =
        ap₂ (plus k) (plus_zero k (times k t.coefficient 1) (times_is_element k t.coefficient 1 is)) (h ∙ plus_zero k (value_at k f []) e) ∙ plus_times_one k is t.coefficient (value_at k f []) e
        ∙ sym (plus_zero k (plus k t.coefficient (value_at k f [])) (plus_is_element k t.coefficient (value_at k f []) is))
    with_constant false rest h = ap₂ (plus k) (plus_zero k 0 (zero_is_element k is)) (h ∙ plus_zero k 0 (zero_is_element k is))

    at : (w : List ℕ) (rest : ℕ) → rest ≡ plus k (cond (same_letters [] v) (value_at k f []) 0) 0 →
        plus k (value_at k (scalar_multiple k t.coefficient (empty_image w)) v) rest ≡ plus k (cond (same_letters [] v) (plus k (cond (same_letters w []) t.coefficient 0) (value_at k f [])) 0) 0
    at [] rest h = with_constant (same_letters [] v) rest h
    at (x ∷ w) rest h =
        zero_plus k rest (subst (IsElement k) (sym h) (plus_is_element k (cond (same_letters [] v) (value_at k f []) 0) 0 is)) ∙ h ∙ ap (λ n. plus k (cond (same_letters [] v) n 0) 0) (sym (zero_plus k (value_at k f []) e))

-- the image is the constant term, and the part of each letter
pub image_is : (braid : BraidValue) → IsBraid braid → (f : Combination) → IsOver braid.letters f → (v : List ℕ) →
    value_at braid.field (symmetrizer_image braid f) v ≡ plus braid.field (value_at braid.field (constant (value_at braid.field f [])) v) (total braid.field (λ a. value_at braid.field (letter_part braid f a) v) (up_to braid.letters))
unfolding letter_images
image_is braid is f over v =
    let k : FieldValue = braid.field in
    let letters : List ℕ = up_to braid.letters in
    extended_same_on k is.field (lifts braid) (λ w. empty_image w ++ letter_images braid w) f (each f over) v
    ∙ linear_map-sum k is.field empty_image (letter_images braid) f v
    ∙ value_at-append k is.field (linear_map k empty_image f) (linear_map k (letter_images braid) f) v
    ∙ ap₂ (plus k) (constant_of_sum k is.field f v)
    (linear_map-flat_map k is.field (part braid) letters f v
    ∙ same_flat_maps k is.field (λ a. linear_map k (part braid a) f) (letter_part braid f) letters (λ a. extended_part braid is.field a f) v
    ∙ value_at-flat_map k is.field (letter_part braid f) letters v)
  where
    each : (g : Combination) → IsOver braid.letters g → AllByRecursion (λ t. HasSameValues braid.field (lifts braid t.word) (empty_image t.word ++ letter_images braid t.word)) g
    each [] over = tt
    each (t ∷ g) over = (lifts_split braid is t.word over.0, each g over.1)

-- ---- the words of an image

crossed_words : (P : List ℕ → Type 0) (braid : BraidValue) → ((i : ℕ) (w : List ℕ) → P w → P (cross braid i w)) → (places : List ℕ) (t : Term) → P t.word → P (crossed_term braid places t).word
crossed_words P braid kept [] t h = h
crossed_words P braid kept (i ∷ places) t h = crossed_words P braid kept places _ (kept i t.word h)

-- what crossings keep holds of each word of an image
pub symmetrized_words : (P : List ℕ → Type 0) (braid : BraidValue) → ((i : ℕ) (w : List ℕ) → P w → P (cross braid i w)) → (f : Combination) → AllWords P f → AllWords P (symmetrizer_image braid f)
unfolding lifts lift
symmetrized_words P braid kept f h = words-linear_map P P braid.field (lifts braid) (λ w p. at w p (permutations (length w))) f h
  where
    at : (w : List ℕ) → P w → (all : List (List ℕ)) → AllWords P (map (λ ends. lift braid ends w) all)
    at w p [] = tt
    at w p (ends ∷ all) = (crossed_words P braid kept (bubble ends) (record { word = w; coefficient = 1 }) p, at w p all)

-- and of each word of a combination that is kept with the values of an image
pub words_as_image : (P : List ℕ → Type 0) (braid : BraidValue) → IsField braid.field → ((i : ℕ) (w : List ℕ) → P w → P (cross braid i w)) → (f r : Combination) → AllElements braid.field r → IsOrdered r → HasSameValues braid.field r (symmetrizer_image braid f) → AllWords P f → AllWords P r
words_as_image P braid is kept f r elements shape same h =
    all_among P r (words_of (symmetrizer_image braid f)) (among_same braid.field is r (symmetrizer_image braid f) elements shape same) (all_of_words P (symmetrizer_image braid f) (symmetrized_words P braid kept f h))

pub over_as_image : (braid : BraidValue) → IsBraid braid → (f r : Combination) → AllElements braid.field r → IsOrdered r → HasSameValues braid.field r (symmetrizer_image braid f) → IsOver braid.letters f → IsOver braid.letters r
over_as_image braid is f r elements shape same h = words_as_image (IsWordOver braid.letters) braid is.field (λ i w p. cross_over braid is.rack i w p) f r elements shape same h

pub degree_as_image : (braid : BraidValue) → IsBraid braid → (f r : Combination) → AllElements braid.field r → IsOrdered r → HasSameValues braid.field r (symmetrizer_image braid f) → (m : ℕ) → HasDegree m f → HasDegree m r
degree_as_image braid is f r elements shape same m h = words_as_image (λ w. length w ≡ m) braid is.field (λ i w p. cross_length braid i w ∙ p) f r elements shape same h

pub short_as_image : (braid : BraidValue) → IsBraid braid → (f r : Combination) → AllElements braid.field r → IsOrdered r → HasSameValues braid.field r (symmetrizer_image braid f) → (limit : ℕ) → AllAtMost limit f → AllAtMost limit r
short_as_image braid is f r elements shape same limit h = words_as_image (λ w. length w ≤ limit) braid is.field (λ i w p. subst (λ n. n ≤ limit) (sym (cross_length braid i w)) p) f r elements shape same h

-- ---- the words of a derivative

times_short : (braid : BraidValue) (a x limit : ℕ) (f : Combination) → AllAtMost limit f → AllAtMost (suc limit) (map (λ t. record { word = x ∷ t.word; coefficient = t.coefficient }) f)
times_short braid a x limit [] h = tt
times_short braid a x limit (t ∷ f) h = (omega (arith, h.0), times_short braid a x limit f h.1)

derived_word_short : (braid : BraidValue) (a limit : ℕ) (w : List ℕ) → length w ≤ suc limit → AllAtMost limit (derived_word braid a w)
unfolding derived_word
derived_word_short braid a limit [] h = tt
derived_word_short braid a zero (x ∷ []) h = words-append (λ w. length w ≤ 0) _ _ (here (nat_eq a x)) tt
  where
    here : (b : Bool) → AllAtMost 0 (if b then record { word = []; coefficient = 1 } ∷ [] else [])
    here true = (omega arith, tt)
    here false = tt
derived_word_short braid a zero (x ∷ y ∷ w) h = absurd (omega arith)
derived_word_short braid a (suc limit) (x ∷ w) h =
    words-append (λ v. length v ≤ suc limit) _ _ (here (nat_eq a x)) (times_short braid a x limit (derived_word braid a w) (derived_word_short braid a limit w (omega arith)))
  where
    here : (b : Bool) → AllAtMost (suc limit) (if b then record { word = map (act braid a) w; coefficient = scalars_met braid a w } ∷ [] else [])
    here true = (let e : length (map (act braid a) w) ≡ length w = length-map w (act braid a) in omega arith, tt)
    here false = tt

pub derived_short : (braid : BraidValue) (a limit : ℕ) (f r : Combination) → IsField braid.field → AllElements braid.field r → IsOrdered r → HasSameValues braid.field r (skew_derivative braid a f) → AllAtMost (suc limit) f → AllAtMost limit r
derived_short braid a limit f r is elements shape same h =
    all_among (λ w. length w ≤ limit) r (words_of (skew_derivative braid a f)) (among_same braid.field is r (skew_derivative braid a f) elements shape same)
    (all_of_words (λ w. length w ≤ limit) (skew_derivative braid a f) (words-linear_map (λ w. length w ≤ suc limit) (λ w. length w ≤ limit) braid.field (derived_word braid a) (derived_word_short braid a limit) f h))
