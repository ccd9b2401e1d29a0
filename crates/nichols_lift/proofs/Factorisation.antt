-- The symmetrizer factors through the skew derivations.
use Rattle.std.proofs.Common.{◌≡◌, ℕ, suc, Bool, true, false, cond, List, [], ◌∷◌, ◌++◌, map, length, refl, sym, ◌∙◌, ap, ap₂, nat_eq}
use Rattle.std.specs.List.{flat_map, AllByRecursion}
use Rattle.std.proofs.lemmas.List.{append-nil, map-append, map-id}
use Rattle.std.proofs.lemmas.Bool.Decides.{Decides-eqb}
use Rattle.nichols_field.specs.Field.{FieldValue, IsField, plus}
use Rattle.nichols_tensor.specs.Combination.{Term, Combination, value_at, HasSameValues, single, scalar_multiple, linear_map}
use Rattle.nichols_tensor.specs.Words.{up_to, IsLetterOf, IsWordOver, IsOver, HasDegree}
use Rattle.nichols_tensor.proofs.Values.{value_is_element, value_at-append}
use Rattle.nichols_tensor.proofs.Linear.{same_images, linear_map-append, same_append}
use Rattle.nichols_braid.specs.Braid.{BraidValue, IsBraid, act}
use Rattle.nichols_braid.specs.Symmetrizer.{lifts, symmetrizer_image}
use Rattle.nichols_braid.specs.Derivation.{scalars_met, derived_word, skew_derivative}
use Rattle.nichols_braid.specs.RightProduct.{times_letter}
use Rattle.nichols_braid.proofs.Maps.{extended_same, extended_same_on, linear_map-sum, linear_map-linear_map, times_letter_is_extended, times_letter-append}
use Rattle.nichols_braid.proofs.Rule.{here, map-here}
use Rattle.nichols_deriv.proofs.Passed.{fronted, fronted_twice}
use Rattle.nichols_tensor.proofs.Terms.{term}
use Rattle.nichols_lift.proofs.Summands.{Summand, summands, lifted, lifts_are_summands}
use Rattle.nichols_lift.proofs.Totals.{total, total_same, total-plus, total_zero, one_letter, value_at-flat_map}

-- ---- the derivation by a letter takes the summands of this letter

rests_of : ℕ → List Summand → Combination
rests_of a [] = []
rests_of a (s ∷ ss) = here (nat_eq a s.letter) s.rest ++ rests_of a ss

here_same : (c : Bool) (s t : Term) → (c ≡ true → s ≡ t) → here c s ≡ here c t
unfolding here
here_same true s t h = ap (λ x. x ∷ []) (h refl)
here_same false s t h = refl

derived_are_rests : (braid : BraidValue) (a : ℕ) (front u : List ℕ) → fronted front (derived_word braid a u) ≡ rests_of a (summands braid front u)
unfolding derived_word rests_of here
derived_are_rests braid a front [] = refl
derived_are_rests braid a front (x ∷ u) =
    let now : Term = term (map (act braid a) u) (scalars_met braid a u) in
    let put_front : Term → Term = λ t. term (front ++ t.word) t.coefficient in
    map-append put_front (here (nat_eq a x) now) (map (λ t. term (x ∷ t.word) t.coefficient) (derived_word braid a u))
    ∙ ap₂ (λ f r. f ++ r)
    (map-here put_front (nat_eq a x) now ∙ here_same (nat_eq a x) (put_front now) (term (front ++ map (act braid x) u) (scalars_met braid x u)) (λ e. ap (λ y. term (front ++ map (act braid y) u) (scalars_met braid y u)) ((Decides-eqb a x).0 e)))
    (fronted_twice front x (derived_word braid a u) ∙ derived_are_rests braid a (front ++ x ∷ []) u)

derived_word_is_rests : (braid : BraidValue) (a : ℕ) (w : List ℕ) → derived_word braid a w ≡ rests_of a (summands braid [] w)
derived_word_is_rests braid a w = sym (map-id (derived_word braid a w)) ∙ derived_are_rests braid a [] w

-- ---- the sum over the letters is the sum over the summands

AllOver : ℕ → List Summand → Type 0
AllOver n [] = Unit {0}
AllOver n (s ∷ ss) = IsLetterOf n s.letter × AllOver n ss

summands_over : (braid : BraidValue) (front u : List ℕ) → IsWordOver braid.letters u → AllOver braid.letters (summands braid front u)
unfolding AllOver
summands_over braid front [] h = tt
summands_over braid front (x ∷ u) h = (h.0, summands_over braid (front ++ x ∷ []) u h.1)

-- the rests of a letter, symmetrized, with the letter put behind
gathered : BraidValue → List Summand → ℕ → Combination
gathered braid ss a = times_letter (symmetrizer_image braid (rests_of a ss)) a

gathered_here : (braid : BraidValue) → IsField braid.field → (s : Summand) (a : ℕ) (v : List ℕ) → (c : Bool) → (c ≡ true → a ≡ s.letter) →
    value_at braid.field (times_letter (symmetrizer_image braid (here c s.rest)) a) v ≡ cond c (value_at braid.field (lifted braid s) v) 0
unfolding here
gathered_here braid is s a v true h =
    ap₂ (λ f b. value_at braid.field (times_letter f b) v) (append-nil (scalar_multiple braid.field s.rest.coefficient (lifts braid s.rest.word))) (h refl)
gathered_here braid is s a v false h = refl

gathered-cons : (braid : BraidValue) → IsField braid.field → (s : Summand) (ss : List Summand) (a : ℕ) (v : List ℕ) →
    value_at braid.field (gathered braid (s ∷ ss) a) v ≡ plus braid.field (cond (nat_eq a s.letter) (value_at braid.field (lifted braid s) v) 0) (value_at braid.field (gathered braid ss a) v)
unfolding gathered rests_of
gathered-cons braid is s ss a v =
    ap (λ f. value_at braid.field (times_letter f a) v) (linear_map-append braid.field (lifts braid) (here (nat_eq a s.letter) s.rest) (rests_of a ss))
    ∙ ap (λ f. value_at braid.field f v) (times_letter-append (symmetrizer_image braid (here (nat_eq a s.letter) s.rest)) (symmetrizer_image braid (rests_of a ss)) a)
    ∙ value_at-append braid.field is (times_letter (symmetrizer_image braid (here (nat_eq a s.letter) s.rest)) a) (gathered braid ss a) v
    ∙ ap (λ n. plus braid.field n (value_at braid.field (gathered braid ss a) v)) (gathered_here braid is s a v (nat_eq a s.letter) (λ e. (Decides-eqb a s.letter).0 e))

gathered-nil : (braid : BraidValue) (a : ℕ) (v : List ℕ) → value_at braid.field (gathered braid [] a) v ≡ 0
unfolding gathered rests_of
gathered-nil braid a v = refl

gathered_total : (braid : BraidValue) → IsField braid.field → (ss : List Summand) (v : List ℕ) → AllOver braid.letters ss →
    total braid.field (λ a. value_at braid.field (gathered braid ss a) v) (up_to braid.letters) ≡ value_at braid.field (flat_map (lifted braid) ss) v
unfolding AllOver
gathered_total braid is [] v over = total_zero braid.field is (λ a. value_at braid.field (gathered braid [] a) v) (up_to braid.letters) (λ a i. gathered-nil braid a v)
gathered_total braid is (s ∷ ss) v over =
    let k : FieldValue = braid.field in
    let g : ℕ = value_at k (lifted braid s) v in
    total_same k (λ a. value_at k (gathered braid (s ∷ ss) a) v) (λ a. plus k (cond (nat_eq a s.letter) g 0) (value_at k (gathered braid ss a) v)) (up_to braid.letters) (λ a i. gathered-cons braid is s ss a v)
    ∙ total-plus k is (λ a. cond (nat_eq a s.letter) g 0) (λ a. value_at k (gathered braid ss a) v) (up_to braid.letters)
    ∙ ap₂ (plus k) (one_letter k is braid.letters s.letter g over.0 (value_is_element k is (lifted braid s) v)) (gathered_total braid is ss v over.1)
    ∙ sym (value_at-append k is (lifted braid s) (flat_map (lifted braid) ss) v)

-- ---- one word

-- the image under the derivation by a and the symmetrizer, with a put behind
abbrev pub part : BraidValue → ℕ → List ℕ → Combination
part braid a w = times_letter (symmetrizer_image braid (derived_word braid a w)) a

part_is_gathered : (braid : BraidValue) (a : ℕ) (w : List ℕ) → part braid a w ≡ gathered braid (summands braid [] w) a
unfolding gathered
part_is_gathered braid a w = ap (λ d. times_letter (symmetrizer_image braid d) a) (derived_word_is_rests braid a w)

pub lifts_factor : (braid : BraidValue) → IsBraid braid → (m : ℕ) (w : List ℕ) → length w ≡ suc m → IsWordOver braid.letters w → HasSameValues braid.field (lifts braid w) (flat_map (λ a. part braid a w) (up_to braid.letters))
lifts_factor braid is m w size over v =
    let k : FieldValue = braid.field in
    ap (λ f. value_at k f v) (lifts_are_summands braid is m w size over)
    ∙ sym (gathered_total braid is.field (summands braid [] w) v (summands_over braid [] w over))
    ∙ total_same k (λ a. value_at k (gathered braid (summands braid [] w) a) v) (λ a. value_at k (part braid a w) v) (up_to braid.letters) (λ a i. ap (λ f. value_at k f v) (sym (part_is_gathered braid a w)))
    ∙ sym (value_at-flat_map k is.field (λ a. part braid a w) (up_to braid.letters) v)

-- ---- all words

pub linear_map-flat_map : (k : FieldValue) → IsField k → (image : ℕ → List ℕ → Combination) (js : List ℕ) (f : Combination) →
    HasSameValues k (linear_map k (λ w. flat_map (λ a. image a w) js) f) (flat_map (λ a. linear_map k (image a) f) js)
linear_map-flat_map k is image [] f = nothing f
  where
    nothing : (g : Combination) → HasSameValues k (linear_map k (λ w. []) g) []
    nothing [] v = refl
    nothing (t ∷ g) v = nothing g v
linear_map-flat_map k is image (j ∷ js) f = λ v.
    linear_map-sum k is (image j) (λ w. flat_map (λ a. image a w) js) f v
    ∙ same_append k is (linear_map k (image j) f) (linear_map k (λ w. flat_map (λ a. image a w) js) f) (linear_map k (image j) f) (flat_map (λ a. linear_map k (image a) f) js) (λ u. refl) (linear_map-flat_map k is image js f) v

-- the part of a letter, extended
pub extended_part : (braid : BraidValue) → IsField braid.field → (a : ℕ) (f : Combination) → HasSameValues braid.field (linear_map braid.field (part braid a) f) (times_letter (symmetrizer_image braid (skew_derivative braid a f)) a)
extended_part braid is a f v =
    extended_same k is (part braid a) (λ w. linear_map k put (linear_map k (lifts braid) (derived_word braid a w))) f (λ w u. times_letter_is_extended k is (symmetrizer_image braid (derived_word braid a w)) a u) v
    ∙ sym (linear_map-linear_map k is (λ w. linear_map k (lifts braid) (derived_word braid a w)) put f v)
    ∙ same_images k is put (linear_map k (λ w. linear_map k (lifts braid) (derived_word braid a w)) f) (symmetrizer_image braid (skew_derivative braid a f)) (λ u. sym (linear_map-linear_map k is (derived_word braid a) (lifts braid) f u)) v
    ∙ sym (times_letter_is_extended k is (symmetrizer_image braid (skew_derivative braid a f)) a v)
  where
    k : FieldValue
    k = braid.field

    put : List ℕ → Combination
    put w = single (w ++ a ∷ [])

pub same_flat_maps : (k : FieldValue) → IsField k → (f g : ℕ → Combination) (js : List ℕ) → ((j : ℕ) → HasSameValues k (f j) (g j)) → HasSameValues k (flat_map f js) (flat_map g js)
same_flat_maps k is f g [] h v = refl
same_flat_maps k is f g (j ∷ js) h v = same_append k is (f j) (flat_map f js) (g j) (flat_map g js) (h j) (same_flat_maps k is f g js h) v

pub factors : (braid : BraidValue) → IsBraid braid → (m : ℕ) (f : Combination) → HasDegree (suc m) f → IsOver braid.letters f →
    HasSameValues braid.field (symmetrizer_image braid f) (flat_map (λ a. times_letter (symmetrizer_image braid (skew_derivative braid a f)) a) (up_to braid.letters))
factors braid is m f degree over v =
    let k : FieldValue = braid.field in
    extended_same_on k is.field (lifts braid) (λ w. flat_map (λ a. part braid a w) (up_to braid.letters)) f (each f degree over) v
    ∙ linear_map-flat_map k is.field (part braid) (up_to braid.letters) f v
    ∙ same_flat_maps k is.field (λ a. linear_map k (part braid a) f) (λ a. times_letter (symmetrizer_image braid (skew_derivative braid a f)) a) (up_to braid.letters) (λ a. extended_part braid is.field a f) v
  where
    each : (g : Combination) → HasDegree (suc m) g → IsOver braid.letters g → AllByRecursion (λ t. HasSameValues braid.field (lifts braid t.word) (flat_map (λ a. part braid a t.word) (up_to braid.letters))) g
    each [] degree over = tt
    each (t ∷ g) degree over = (lifts_factor braid is m t.word degree.0 over.0, each g degree.1 over.1)
