-- Derivatives of combinations: one term more, and which words the derivative has.
use Rattle.std.proofs.Common.{◌≡◌, ℕ, suc, ◌+◌, ◌<◌, ◌≤◌, List, [], ◌∷◌, ◌++◌, length, take, get_or, sym, ◌∙◌, ap, ap₂}
use Rattle.std.proofs.lemmas.List.{append-nil, take_more, take_all}
use Rattle.nichols_field.specs.Field.{FieldValue, IsField, plus}
use Rattle.nichols_tensor.specs.Combination.{Term, Combination, HasSameValues, value_at, words_of, scalar_multiple, AllElements}
use Rattle.nichols_tensor.specs.WordOrder.{IsOrdered}
use Rattle.nichols_tensor.specs.Words.{IsWordOver, IsOver, HasDegree}
use Rattle.nichols_tensor.proofs.Values.{value_at-append}
use Rattle.nichols_tensor.proofs.Linear.{linear_map-append}
use Rattle.nichols_tensor.proofs.Over.{all_of_words, all_among}
use Rattle.nichols_words.proofs.Sums.{among_same}
use Rattle.nichols_braid.specs.Braid.{BraidValue, IsBraid, IsLetter}
use Rattle.nichols_braid.specs.Derivation.{skew_derivative, derived_word}
use Rattle.nichols_braid.proofs.Degrees.{derived_degree, derived_over}

pub derived_more : (braid : BraidValue) → IsField braid.field → (a : ℕ) (f : Combination) (i : ℕ) (t : Term) → i < length f → t ≡ get_or f i t → (before after : Combination) →
    HasSameValues braid.field before (skew_derivative braid a (take i f)) →
    ((v : List ℕ) → value_at braid.field after v ≡ plus braid.field (value_at braid.field before v) (value_at braid.field (scalar_multiple braid.field t.coefficient (derived_word braid a t.word)) v)) →
    HasSameValues braid.field after (skew_derivative braid a (take (i + 1) f))
derived_more braid is a f i t within at before after same value v =
    let k : FieldValue = braid.field in
    let more : take (i + 1) f ≡ take i f ++ t ∷ [] = take_more f i t within ∙ ap (λ u. take i f ++ u ∷ []) (sym at) in
    let new : Combination = scalar_multiple k t.coefficient (derived_word braid a t.word) in
    let parts : skew_derivative braid a (take (i + 1) f) ≡ skew_derivative braid a (take i f) ++ new =
    ap (skew_derivative braid a) more ∙ linear_map-append k (derived_word braid a) (take i f) (t ∷ []) ∙ ap (λ r. skew_derivative braid a (take i f) ++ r) (append-nil new) in
    value v ∙ ap (λ n. plus k n (value_at k new v)) (same v) ∙ sym (value_at-append k is (skew_derivative braid a (take i f)) new v) ∙ ap (λ g. value_at k g v) (sym parts)

pub derived_end : (braid : BraidValue) (a : ℕ) (k : FieldValue) (r sum terms f items : Combination) (i : ℕ) → k ≡ braid.field → sum ≡ terms → items ≡ f → length items ≤ i → HasSameValues k r sum → HasSameValues braid.field terms (skew_derivative braid a (take i items)) →
    HasSameValues braid.field r (skew_derivative braid a f)
derived_end braid a k r sum terms f items i field same given end value loop v =
    ap (λ l. value_at l r v) (sym field) ∙ value v ∙ ap₂ (λ l g. value_at l g v) field same ∙ loop v
    ∙ ap (λ g. value_at braid.field (skew_derivative braid a g) v) (take_all i items end ∙ given)

pub over_as_derived : (braid : BraidValue) → IsBraid braid → (a : ℕ) → IsLetter braid a → (f r : Combination) → IsOver braid.letters f → AllElements braid.field r → IsOrdered r → HasSameValues braid.field r (skew_derivative braid a f) → IsOver braid.letters r
over_as_derived braid is a letter f r over elements shape same =
    all_among (IsWordOver braid.letters) r (words_of (skew_derivative braid a f)) (among_same braid.field is.field r (skew_derivative braid a f) elements shape same)
    (all_of_words (IsWordOver braid.letters) (skew_derivative braid a f) (derived_over braid is.rack a letter f over))

pub degree_as_derived : (braid : BraidValue) → IsBraid braid → (a : ℕ) (f r : Combination) → AllElements braid.field r → IsOrdered r → HasSameValues braid.field r (skew_derivative braid a f) → (m : ℕ) → HasDegree (suc m) f → HasDegree m r
degree_as_derived braid is a f r elements shape same m degree =
    all_among (λ w. length w ≡ m) r (words_of (skew_derivative braid a f)) (among_same braid.field is.field r (skew_derivative braid a f) elements shape same)
    (all_of_words (λ w. length w ≡ m) (skew_derivative braid a f) (derived_degree braid a m f degree))
