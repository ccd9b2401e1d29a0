-- Normal forms of words as the memo has them, and as sums over the least words of their blocks.
use Rattle.std.proofs.Common.{◌≡◌, ℕ, ◌+◌, ◌<◌, List, [], ◌∷◌, ◌++◌, drop, length, get_or, map, take, refl, sym, ◌∙◌, ap, ap₂, subst, arith, inl, inr}
use Rattle.std.specs.List.{Contains}
use Rattle.std.proofs.lemmas.List.{length-map, map-append, take_more}
use Rattle.nichols_field.specs.Field.{FieldValue, IsElement, IsField, element_of_sum, plus, times}
use Rattle.nichols_field.proofs.FieldAlgebra.{zero_plus}
use Rattle.nichols_field.proofs.FieldLaws.{times_one}
use Rattle.nichols_field.proofs.Pending.{settled_is_element, settled_zero}
use Rattle.nichols_tensor.specs.Combination.{AllAmong, AllElements, Combination, HasSameValues, scalar_multiple, single, value_at, without_zeros, words_of}
use Rattle.nichols_tensor.specs.Words.{IsWordOver}
use Rattle.nichols_tensor.specs.WordOrder.{IsOrdered, IsRising}
use Rattle.nichols_tensor.proofs.Building.{elements-multiple, ordered-multiple}
use Rattle.nichols_tensor.proofs.Entries.{contains_cases, contains_none}
use Rattle.nichols_tensor.proofs.Order.{word_order}
use Rattle.nichols_tensor.proofs.Ordered.{before_all, is_in_or_not, ordered_unique, zero_at_others}
use Rattle.nichols_tensor.proofs.Sparse.{value_first, value_past}
use Rattle.nichols_tensor.proofs.Values.{terms, value_is_element}
use Rattle.nichols_braid.specs.Braid.{BraidValue, IsBraid}
use Rattle.nichols_braid.specs.Kernel.{is_killed}
use Rattle.nichols_braid.specs.LeastLaws.{IsNormalForm}
use Rattle.nichols_braid.specs.Product.{product_of}
use Rattle.nichols_value.specs.Block.{block_basis}
use Rattle.nichols_value.proofs.Blocks.{block_basis_rises, normal_in_block}
use Rattle.nichols_value.proofs.FormCells.{no_value}
use Rattle.nichols_value.proofs.RuleEntries.{word_form_is_normal}
use Rattle.nichols_braid.proofs.Congruences.{with_elements}
use Rattle.nichols_memo.specs.Forms.{form_of}
use Rattle.nichols_reduce.specs.Forms.{IsFormOf}
use Rattle.nichols_reduce.specs.Sums.{combination_of}
use Rattle.nichols_reduce.proofs.PartForms.{values_of_sums}

-- ---- sums that are the values of a combination at some words

words_are : (k : FieldValue) (ws : List (List ℕ)) (sums : List ℕ) → length sums ≡ length ws → words_of (combination_of k ws sums) ≡ ws
unfolding combination_of
words_are k [] sums e = refl
words_are k (w ∷ ws) [] e = absurd (omega arith)
words_are k (w ∷ ws) (n ∷ sums) e = ap (λ us. w ∷ us) (words_are k ws sums (omega arith))

pub values_width : (k : FieldValue) (f : Combination) (ws : List (List ℕ)) (sums : List ℕ) → map (element_of_sum k) sums ≡ map (value_at k f) ws → length sums ≡ length ws
values_width k f ws sums e = sym (length-map sums (element_of_sum k)) ∙ ap length e ∙ length-map ws (value_at k f)

value_at_word : (k : FieldValue) → IsField k → (f : Combination) (ws : List (List ℕ)) (sums : List ℕ) → IsRising ws → map (element_of_sum k) sums ≡ map (value_at k f) ws → (v : List ℕ) → Contains ws v → value_at k (combination_of k ws sums) v ≡ value_at k f v
unfolding combination_of
value_at_word k is f [] sums r e v i = absurd (contains_none v i)
value_at_word k is f (w ∷ ws) [] r e v i = let h : length (map (element_of_sum k) []) ≡ length (map (value_at k f) (w ∷ ws)) = ap length e in absurd (omega (arith, h))
value_at_word k is f (w ∷ ws) (n ∷ sums) r e v i =
    let rest : Combination = combination_of k ws sums in
    let behind : map (element_of_sum k) sums ≡ map (value_at k f) ws = ap (drop 1) e in
    let own : words_of rest ≡ ws = words_are k ws sums (values_width k f ws sums behind) in
    elim (contains_cases w ws v i) [
      | inl same ↦
          subst (λ u. value_at k (record { word = w; coefficient = element_of_sum k n } ∷ rest) u ≡ value_at k f u) (sym same)
          (value_first terms word_order k is (record { word = w; coefficient = element_of_sum k n }) rest (settled_is_element k n is) (subst (λ us. IsRising (w ∷ us)) (sym own) r) ∙ ap (λ xs. get_or xs 0 0) e)
      | inr later ↦
          value_past terms k is (record { word = w; coefficient = element_of_sum k n }) rest v (λ same. before_all w ws r.0 r.1 (subst (Contains ws) (sym same) later))
          ∙ value_at_word k is f ws sums r.1 behind v later
    ]

values_are : (k : FieldValue) → IsField k → (f : Combination) (ws : List (List ℕ)) (sums : List ℕ) → IsRising ws → AllAmong f ws → map (element_of_sum k) sums ≡ map (value_at k f) ws → HasSameValues k (combination_of k ws sums) f
values_are k is f ws sums r among e v =
    elim (is_in_or_not v ws) [
      | inl there ↦ value_at_word k is f ws sums r e v there
      | inr none ↦
          zero_at_others k is (combination_of k ws sums) v (λ i. none (subst (λ us. Contains us v) (words_are k ws sums (values_width k f ws sums e)) i))
          ∙ sym (no_value k is ws f among v none)
    ]

-- one value more
pub value_more : (k : FieldValue) → IsField k → (f : Combination) (ws : List (List ℕ)) (sums new : List ℕ) (i x c : ℕ) (w : List ℕ) → i < length ws → w ≡ get_or ws i w → map (element_of_sum k) sums ≡ map (value_at k f) (take i ws) → new ≡ sums ++ x ∷ [] →
    value_at k f w ≡ c → element_of_sum k x ≡ plus k (element_of_sum k 0) (times k c 1) → map (element_of_sum k) new ≡ map (value_at k f) (take (i + 1) ws)
value_more k is f ws sums new i x c w less at before e value sum =
    let element : IsElement k c = subst (IsElement k) value (value_is_element k is f w) in
    let own : element_of_sum k x ≡ value_at k f w =
    sum ∙ ap₂ (plus k) (settled_zero k is) (times_one k c element) ∙ zero_plus k c element ∙ sym value in
    ap (map (element_of_sum k)) e ∙ map-append (element_of_sum k) sums (x ∷ [])
    ∙ ap₂ (λ xs y. xs ++ y ∷ []) before own
    ∙ sym (ap (map (value_at k f)) (take_more ws i w less ∙ ap (λ u. take i ws ++ u ∷ []) (sym at)) ∙ map-append (value_at k f) (take i ws) (w ∷ []))

-- ---- from the memo, and back

pub sums_of_form : (braid : BraidValue) → IsBraid braid → (w : List ℕ) (known : Combination) (sums : List ℕ) → IsWordOver braid.letters w → known ≡ form_of braid w →
    map (element_of_sum braid.field) sums ≡ map (value_at braid.field known) (block_basis braid (length w) (product_of braid w)) → IsFormOf braid w sums
sums_of_form braid is w known sums over known_is e =
    let ws : List (List ℕ) = block_basis braid (length w) (product_of braid w) in
    let same : map (element_of_sum braid.field) sums ≡ map (value_at braid.field (form_of braid w)) ws = e ∙ ap (λ f. map (value_at braid.field f) ws) known_is in
    record {
      width = values_width braid.field (form_of braid w) ws sums same;
      values = values_are braid.field is.field (form_of braid w) ws sums (block_basis_rises braid (length w) (product_of braid w)) (normal_in_block braid is (length w) (product_of braid w) w refl over refl) same;
    }

pub known_elements : (braid : BraidValue) → IsBraid braid → (w : List ℕ) (known : Combination) → IsWordOver braid.letters w → known ≡ form_of braid w → AllElements braid.field known
known_elements braid is w known over known_is = subst (AllElements braid.field) (sym known_is) (word_form_is_normal braid is (length w) w refl over).elements

-- the terms of a word's sums
pub record AreFormTerms (braid : BraidValue) (w : List ℕ) (found : Combination) : Type 0 where
  pub ordered : IsOrdered found
  pub form : found ≡ form_of braid w

pub terms_of_form : (braid : BraidValue) → IsBraid braid → (w : List ℕ) (sums : List ℕ) (found : Combination) → IsWordOver braid.letters w → IsFormOf braid w sums →
    found ≡ [] ++ without_zeros (scalar_multiple braid.field 1 (combination_of braid.field (block_basis braid (length w) (product_of braid w)) sums)) → AreFormTerms braid w found
terms_of_form braid is w sums found over formed e =
    let k : FieldValue = braid.field in
    let ws : List (List ℕ) = block_basis braid (length w) (product_of braid w) in
    let own : Combination = combination_of k ws sums in
    let normal : IsNormalForm is_killed braid (length w) (single w) (form_of braid w) = word_form_is_normal braid is (length w) w refl over in
    let in_order : IsOrdered found = subst IsOrdered (sym e) (ordered-multiple k 1 own (subst IsRising (sym (words_are k ws sums formed.width)) (block_basis_rises braid (length w) (product_of braid w)))) in
    record {
      ordered = in_order;
      form =
          ordered_unique k is.field found (form_of braid w) (subst (AllElements k) (sym e) (elements-multiple k is.field 1 own)) normal.elements in_order normal.ordered
          (λ v. values_of_sums braid is (length w) (product_of braid w) (single w) 1 sums [] found formed e v ∙ with_elements k is.field (form_of braid w) v);
    }
