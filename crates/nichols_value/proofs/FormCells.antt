-- The cells of a form: their entries are the values of the form at the words, and cells with these entries are the form's.
use Rattle.std.proofs.Common.{◌≡◌, ℕ, Bool, true, false, cond, ◌<◌, ◌==◌, List, [], ◌∷◌, length, refl, sym, ◌∙◌, ap, ap₂, subst, inl, inr}
use Rattle.std.specs.List.{Contains}
use Rattle.std.proofs.lemmas.Bool.{cases_order, eq-eqb, ne_eqb}
use Rattle.std.specs.Cmp.Lexicographic.{same_text}
use Rattle.nichols_field.specs.Field.{FieldValue, IsField, plus}
use Rattle.nichols_tensor.specs.Combination.{AllAmong, AllElements, Combination, HasSameValues, same_letters, value_at, words_of}
use Rattle.nichols_tensor.specs.Positions.{word_at}
use Rattle.nichols_tensor.specs.WordOrder.{IsOrdered, IsRising}
use Rattle.nichols_tensor.proofs.Order.{less_is_other}
use Rattle.nichols_tensor.proofs.Ordered.{is_in_or_not, ordered_unique, zero_at_others}
use Rattle.nichols_tensor.proofs.Over.{all_at, all_of_words}
use Rattle.nichols_tensor.proofs.Rising.{position_of, words_at_rise}
use Rattle.nichols_tensor.proofs.Values.{same_itself}
use Rattle.nichols_tensor.proofs.Entries.{contains_none}
use Rattle.nichols_echelon.specs.Cells.{AllBelow, Cell, IsRow, entry}
use Rattle.nichols_echelon.specs.Cells.{AllElements as AllCellsElements}
use Rattle.nichols_echelon.proofs.Entries.{entry-cons, entry-nil}
use Rattle.nichols_rows.specs.CombinationAt.{combination_at}
use Rattle.nichols_rows.proofs.Rows.{combination_among, combination_elements, combination_is_ordered}
use Rattle.nichols_value.specs.Kept.{AreCellsOf}

-- words at different places differ
pub words_at_differ : (ws : List (List ℕ)) (i j : ℕ) → IsRising ws → i < length ws → j < length ws → word_at ws i ≡ word_at ws j → i ≡ j
words_at_differ ws i j r within within_too same =
    elim (cases_order i j) [
      | inl e ↦ e
      | inr (inl less) ↦ absurd (less_is_other (word_at ws i) (word_at ws j) (words_at_rise ws i j r less within_too) same)
      | inr (inr more) ↦ absurd (less_is_other (word_at ws j) (word_at ws i) (words_at_rise ws j i r more within) (sym same))
    ]

-- words of a list that rises are the same exactly where their places are
pub same_places : (ws : List (List ℕ)) (i j : ℕ) → IsRising ws → i < length ws → j < length ws → same_letters (word_at ws i) (word_at ws j) ≡ (i == j)
same_places ws i j r within within_too = at (same_letters (word_at ws i) (word_at ws j)) refl
  where
    at : (b : Bool) → same_letters (word_at ws i) (word_at ws j) ≡ b → same_letters (word_at ws i) (word_at ws j) ≡ (i == j)
    at true e = e ∙ sym (eq-eqb i j (words_at_differ ws i j r within within_too (same_text (word_at ws i) (word_at ws j) (sym e))))
    at false e = e ∙ sym (ne_eqb i j (λ same. let c : true ≡ false = sym (same_itself (word_at ws j)) ∙ ap (λ k. same_letters (word_at ws k) (word_at ws j)) (sym same) ∙ e in cc))

-- the entry at a place is the value at the word there
pub entry_at_place : (k : FieldValue) (ws : List (List ℕ)) → IsRising ws → (cells : List Cell) → AllBelow (length ws) cells → (p : ℕ) → p < length ws → entry k cells p ≡ value_at k (combination_at ws cells) (word_at ws p)
entry_at_place k ws r [] below p within = entry-nil k p
entry_at_place k ws r (c ∷ cells) below p within =
    entry-cons k c cells p
    ∙ ap₂ (λ (b : Bool) (n : ℕ). plus k (cond b c.coefficient 0) n) (sym (same_places ws c.column p r below.0 within)) (entry_at_place k ws r cells below.1 p within)

pub form_entry : (k : FieldValue) (ws : List (List ℕ)) (f : Combination) (cells : List Cell) → IsRising ws → AreCellsOf ws f cells → (p : ℕ) → p < length ws → entry k cells p ≡ value_at k f (word_at ws p)
form_entry k ws f cells r are p within = entry_at_place k ws r cells are.below p within ∙ ap (λ (g : Combination). value_at k g (word_at ws p)) are.form

-- the coefficients are those of the form
pub elements_back : (k : FieldValue) (ws : List (List ℕ)) (cells : List Cell) → AllElements k (combination_at ws cells) → AllCellsElements k cells
elements_back k ws [] e = tt
elements_back k ws (c ∷ cells) e = (e.0, elements_back k ws cells e.1)

pub form_cells_elements : (k : FieldValue) (ws : List (List ℕ)) (f : Combination) (cells : List Cell) → AllElements k f → AreCellsOf ws f cells → AllCellsElements k cells
form_cells_elements k ws f cells e are = elements_back k ws cells (subst (AllElements k) (sym are.form) e)

-- a form of no words is 0
pub none_among : (f : Combination) → AllAmong f [] → f ≡ []
unfolding AllAmong
none_among [] h = refl
none_among (t ∷ f) h = absurd (contains_none t.word h.0)

-- a word that isn't in the list has no value
pub no_value : (k : FieldValue) → IsField k → (ws : List (List ℕ)) (f : Combination) → AllAmong f ws → (w : List ℕ) → (Contains ws w → ⊥) → value_at k f w ≡ 0
unfolding AllAmong
no_value k is ws f among w none = zero_at_others k is f w (λ i. none (all_at (λ v. Contains ws v) (words_of f) w (all_of_words (λ v. Contains ws v) f among) i))

-- a row whose entries are the values of a form is the form's
pub cells_of_form : (k : FieldValue) → IsField k → (ws : List (List ℕ)) (f : Combination) (cells : List Cell) → IsRising ws → IsRow cells → AllBelow (length ws) cells → AllCellsElements k cells →
    AllAmong f ws → IsOrdered f → AllElements k f → ((p : ℕ) → p < length ws → entry k cells p ≡ value_at k f (word_at ws p)) → AreCellsOf ws f cells
cells_of_form k is ws f cells r row below elements among ordered form_elements same = record {
  row = row;
  below = below;
  form = ordered_unique k is (combination_at ws cells) f (combination_elements k ws cells elements) form_elements (combination_is_ordered ws r cells row below) ordered values;
}
  where
    values : HasSameValues k (combination_at ws cells) f
    values w =
        elim (is_in_or_not w ws) [
          | inl i ↦
              let (p, within, here) = position_of ws w i in
              subst (λ (v : List ℕ). value_at k (combination_at ws cells) v ≡ value_at k f v) here (sym (entry_at_place k ws r cells below p within) ∙ same p within)
          | inr none ↦ no_value k is ws (combination_at ws cells) (combination_among ws cells below) w none ∙ sym (no_value k is ws f among w none)
        ]
