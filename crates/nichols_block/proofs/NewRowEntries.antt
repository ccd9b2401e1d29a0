-- The entries of the rows of new words tell which combinations of the new words of a block are zero in the algebra.
use Rattle.std.proofs.Common.{◌≡◌, ℕ, zero, suc, ◌+◌, ◌<◌, ◌≤◌, ◌==◌, Bool, true, false, cond, List, [], ◌∷◌, length, map, refl, sym, ◌∙◌, ap, ap₂, subst, arith, inl, inr, eq-eqb}
use Rattle.std.specs.Prelude.{if◌then◌else◌, slice_index_or}
use Rattle.std.specs.List.{AllByRecursion, Contains}
use Rattle.std.specs.Cmp.Lexicographic.{same_text, other_text}
use Rattle.std.proofs.lemmas.Bool.{ne_eqb, cases_lt}
use Rattle.std.proofs.lemmas.List.{length-map, get_or-map}
use Rattle.nichols_field.specs.Field.{FieldValue, IsField, IsElement, plus, times}
use Rattle.nichols_field.proofs.FieldLaws.{plus_zero, times_zero, times_one, zero_is_element, plus_is_element}
use Rattle.nichols_field.proofs.FieldAlgebra.{zero_plus, times_chosen}
use Rattle.nichols_tensor.specs.Combination.{Combination, value_at, IsZero, AllElements, AllAmong, same_letters, single, linear_map}
use Rattle.nichols_tensor.specs.Positions.{word_at}
use Rattle.nichols_tensor.specs.WordOrder.{IsRising}
use Rattle.nichols_tensor.proofs.Building.{elements-linear_map}
use Rattle.nichols_tensor.proofs.Entries.{contains_none, contains_cases}
use Rattle.nichols_tensor.proofs.Enumeration.{among_weaker}
use Rattle.nichols_tensor.proofs.Linear.{linear_map-single}
use Rattle.nichols_tensor.proofs.Ordered.{is_in_or_not}
use Rattle.nichols_tensor.proofs.Rising.{word_at_is_in}
use Rattle.nichols_tensor.proofs.Values.{weight, weight_is_element, weightless, weight-linear_map}
use Rattle.nichols_braid.specs.Braid.{BraidValue, IsBraid, IsLetter}
use Rattle.nichols_braid.specs.Derivation.{derived_word, skew_derivative}
use Rattle.nichols_braid.specs.Forms.{derived_form}
use Rattle.nichols_braid.specs.Kernel.{is_killed, IsKilled}
use Rattle.nichols_braid.specs.Least.{basis}
use Rattle.nichols_braid.specs.LeastLaws.{IsNormalForm}
use Rattle.nichols_braid.specs.LinearTest.{IsLinearTest}
use Rattle.nichols_braid.specs.Product.{product_before}
use Rattle.nichols_braid.proofs.BraidLaws.{killed_is_linear, killed_is_ideal_from_right}
use Rattle.nichols_braid.proofs.Congruences.{AreCongruent, congruent_sym, congruent_left, passes_too, zero_passes}
use Rattle.nichols_braid.proofs.Forms.{congruent_extended, among-linear_map}
use Rattle.nichols_braid.proofs.FormsOfDerivatives.{derived_form_is_normal}
use Rattle.nichols_braid.proofs.Independence.{basis_is_independent}
use Rattle.nichols_braid.proofs.Killed.{is_killed_sound, is_killed_complete}
use Rattle.nichols_braid.proofs.Maps.{weight-plus, extended_same, everywhere}
use Rattle.nichols_echelon.specs.Cells.{Cell, entry, AllBelow, IsRow}
use Rattle.nichols_echelon.specs.Cells.{AllElements as AllCellsElements}
use Rattle.nichols_echelon.specs.Parts.{cells_behind}
use Rattle.nichols_echelon.specs.Rows.{RowsValue}
use Rattle.nichols_echelon.proofs.Entries.{entry-nil, entry-append}
use Rattle.nichols_echelon.proofs.Shapes.{all_read}
use Rattle.nichols_rows.specs.CombinationAt.{combination_at}
use Rattle.nichols_rows.proofs.Rows.{AreFunctionals}
use Rattle.nichols_rows.proofs.Split.{HaveEntries}
use Rattle.nichols_value.specs.Block.{lower_basis}
use Rattle.nichols_value.proofs.Blocks.{from_block_basis, lower_basis_is, lower_basis_rises, derived_in_block}
use Rattle.nichols_value.proofs.FormCells.{elements_back, words_at_differ, no_value}
use Rattle.nichols_block.specs.NewRows.{columns_to, joined_row, AreNewRows}
use Rattle.nichols_block.specs.Rows.{AreRowsOf, AreNewDerivatives, rows_by}
use Rattle.nichols_block.specs.Words.{block_new_words}
use Rattle.nichols_block.proofs.NewBlockWords.{from_block_new_words}

-- ---- places of words

-- the first place of a word in a list, from 0
unfoldable place_in : List (List ℕ) → List ℕ → ℕ
place_in [] w = 0
place_in (v ∷ ws) w = if same_letters v w then 0 else suc (place_in ws w)

place_within : (ws : List (List ℕ)) (w : List ℕ) → Contains ws w → (place_in ws w < length ws) × (word_at ws (place_in ws w) ≡ w)
unfolding place_in
place_within [] w i = absurd (contains_none w i)
place_within (v ∷ ws) w i = at (same_letters v w) refl i (place_within ws w)
  where
    at : (b : Bool) → same_letters v w ≡ b → Contains (v ∷ ws) w → (Contains ws w → (place_in ws w < length ws) × (word_at ws (place_in ws w) ≡ w)) →
        (cond b 0 (suc (place_in ws w)) < suc (length ws)) × (word_at (v ∷ ws) (cond b 0 (suc (place_in ws w))) ≡ w)
    at true e h rest = (omega arith, same_text v w (sym e))
    at false e h rest =
        elim (contains_cases v ws w h) [
          | inl same ↦ absurd (other_text v w (sym e) (sym same))
          | inr j ↦ let r : (place_in ws w < length ws) × (word_at ws (place_in ws w) ≡ w) = rest j in (omega (arith, r.0), r.1)
        ]

place_of_word_at : (ws : List (List ℕ)) → IsRising ws → (i : ℕ) → i < length ws → place_in ws (word_at ws i) ≡ i
place_of_word_at ws rising i within =
    let r : (place_in ws (word_at ws i) < length ws) × (word_at ws (place_in ws (word_at ws i)) ≡ word_at ws i) = place_within ws (word_at ws i) (word_at_is_in ws i within) in
    words_at_differ ws (place_in ws (word_at ws i)) i rising r.0 within r.1

-- ---- weights

weight_none : (k : FieldValue) → IsField k → (φ : List ℕ → ℕ) (f : Combination) → AllByRecursion (λ t. φ t.word ≡ 0) f → weight k φ f ≡ 0
unfolding weight
weight_none k is φ [] h = refl
weight_none k is φ (t ∷ f) h = ap₂ (plus k) (ap (times k t.coefficient) h.0 ∙ times_zero k t.coefficient is) (weight_none k is φ f h.1) ∙ plus_zero k 0 (zero_is_element k is)

-- what a word adds at a column
abbrev mark : List (List ℕ) → ℕ → ℕ → List ℕ → ℕ
mark ws offset column v = if (offset + place_in ws v) == column then 1 else 0

chosen_times : (k : FieldValue) → IsField k → (b : Bool) (c : ℕ) → IsElement k c → times k c (cond b 1 0) ≡ cond b c 0
chosen_times k is b c e = times_chosen k b c 1 is ∙ ap (λ n. cond b n 0) (times_one k c e)

-- the entry of shifted cells is the weight of their combination
entry_shifted : (k : FieldValue) → IsField k → (ws : List (List ℕ)) → IsRising ws → (offset column : ℕ) (cells : List Cell) → AllBelow (length ws) cells → AllCellsElements k cells →
    entry k (cells_behind offset cells) column ≡ weight k (mark ws offset column) (combination_at ws cells)
unfolding entry weight
entry_shifted k is ws rising offset column [] below e = refl
entry_shifted k is ws rising offset column (c ∷ cells) below e =
    ap₂ (plus k)
    (ap (λ n. cond ((offset + n) == column) c.coefficient 0) (sym (place_of_word_at ws rising c.column below.0)) ∙ sym (chosen_times k is ((offset + place_in ws (word_at ws c.column)) == column) c.coefficient e.0))
    (entry_shifted k is ws rising offset column cells below.1 e.1)

-- at the column of a word the weight is the value there
same_mark : (ws : List (List ℕ)) (offset : ℕ) (v w : List ℕ) → Contains ws v → Contains ws w → ((offset + place_in ws v) == (offset + place_in ws w)) ≡ same_letters v w
same_mark ws offset v w i j = at (same_letters v w) refl
  where
    at : (b : Bool) → same_letters v w ≡ b → ((offset + place_in ws v) == (offset + place_in ws w)) ≡ b
    at true e = eq-eqb (offset + place_in ws v) (offset + place_in ws w) (ap (λ u. offset + place_in ws u) (same_text v w (sym e)))
    at false e =
        ne_eqb (offset + place_in ws v) (offset + place_in ws w)
        (λ same.
        let places : place_in ws v ≡ place_in ws w = omega arith in
        other_text v w (sym e) (sym (place_within ws v i).1 ∙ ap (word_at ws) places ∙ (place_within ws w j).1))

weight_at : (k : FieldValue) → IsField k → (ws : List (List ℕ)) (offset : ℕ) (f : Combination) (w : List ℕ) → AllElements k f → AllAmong f ws → Contains ws w → weight k (mark ws offset (offset + place_in ws w)) f ≡ value_at k f w
unfolding weight AllAmong
weight_at k is ws offset [] w e among i = refl
weight_at k is ws offset (t ∷ f) w e among i =
    ap₂ (plus k) (chosen_times k is ((offset + place_in ws t.word) == (offset + place_in ws w)) t.coefficient e.0 ∙ ap (λ b. cond b t.coefficient 0) (same_mark ws offset t.word w among.0 i))
    (weight_at k is ws offset f w e.1 among.1 i)

-- behind the columns of the words it is 0
weight_behind : (k : FieldValue) → IsField k → (ws : List (List ℕ)) (offset column : ℕ) (f : Combination) → AllAmong f ws → offset + length ws ≤ column → weight k (mark ws offset column) f ≡ 0
unfolding AllAmong
weight_behind k is ws offset column f among behind = weight_none k is (mark ws offset column) f (each f among)
  where
    each : (f : Combination) → AllAmong f ws → AllByRecursion (λ t. mark ws offset column t.word ≡ 0) f
    each [] h = tt
    each (t ∷ f) h =
        (let within : place_in ws t.word < length ws = (place_within ws t.word h.0).0 in ap (λ b. cond b 1 0) (ne_eqb (offset + place_in ws t.word) column (λ e. absurd (omega (arith, within, behind, e)))), each f h.1)

-- a combination of some words is zero where its value is 0 at each of them
zero_on : (k : FieldValue) → IsField k → (ws : List (List ℕ)) (f : Combination) → AllAmong f ws → ((w : List ℕ) → Contains ws w → value_at k f w ≡ 0) → IsZero k f
zero_on k is ws f among h w =
    elim (is_in_or_not w ws) [
      | inl i ↦ h w i
      | inr none ↦ no_value k is ws f among w none
    ]

-- ---- several forms, one after the other

-- each list's columns stand behind those of the list before it
abbrev AreSteps : (ℕ → List (List ℕ)) → (ℕ → ℕ) → Type 0
AreSteps ws offset = (a : ℕ) → offset (suc a) ≡ offset a + length (ws (suc a))

-- the numbers from 1 to n
abbrev IsUpTo : ℕ → ℕ → Type 0
IsUpTo n a = (1 ≤ a) × (a ≤ n)

unfoldable total : FieldValue → (ℕ → List (List ℕ)) → (ℕ → ℕ) → (ℕ → Combination) → ℕ → ℕ → ℕ
total k ws offset form zero column = 0
total k ws offset form (suc a) column = plus k (total k ws offset form a column) (weight k (mark (ws (suc a)) (offset a) column) (form (suc a)))

total_is_element : (k : FieldValue) → IsField k → (ws : ℕ → List (List ℕ)) (offset : ℕ → ℕ) (form : ℕ → Combination) (n column : ℕ) → IsElement k (total k ws offset form n column)
unfolding total
total_is_element k is ws offset form zero column = zero_is_element k is
total_is_element k is ws offset form (suc a) column = plus_is_element k (total k ws offset form a column) (weight k (mark (ws (suc a)) (offset a) column) (form (suc a))) is

-- behind the columns of all lists it is 0
total_behind : (k : FieldValue) → IsField k → (ws : ℕ → List (List ℕ)) (offset : ℕ → ℕ) → AreSteps ws offset → (form : ℕ → Combination) (n column : ℕ) → ((a : ℕ) → IsUpTo n a → AllAmong (form a) (ws a)) → offset n ≤ column → total k ws offset form n column ≡ 0
unfolding total
total_behind k is ws offset steps form zero column among behind = refl
total_behind k is ws offset steps form (suc a) column among behind =
    let step : offset (suc a) ≡ offset a + length (ws (suc a)) = steps a in
    ap₂ (plus k) (total_behind k is ws offset steps form a column (λ b h. among b (h.0, omega (arith, h.1))) (omega (arith, step, behind)))
    (weight_behind k is (ws (suc a)) (offset a) column (form (suc a)) (among (suc a) (omega arith, omega arith)) (omega (arith, step, behind)))
    ∙ plus_zero k 0 (zero_is_element k is)

-- the total of forms that are zero is 0
total_of_zeros : (k : FieldValue) → IsField k → (ws : ℕ → List (List ℕ)) (offset : ℕ → ℕ) (form : ℕ → Combination) (n column : ℕ) → ((a : ℕ) → IsUpTo n a → IsZero k (form a)) → total k ws offset form n column ≡ 0
unfolding total
total_of_zeros k is ws offset form zero column h = refl
total_of_zeros k is ws offset form (suc a) column h =
    ap₂ (plus k) (total_of_zeros k is ws offset form a column (λ b l. h b (l.0, omega (arith, l.1)))) (weightless k is (mark (ws (suc a)) (offset a) column) (form (suc a)) (h (suc a) (omega arith, omega arith)))
    ∙ plus_zero k 0 (zero_is_element k is)

-- and where it is 0 at every column each form is zero
zeros_of_total : (k : FieldValue) → IsField k → (ws : ℕ → List (List ℕ)) (offset : ℕ → ℕ) → AreSteps ws offset → (form : ℕ → Combination) (n : ℕ) → ((a : ℕ) → IsUpTo n a → AllElements k (form a) × AllAmong (form a) (ws a)) →
    ((column : ℕ) → total k ws offset form n column ≡ 0) → (a : ℕ) → IsUpTo n a → IsZero k (form a)
unfolding total
zeros_of_total k is ws offset steps form zero over none a l = absurd (omega (arith, l.0, l.1))
zeros_of_total k is ws offset steps form (suc b) over none a l =
    elim (cases_lt a (suc b)) [
      | inl less ↦ zeros_of_total k is ws offset steps form b (λ c h. over c (h.0, omega (arith, h.1))) before a (l.0, omega arith)
      | inr more ↦ let same : suc b ≡ a = omega (arith, l.1, more) in subst (λ c. IsZero k (form c)) same last
    ]
  where
    here : AllElements k (form (suc b)) × AllAmong (form (suc b)) (ws (suc b))
    here = over (suc b) (omega arith, omega arith)

    last : IsZero k (form (suc b))
    last =
        zero_on k is (ws (suc b)) (form (suc b)) here.1
        (λ w i.
        let column : ℕ = offset b + place_in (ws (suc b)) w in
        let weight_here : ℕ = weight k (mark (ws (suc b)) (offset b) column) (form (suc b)) in
        sym (weight_at k is (ws (suc b)) (offset b) (form (suc b)) w here.0 here.1 i) ∙ sym (zero_plus k weight_here (weight_is_element k is (mark (ws (suc b)) (offset b) column) (form (suc b))))
        ∙ ap (λ n. plus k n weight_here) (sym (total_behind k is ws offset steps form b column (λ c h. (over c (h.0, omega (arith, h.1))).1) (omega arith))) ∙ none column)

    before : (column : ℕ) → total k ws offset form b column ≡ 0
    before column =
        sym (plus_zero k (total k ws offset form b column) (total_is_element k is ws offset form b column))
        ∙ ap (plus k (total k ws offset form b column)) (sym (weightless k is (mark (ws (suc b)) (offset b) column) (form (suc b)) last)) ∙ none column

-- the weight of a row's entry is the total of the sums of the forms
sum_of_totals : (k : FieldValue) → IsField k → (ws : ℕ → List (List ℕ)) (offset : ℕ → ℕ) (form : List ℕ → ℕ → Combination) (n column : ℕ) (f : Combination) →
    weight k (λ w. total k ws offset (form w) n column) f ≡ total k ws offset (λ a. linear_map k (λ w. form w a) f) n column
unfolding total
sum_of_totals k is ws offset form zero column f = weight_none k is (λ w. 0) f (everywhere (λ t. ◌≡◌ {A = ℕ} 0 0) f (λ t. refl))
sum_of_totals k is ws offset form (suc a) column f =
    weight-plus k is (λ w. total k ws offset (form w) a column) (λ w. weight k (mark (ws (suc a)) (offset a) column) (form w (suc a))) f
    ∙ ap₂ (plus k) (sum_of_totals k is ws offset form a column f) (sym (weight-linear_map k is (mark (ws (suc a)) (offset a) column) (λ w. form w (suc a)) f))

-- ---- the rows of the new words of a block

-- the number of a word of degree m + 1 at a column, which is the entry of its row
pub row_number : BraidValue → ℕ → List ℕ → ℕ → List ℕ → ℕ
row_number braid m g column w = total braid.field (lower_basis braid (suc m) g) (columns_to braid (suc m) g) (λ a. derived_form is_killed braid (suc m) w a) braid.letters column

columns_are_steps : (braid : BraidValue) (m : ℕ) (g : List ℕ) → AreSteps (lower_basis braid m g) (columns_to braid m g)
unfolding columns_to
columns_are_steps braid m g a = refl

derived_is_normal : (braid : BraidValue) → IsBraid braid → (m : ℕ) (g w : List ℕ) → Contains (block_new_words braid (suc m) g) w → (a : ℕ) → IsLetter braid a → IsNormalForm is_killed braid m (skew_derivative braid a (single w)) (derived_form is_killed braid (suc m) w a)
derived_is_normal braid is m g w i a la =
    let (size, over, e, new) = from_block_new_words braid (suc m) g w i in
    derived_form_is_normal is_killed braid is (killed_is_ideal_from_right braid is) m w a size over la

-- the words of a lower block are least words of the degree below
lower_is_least : (braid : BraidValue) (m : ℕ) (g : List ℕ) (a : ℕ) (w : List ℕ) → Contains (lower_basis braid (suc m) g a) w → Contains (basis is_killed braid m) w
lower_is_least braid m g a w i = (from_block_basis braid m (product_before braid a g) w (subst (λ ws. Contains ws w) (lower_basis_is braid m g a) i)).0

-- the sum of the forms of the derivatives of a combination of new words is the form of its derivative
summed_form : (braid : BraidValue) → IsBraid braid → (m : ℕ) (g : List ℕ) (a : ℕ) → IsLetter braid a → (f : Combination) → AllAmong f (block_new_words braid (suc m) g) →
    AllAmong (linear_map braid.field (λ w. derived_form is_killed braid (suc m) w a) f) (lower_basis braid (suc m) g a)
    × AreCongruent braid.field (is_killed braid m) (skew_derivative braid a f) (linear_map braid.field (λ w. derived_form is_killed braid (suc m) w a) f)
unfolding AllAmong
summed_form braid is m g a la f among = (
  among-linear_map braid.field form f (lower_basis braid (suc m) g a) (all_among f among),
  congruent_left braid.field is.field (is_killed braid m) (killed_is_linear braid is m) (linear_map braid.field (λ w. skew_derivative braid a (single w)) f) (skew_derivative braid a f) (linear_map braid.field form f)
      (extended_same braid.field is.field (λ w. skew_derivative braid a (single w)) (derived_word braid a) f (λ w. linear_map-single braid.field is.field (derived_word braid a) w))
      (congruent_extended braid.field is.field (is_killed braid m) (killed_is_linear braid is m) (λ w. skew_derivative braid a (single w)) form f (all_congruent f among)),
)
  where
    form : List ℕ → Combination
    form w = derived_form is_killed braid (suc m) w a

    all_among : (f : Combination) → AllAmong f (block_new_words braid (suc m) g) → AllByRecursion (λ t. AllAmong (form t.word) (lower_basis braid (suc m) g a)) f
    all_among [] h = tt
    all_among (t ∷ f) h = (let (size, over, e, new) = from_block_new_words braid (suc m) g t.word h.0 in derived_in_block braid is (suc m) g t.word size over e a la, all_among f h.1)

    all_congruent : (f : Combination) → AllAmong f (block_new_words braid (suc m) g) → AllByRecursion (λ t. AreCongruent braid.field (is_killed braid m) (skew_derivative braid a (single t.word)) (form t.word)) f
    all_congruent [] h = tt
    all_congruent (t ∷ f) h = ((derived_is_normal braid is m g t.word h.0 a la).congruent, all_congruent f h.1)

pub rows_tell : (braid : BraidValue) → IsBraid braid → (m : ℕ) (g : List ℕ) → AreFunctionals braid.field (is_killed braid (suc m)) (block_new_words braid (suc m) g) (row_number braid m g)
unfolding row_number
rows_tell braid is m g = record {
  elements = λ c w i. total_is_element k is.field ws offset (λ a. derived_form is_killed braid (suc m) w a) braid.letters c;
  sound = λ f among elements h c. sum f c ∙ total_of_zeros k is.field ws offset (summed f) braid.letters c (λ a la. zero_of_killed f among h a la);
  complete = λ f among elements none. is_killed_complete braid (suc m) f (λ a la. killed_of_zero f among none a la);
}
  where
    k : FieldValue
    k = braid.field

    ws : ℕ → List (List ℕ)
    ws = lower_basis braid (suc m) g

    offset : ℕ → ℕ
    offset = columns_to braid (suc m) g

    l : IsLinearTest braid.field (is_killed braid m)
    l = killed_is_linear braid is m

    summed : Combination → ℕ → Combination
    summed f a = linear_map k (λ w. derived_form is_killed braid (suc m) w a) f

    sum : (f : Combination) (c : ℕ) → weight k (λ w. total k ws offset (λ a. derived_form is_killed braid (suc m) w a) braid.letters c) f ≡ total k ws offset (summed f) braid.letters c
    sum f c = sum_of_totals k is.field ws offset (derived_form is_killed braid (suc m)) braid.letters c f

    zero_of_killed : (f : Combination) → AllAmong f (block_new_words braid (suc m) g) → is_killed braid (suc m) f ≡ true → (a : ℕ) → IsLetter braid a → IsZero k (summed f a)
    zero_of_killed f among h a la =
        let s : AllAmong (summed f a) (ws a) × AreCongruent k (is_killed braid m) (skew_derivative braid a f) (summed f a) = summed_form braid is m g a la f among in
        let killed : IsKilled braid (suc m) f = is_killed_sound braid is.field (suc m) f h in
        basis_is_independent is_killed braid is.field m l (summed f a) (among_weaker (summed f a) (ws a) (basis is_killed braid m) (lower_is_least braid m g a) s.0)
        (passes_too k is.field (is_killed braid m) l (summed f a) (skew_derivative braid a f) (congruent_sym k is.field (is_killed braid m) l (skew_derivative braid a f) (summed f a) s.1)
        (is_killed_complete braid m (skew_derivative braid a f) (killed a la)))

    killed_of_zero : (f : Combination) → AllAmong f (block_new_words braid (suc m) g) → ((c : ℕ) → weight k (λ w. total k ws offset (λ a. derived_form is_killed braid (suc m) w a) braid.letters c) f ≡ 0) →
        (a : ℕ) → IsLetter braid a → IsKilled braid m (skew_derivative braid a f)
    killed_of_zero f among none a la =
        let s : AllAmong (summed f a) (ws a) × AreCongruent k (is_killed braid m) (skew_derivative braid a f) (summed f a) = summed_form braid is m g a la f among in
        let none_there : IsZero k (summed f a) =
        zeros_of_total k is.field ws offset (columns_are_steps braid (suc m) g) (summed f) braid.letters
        (λ b lb. (elements-linear_map k is.field (λ w. derived_form is_killed braid (suc m) w b) f, (summed_form braid is m g b lb f among).0)) (λ c. sym (sum f c) ∙ none c) a la in
        is_killed_sound braid is.field m (skew_derivative braid a f)
        (passes_too k is.field (is_killed braid m) l (skew_derivative braid a f) (summed f a) s.1 (zero_passes k (is_killed braid m) l (summed f a) none_there))

-- ---- their cells

-- what is known of the i-th row by a letter
pub record IsRowOf (k : FieldValue) (ws : List (List ℕ)) (form : Combination) (cells : List Cell) : Type 0 where
  pub row : IsRow cells
  pub below : AllBelow (length ws) cells
  pub elements : AllCellsElements k cells
  pub same : combination_at ws cells ≡ form

pub row_by_letter : (braid : BraidValue) → IsBraid braid → (m : ℕ) (g : List ℕ) (lists : List RowsValue) → AreNewDerivatives braid (suc m) g lists → (i : ℕ) → i < length (block_new_words braid (suc m) g) → (a : ℕ) → IsLetter braid a →
    IsRowOf braid.field (lower_basis braid (suc m) g a) (derived_form is_killed braid (suc m) (word_at (block_new_words braid (suc m) g) i) a) (slice_index_or (rows_by lists a).rows i [])
row_by_letter braid is m g lists h i within a la = record {
  row = all_read IsRow rows i cells [] here.shape.shape inside refl;
  below = all_read (AllBelow (length ws)) rows i cells [] here.shape.below inside refl;
  elements = elements_back braid.field ws cells (subst (AllElements braid.field) (sym same) (derived_is_normal braid is m g (word_at news i) (word_at_is_in news i within) a la).elements);
  same = same;
}
  where
    news : List (List ℕ)
    news = block_new_words braid (suc m) g

    ws : List (List ℕ)
    ws = lower_basis braid (suc m) g a

    form : List ℕ → Combination
    form w = derived_form is_killed braid (suc m) w a

    here : AreRowsOf ws (map form news) (rows_by lists a)
    here = h.each a la

    rows : List (List Cell)
    rows = (rows_by lists a).rows

    cells : List Cell
    cells = slice_index_or rows i []

    count : length rows ≡ length news
    count = sym (length-map rows (combination_at ws)) ∙ ap length here.forms ∙ length-map news form

    inside : i < length rows
    inside = omega (arith, count, within)

    same : combination_at ws cells ≡ form (word_at news i)
    same = sym (get_or-map (combination_at ws) rows i [] [] inside) ∙ ap (λ fs. slice_index_or fs i []) here.forms ∙ get_or-map form news i [] [] within

pub joined_entry : (braid : BraidValue) → IsBraid braid → (m : ℕ) (g : List ℕ) (lists : List RowsValue) → AreNewDerivatives braid (suc m) g lists → (i : ℕ) → i < length (block_new_words braid (suc m) g) → (column : ℕ) →
    entry braid.field (joined_row braid (suc m) g lists i braid.letters) column ≡ row_number braid m g column (word_at (block_new_words braid (suc m) g) i)
unfolding joined_row total row_number
joined_entry braid is m g lists h i within column = upto braid.letters (omega arith)
  where
    k : FieldValue
    k = braid.field

    form : ℕ → Combination
    form a = derived_form is_killed braid (suc m) (word_at (block_new_words braid (suc m) g) i) a

    upto : (n : ℕ) → n ≤ braid.letters → entry k (joined_row braid (suc m) g lists i n) column ≡ total k (lower_basis braid (suc m) g) (columns_to braid (suc m) g) form n column
    upto zero less = entry-nil k column
    upto (suc a) less =
        let offset : ℕ = columns_to braid (suc m) g a in
        let ws : List (List ℕ) = lower_basis braid (suc m) g (suc a) in
        let cells : List Cell = slice_index_or (rows_by lists (suc a)).rows i [] in
        let r : IsRowOf k ws (form (suc a)) cells = row_by_letter braid is m g lists h i within (suc a) (omega arith, less) in
        entry-append k is.field (joined_row braid (suc m) g lists i a) (cells_behind offset cells) column
        ∙ ap₂ (plus k) (upto a (omega (arith, less))) (entry_shifted k is.field ws (lower_basis_rises braid (suc m) g (suc a)) offset column cells r.below r.elements ∙ ap (weight k (mark ws offset column)) r.same)

-- the rows of the new words have these entries
pub new_rows_have_entries : (braid : BraidValue) → IsBraid braid → (m : ℕ) (g : List ℕ) (lists : List RowsValue) (rows : List (List Cell)) → AreNewDerivatives braid (suc m) g lists → AreNewRows braid (suc m) g lists rows →
    HaveEntries braid.field rows (block_new_words braid (suc m) g) (row_number braid m g)
new_rows_have_entries braid is m g lists rows h r i column within =
    ap (λ (row : List Cell). entry braid.field row column) (r.each i (let count : length rows ≡ length (block_new_words braid (suc m) g) = r.count in omega arith)) ∙ joined_entry braid is m g lists h i within column
