-- Rows of numbers that tell which combinations of a list's words are zero in the algebra: a word of the list is least exactly where
-- its row is no combination of the rows before it, and such a combination of least words' rows is its normal form.
use Rattle.std.proofs.Common.{◌≡◌, ℕ, ◌<◌, Bool, true, false, List, [], ◌∷◌, length, refl, sym, ◌∙◌, ap, subst, arith}
use Rattle.std.specs.List.{AllByRecursion, Contains}
use Rattle.std.specs.declared.cmp.Ordering.TheVariants.{Less}
use Rattle.nichols_field.specs.Field.{FieldValue, IsField, IsElement, plus, times, negative}
use Rattle.nichols_field.proofs.FieldLaws.{plus_zero, one_is_element}
use Rattle.nichols_field.proofs.FieldAlgebra.{one_times, difference_of_same, same_from_difference}
use Rattle.nichols_tensor.specs.Combination.{Combination, AllElements, AllNonzero, AllAmong, words_of, single, scalar_multiple, minus}
use Rattle.nichols_tensor.specs.Positions.{word_at}
use Rattle.nichols_tensor.specs.Words.{words_before}
use Rattle.nichols_tensor.specs.WordOrder.{word_cmp, IsBelowFirst, IsRising, IsOrdered}
use Rattle.nichols_tensor.proofs.Values.{weight, weight_is_element, weight-append, weight-scalar_multiple}
use Rattle.nichols_tensor.proofs.Enumeration.{among-append, among-scalar_multiple}
use Rattle.nichols_tensor.proofs.Building.{elements-append, elements-scalar_multiple}
use Rattle.nichols_tensor.proofs.Rising.{word_at_is_in, position_of, words_at_rise, position_below}
use Rattle.nichols_tensor.proofs.AllWords.{in_words_before}
use Rattle.nichols_braid.specs.Braid.{BraidValue}
use Rattle.nichols_braid.specs.Kernel.{Vanishing}
use Rattle.nichols_braid.specs.Least.{is_least, basis, normal_form}
use Rattle.nichols_braid.specs.LinearTest.{IsLinearTest}
use Rattle.nichols_braid.proofs.Congruences.{AreCongruent, reduced_with_elements}
use Rattle.nichols_braid.proofs.LeastWords.{not_least_at}
use Rattle.nichols_braid.proofs.Reduction.{in_basis}
use Rattle.nichols_braid.proofs.NormalForms.{form_is}
use Rattle.nichols_braid.proofs.Spanning.{IsSpanning, reduced_to_earlier_entries}
use Rattle.nichols_echelon.specs.Cells.{Cell, IsRow, columns_of, AllBelow}
use Rattle.nichols_echelon.specs.Cells.{AllElements as AllCellsElements, AllNonzero as AllCellsNonzero, IsBelowFirst as IsColumnBelow, IsRising as AreColumnsRising}
use Rattle.nichols_rows.specs.CombinationAt.{combination_at}

-- numbers of words, a family of them, that tell which combinations of a list's words pass a test
pub record AreFunctionals (k : FieldValue) (test : Combination → Bool) (ws : List (List ℕ)) (φ : ℕ → List ℕ → ℕ) : Type 0 where
  pub elements : (c : ℕ) (w : List ℕ) → Contains ws w → IsElement k (φ c w)
  pub sound : (f : Combination) → AllAmong f ws → AllElements k f → test f ≡ true → (c : ℕ) → weight k (φ c) f ≡ 0
  pub complete : (f : Combination) → AllAmong f ws → AllElements k f → ((c : ℕ) → weight k (φ c) f ≡ 0) → test f ≡ true

-- ---- the difference of a word and a combination

weight_single : (k : FieldValue) → IsField k → (φ : List ℕ → ℕ) (w : List ℕ) → IsElement k (φ w) → weight k φ (single w) ≡ φ w
unfolding weight
weight_single k is φ w e = ap (λ n. plus k n 0) (one_times k (φ w) e) ∙ plus_zero k (φ w) e

weight_difference : (k : FieldValue) → IsField k → (φ : List ℕ → ℕ) (w : List ℕ) (f : Combination) → IsElement k (φ w) → weight k φ (minus k (single w) f) ≡ plus k (φ w) (times k (negative k 1) (weight k φ f))
weight_difference k is φ w f e =
    weight-append k is φ (single w) (scalar_multiple k (negative k 1) f) ∙ ap (λ n. plus k n (weight k φ (scalar_multiple k (negative k 1) f))) (weight_single k is φ w e)
    ∙ ap (plus k (φ w)) (weight-scalar_multiple k is φ (negative k 1) f)

difference_among : (k : FieldValue) (w : List ℕ) (f : Combination) (ws : List (List ℕ)) → Contains ws w → AllAmong f ws → AllAmong (minus k (single w) f) ws
unfolding AllAmong
difference_among k w f ws i a = among-append (single w) (scalar_multiple k (negative k 1) f) ws (i, tt) (among-scalar_multiple k (negative k 1) f ws a)

difference_elements : (k : FieldValue) → IsField k → (w : List ℕ) (f : Combination) → AllElements k (minus k (single w) f)
difference_elements k is w f = elements-append k (single w) (scalar_multiple k (negative k 1) f) (one_is_element k is, tt) (elements-scalar_multiple k is (negative k 1) f)

-- a word whose numbers are those of a combination is congruent to it
pub congruent_by_rows : (k : FieldValue) → IsField k → (test : Combination → Bool) (ws : List (List ℕ)) (φ : ℕ → List ℕ → ℕ) → AreFunctionals k test ws φ →
    (w : List ℕ) (f : Combination) → Contains ws w → AllAmong f ws → ((c : ℕ) → φ c w ≡ weight k (φ c) f) → AreCongruent k test (single w) f
congruent_by_rows k is test ws φ functionals w f i a same =
    functionals.complete (minus k (single w) f) (difference_among k w f ws i a) (difference_elements k is w f)
    (λ c.
    weight_difference k is (φ c) w f (functionals.elements c w i) ∙ ap (λ n. plus k n (times k (negative k 1) (weight k (φ c) f))) (same c)
    ∙ difference_of_same k (weight k (φ c) f) is)

-- and the other way round
pub rows_of_congruent : (k : FieldValue) → IsField k → (test : Combination → Bool) (ws : List (List ℕ)) (φ : ℕ → List ℕ → ℕ) → AreFunctionals k test ws φ →
    (w : List ℕ) (f : Combination) → Contains ws w → AllAmong f ws → AreCongruent k test (single w) f → (c : ℕ) → φ c w ≡ weight k (φ c) f
rows_of_congruent k is test ws φ functionals w f i a h c =
    same_from_difference k (φ c w) (weight k (φ c) f) is (functionals.elements c w i) (weight_is_element k is (φ c) f)
    (sym (weight_difference k is (φ c) w f (functionals.elements c w i)) ∙ functionals.sound (minus k (single w) f) (difference_among k w f ws i a) (difference_elements k is w f) h c)

-- ---- combinations given by cells

pub combination_among : (ws : List (List ℕ)) (cells : List Cell) → AllBelow (length ws) cells → AllAmong (combination_at ws cells) ws
unfolding AllAmong
combination_among ws [] below = tt
combination_among ws (c ∷ cells) below = (word_at_is_in ws c.column below.0, combination_among ws cells below.1)

pub below_more : (i n : ℕ) → i < n → (cells : List Cell) → AllBelow i cells → AllBelow n cells
below_more i n less [] below = tt
below_more i n less (c ∷ cells) below = (omega (arith, below.0), below_more i n less cells below.1)

pub combination_elements : (k : FieldValue) (ws : List (List ℕ)) (cells : List Cell) → AllCellsElements k cells → AllElements k (combination_at ws cells)
combination_elements k ws [] e = tt
combination_elements k ws (c ∷ cells) e = (e.0, combination_elements k ws cells e.1)

pub combination_nonzero : (ws : List (List ℕ)) (cells : List Cell) → AllCellsNonzero cells → AllNonzero (combination_at ws cells)
combination_nonzero ws [] h = tt
combination_nonzero ws (c ∷ cells) h = (h.0, combination_nonzero ws cells h.1)

-- rising positions in a rising list make a combination whose words rise
pub combination_rises : (ws : List (List ℕ)) → IsRising ws → (cells : List Cell) → AllBelow (length ws) cells → AreColumnsRising (columns_of cells) → IsRising (words_of (combination_at ws cells))
combination_rises ws r [] below up = tt
combination_rises ws r (c ∷ cells) below up = (first cells below.1 up.0, combination_rises ws r cells below.1 up.1)
  where
    first : (ds : List Cell) → AllBelow (length ws) ds → IsColumnBelow c.column (columns_of ds) → IsBelowFirst (word_at ws c.column) (words_of (combination_at ws ds))
    first [] b h = tt
    first (d ∷ ds) b h = words_at_rise ws c.column d.column r h b.0

-- a row makes a combination in order
pub combination_is_ordered : (ws : List (List ℕ)) → IsRising ws → (cells : List Cell) → IsRow cells → AllBelow (length ws) cells → IsOrdered (combination_at ws cells)
combination_is_ordered ws rising cells shape below = record {
  rising = combination_rises ws rising cells below shape.rising;
  nonzero = combination_nonzero ws cells shape.nonzero;
}

-- a combination of entries before the one at position i is made of cells with positions below i
pub cells_of : (k : FieldValue) (ws : List (List ℕ)) → IsRising ws → (i : ℕ) → i < length ws → (f : Combination) → AllElements k f → AllByRecursion (λ t. Contains ws t.word × (word_cmp t.word (word_at ws i) ≡ Less)) f →
    (cells : List Cell) × AllBelow i cells × AllCellsElements k cells × (combination_at ws cells ≡ f)
cells_of k ws r i within [] e h = ([], tt, tt, refl)
cells_of k ws r i within (t ∷ f) e h =
    let (j, less, same) = position_of ws t.word h.0.0 in
    let (cells, below, elements, all) = cells_of k ws r i within f e.1 h.1 in (
      record { column = j; coefficient = t.coefficient } ∷ cells,
      (position_below ws j i r less within (ap (λ w. word_cmp w (word_at ws i)) same ∙ h.0.1), below),
      (e.0, elements),
      ap (λ w. record { word = w; coefficient = t.coefficient } ∷ combination_at ws cells) same ∙ ap (λ g. t ∷ g) all,
    )

-- ---- least words by rows

-- the words of a combination made of positions below i are words before the one at position i
combination_before : (vanishes : Vanishing) (braid : BraidValue) (m : ℕ) (ws : List (List ℕ)) → IsSpanning vanishes braid m ws → (i : ℕ) → i < length ws → (cells : List Cell) → AllBelow i cells →
    AllAmong (combination_at ws cells) (words_before braid.letters (word_at ws i))
unfolding AllAmong
combination_before vanishes braid m ws s i within [] below = tt
combination_before vanishes braid m ws s i within (c ∷ cells) below =
    let here : Contains ws (word_at ws c.column) = word_at_is_in ws c.column (omega (arith, below.0)) in (
      in_words_before braid.letters (word_at ws c.column) (word_at ws i) (s.degree (word_at ws c.column) here ∙ sym (s.degree (word_at ws i) (word_at_is_in ws i within))) (s.over (word_at ws c.column) here)
          (words_at_rise ws c.column i s.rising below.0 within),
      combination_before vanishes braid m ws s i within cells below.1,
    )

-- a word whose row is a combination of the rows before it isn't least
pub dependent_is_not_least : (vanishes : Vanishing) (braid : BraidValue) → IsField braid.field → (m : ℕ) → IsLinearTest braid.field (vanishes braid m) → (ws : List (List ℕ)) → IsSpanning vanishes braid m ws →
    (φ : ℕ → List ℕ → ℕ) → AreFunctionals braid.field (vanishes braid m) ws φ → (i : ℕ) → i < length ws → (cells : List Cell) → AllBelow i cells →
    ((c : ℕ) → φ c (word_at ws i) ≡ weight braid.field (φ c) (combination_at ws cells)) → is_least vanishes braid (word_at ws i) ≡ false
dependent_is_not_least vanishes braid is m l ws s φ functionals i within cells below same =
    let here : Contains ws (word_at ws i) = word_at_is_in ws i within in
    not_least_at vanishes braid is m l (word_at ws i) (s.degree (word_at ws i) here) (combination_at ws cells) (combination_before vanishes braid m ws s i within cells below)
    (congruent_by_rows braid.field is (vanishes braid m) ws φ functionals (word_at ws i) (combination_at ws cells) here (combination_among ws cells (below_more i (length ws) within cells below)) same)

-- and the row of a word that isn't least is such a combination
pub not_least_is_dependent : (vanishes : Vanishing) (braid : BraidValue) → IsField braid.field → (m : ℕ) → IsLinearTest braid.field (vanishes braid m) → (ws : List (List ℕ)) → IsSpanning vanishes braid m ws →
    (φ : ℕ → List ℕ → ℕ) → AreFunctionals braid.field (vanishes braid m) ws φ → (i : ℕ) → i < length ws → is_least vanishes braid (word_at ws i) ≡ false →
    (cells : List Cell) × AllBelow i cells × AllCellsElements braid.field cells × ((c : ℕ) → φ c (word_at ws i) ≡ weight braid.field (φ c) (combination_at ws cells))
not_least_is_dependent vanishes braid is m l ws s φ functionals i within least =
    let k : FieldValue = braid.field in
    let w : List ℕ = word_at ws i in
    let here : Contains ws w = word_at_is_in ws i within in
    let (f, a, elements, h) = reduced_with_elements k is (vanishes braid m) l (λ v. Contains ws v × (word_cmp v w ≡ Less)) (single w)
    (reduced_to_earlier_entries vanishes braid is m l ws s w (s.degree w here) least) in
    let (cells, below, cell_elements, all) = cells_of k ws s.rising i within f elements a in (
      cells,
      below,
      cell_elements,
      λ c. rows_of_congruent k is (vanishes braid m) ws φ functionals w (combination_at ws cells) here (combination_among ws cells (below_more i (length ws) within cells below))
          (subst (AreCongruent k (vanishes braid m) (single w)) (sym all) h) c,
    )

-- so a word whose row is no combination of the rows before it is least
pub independent_is_least : (vanishes : Vanishing) (braid : BraidValue) → IsField braid.field → (m : ℕ) → IsLinearTest braid.field (vanishes braid m) → (ws : List (List ℕ)) → IsSpanning vanishes braid m ws →
    (φ : ℕ → List ℕ → ℕ) → AreFunctionals braid.field (vanishes braid m) ws φ → (i : ℕ) → i < length ws →
    ((cells : List Cell) → AllBelow i cells → AllCellsElements braid.field cells → ((c : ℕ) → φ c (word_at ws i) ≡ weight braid.field (φ c) (combination_at ws cells)) → ⊥) →
    is_least vanishes braid (word_at ws i) ≡ true
independent_is_least vanishes braid is m l ws s φ functionals i within none = at (is_least vanishes braid (word_at ws i)) refl
  where
    at : (b : Bool) → is_least vanishes braid (word_at ws i) ≡ b → is_least vanishes braid (word_at ws i) ≡ true
    at true e = e
    at false e =
        let (cells, below, elements, same) = not_least_is_dependent vanishes braid is m l ws s φ functionals i within e in
        absurd (none cells below elements same)

-- ---- normal forms by rows

-- each position is that of a least word
abbrev pub AllCellsLeast : Vanishing → BraidValue → List (List ℕ) → List Cell → Type 0
AllCellsLeast vanishes braid ws cells = AllByRecursion (λ c. is_least vanishes braid (word_at ws c.column) ≡ true) cells

combination_of_least : (vanishes : Vanishing) (braid : BraidValue) (m : ℕ) (ws : List (List ℕ)) → IsSpanning vanishes braid m ws → (cells : List Cell) → AllBelow (length ws) cells → AllCellsLeast vanishes braid ws cells →
    AllAmong (combination_at ws cells) (basis vanishes braid m)
unfolding AllAmong
combination_of_least vanishes braid m ws s [] below least = tt
combination_of_least vanishes braid m ws s (c ∷ cells) below least =
    let here : Contains ws (word_at ws c.column) = word_at_is_in ws c.column below.0 in
    (in_basis vanishes braid m (word_at ws c.column) (s.degree (word_at ws c.column) here) (s.over (word_at ws c.column) here) least.0, combination_of_least vanishes braid m ws s cells below.1 least.1)

-- where a word's row is a combination of least words' rows before it, that combination of the words is the word's normal form
pub form_by_rows : (vanishes : Vanishing) (braid : BraidValue) → IsField braid.field → (m : ℕ) → IsLinearTest braid.field (vanishes braid m) → (ws : List (List ℕ)) → IsSpanning vanishes braid m ws →
    (φ : ℕ → List ℕ → ℕ) → AreFunctionals braid.field (vanishes braid m) ws φ → (i : ℕ) → i < length ws → (cells : List Cell) → AllBelow i cells → AllCellsElements braid.field cells → IsRow cells →
    AllCellsLeast vanishes braid ws cells → ((c : ℕ) → φ c (word_at ws i) ≡ weight braid.field (φ c) (combination_at ws cells)) → normal_form vanishes braid m (single (word_at ws i)) ≡ combination_at ws cells
form_by_rows vanishes braid is m l ws s φ functionals i within cells below elements shape least same =
    let all_below : AllBelow (length ws) cells = below_more i (length ws) within cells below in
    form_is vanishes braid is m l (single (word_at ws i)) (combination_at ws cells) (record {
      least = combination_of_least vanishes braid m ws s cells all_below least;
      ordered = combination_is_ordered ws s.rising cells shape all_below;
      elements = combination_elements braid.field ws cells elements;
      congruent = congruent_by_rows braid.field is (vanishes braid m) ws φ functionals (word_at ws i) (combination_at ws cells) (word_at_is_in ws i within) (combination_among ws cells all_below) same;
    })
