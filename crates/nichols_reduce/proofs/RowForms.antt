-- Rows of a rule as combinations, and what they add to sums.
use Rattle.std.proofs.Common.{◌≡◌, ℕ, ◌+◌, ◌<◌, List, [], ◌∷◌, ◌++◌, length, get_or, set, take, refl, sym, ◌∙◌, ap, subst, arith}
use Rattle.std.proofs.lemmas.List.{append-nil, get_or-map, length-map, length-set, take_more}
use Rattle.std.proofs.lemmas.List.Elements.{All-from_recursion}
use Rattle.nichols_field.specs.Field.{FieldValue, IsElement, IsField, plus, times, element_of_sum}
use Rattle.nichols_tensor.specs.Combination.{AllElements, Term, Combination, single, scalar_multiple}
use Rattle.nichols_tensor.specs.Positions.{word_at}
use Rattle.nichols_tensor.proofs.Linear.{linear_map-append}
use Rattle.nichols_braid.specs.Braid.{BraidValue, IsBraid, IsLetter}
use Rattle.nichols_braid.specs.Kernel.{is_killed}
use Rattle.nichols_braid.specs.Least.{normal_form}
use Rattle.nichols_echelon.specs.Cells.{Cell}
use Rattle.nichols_value.specs.Block.{lower_basis}
use Rattle.nichols_value.specs.Kept.{AreCellsOf}
use Rattle.nichols_value.specs.Rule.{IsRuleOf, PlainRule, below_in, right_in}
use Rattle.nichols_value.proofs.FormCells.{form_cells_elements}
use Rattle.nichols_value.proofs.RuleEntries.{below_is, right_form, right_form_in_order, right_size}
use Rattle.nichols_reduce.specs.Sums.{HasGrownBy, combination_of}
use Rattle.nichols_reduce.specs.Forms.{followed_by_letter}
use Rattle.nichols_reduce.proofs.GrowingSums.{combination_at as sum_at, combination_length, grown_by_next, grown_by_term, grown_more, grown_none, grown_same, no_multiple}

-- ---- one cell more

-- a cell's column is a place of a word
column_below : (ws : List (List ℕ)) (f : Combination) (cells : List Cell) (i : ℕ) (c : Cell) → AreCellsOf ws f cells → i < length cells → c ≡ get_or cells i c → c.column < length ws
column_below ws f cells i c are less at = subst (λ (d : Cell). d.column < length ws) (sym at) (All-from_recursion (λ (d : Cell). d.column < length ws) cells are.below i c less)

pub grown_by_cell : (k : FieldValue) → IsField k → (ws : List (List ℕ)) (a b : List ℕ) (by : ℕ) (f : Combination) (cells : List Cell) (i : ℕ) (c : Cell) (x : ℕ) → AreCellsOf ws f cells → i < length cells → c ≡ get_or cells i c → length b ≡ length ws →
    element_of_sum k x ≡ plus k (element_of_sum k (get_or b c.column 0)) (times k by c.coefficient) → HasGrownBy k ws a (scalar_multiple k by (take i f)) b → HasGrownBy k ws a (scalar_multiple k by (take (i + 1) f)) (set b c.column x)
grown_by_cell k is ws a b by f cells i c x are less at width here h =
    let term : Cell → Term = λ d. record { word = word_at ws d.column; coefficient = d.coefficient } in
    let count : length f ≡ length cells = ap length (sym are.form) ∙ length-map cells term in
    let entry : term c ≡ get_or f i (term c) = ap term at ∙ sym (ap (λ g. get_or g i (term c)) (sym are.form) ∙ get_or-map term cells i c (term c) less) in
    grown_by_next k is ws a b (set b c.column x) by f i (term c) (omega (arith, count, less)) entry h
    (grown_by_term k is ws b c.column x by c.coefficient (word_at ws c.column) [] (column_below ws f cells i c are less at) width (length-set b c.column x) here refl)

-- its coefficient is an element
pub cell_element : (k : FieldValue) (ws : List (List ℕ)) (f : Combination) (cells : List Cell) (i : ℕ) (c : Cell) → AllElements k f → AreCellsOf ws f cells → i < length cells → c ≡ get_or cells i c → IsElement k c.coefficient
cell_element k ws f cells i c elements are less at = subst (λ (d : Cell). IsElement k d.coefficient) (sym at) (All-from_recursion (λ (d : Cell). IsElement k d.coefficient) cells (form_cells_elements k ws f cells elements are) i c less)

-- the cell that is read from a row
pub cell_at : (cells : List Cell) (i : ℕ) (c d : Cell) → c ≡ d → d ≡ get_or cells i d → c ≡ get_or cells i c
cell_at cells i c d same at = same ∙ at ∙ ap (get_or cells i) (sym same)

-- ---- one row more

-- each word of the lower block by a letter has a row, whose coefficients are elements
pub row_there : (braid : BraidValue) (r : PlainRule) → IsRuleOf braid r.key.degree r.key.product r → (letter : ℕ) → IsLetter braid letter → (form : List ℕ) (i : ℕ) → length form ≡ length (below_in r letter) → i < length form → i < length (right_in r letter)
row_there braid r e letter l form i width less =
    let count : length (right_in r letter) ≡ length (lower_basis braid r.key.degree r.key.product letter) = right_size braid r.key.degree r.key.product r e letter l in
    let below : length (below_in r letter) ≡ length (lower_basis braid r.key.degree r.key.product letter) = ap length (below_is braid r.key.degree r.key.product r e letter l) in
    omega (arith, width, less, count, below)

pub row_elements : (braid : BraidValue) → IsBraid braid → (k : FieldValue) → k ≡ braid.field → (r : PlainRule) → IsRuleOf braid r.key.degree r.key.product r → (letter : ℕ) → IsLetter braid letter → (form : List ℕ) (i : ℕ) → length form ≡ length (below_in r letter) → i < length form →
    AllElements k (get_or (right_in r letter) i [])
row_elements braid is k field r e letter l form i width less =
    let below : length (below_in r letter) ≡ length (lower_basis braid r.key.degree r.key.product letter) = ap length (below_is braid r.key.degree r.key.product r e letter l) in
    subst (λ h. AllElements h (get_or (right_in r letter) i [])) (sym field) (right_form_in_order braid is r.key.degree r.key.product r e letter l i (omega (arith, width, less, below))).elements

-- one more of the words with a letter behind
followed_next : (braid : BraidValue) → IsField braid.field → (n : ℕ) (ws : List (List ℕ)) (a b c : List ℕ) (f : Combination) (letter i : ℕ) (t : Term) → i < length f → t ≡ get_or f i t → HasGrownBy braid.field ws a (followed_by_letter braid n (take i f) letter) b →
    HasGrownBy braid.field ws b (scalar_multiple braid.field t.coefficient (normal_form is_killed braid n (single (t.word ++ letter ∷ [])))) c → HasGrownBy braid.field ws a (followed_by_letter braid n (take (i + 1) f) letter) c
followed_next braid is n ws a b c f letter i t less at h j =
    let image : List ℕ → Combination = λ u. normal_form is_killed braid n (single (u ++ letter ∷ [])) in
    let e : followed_by_letter braid n (take (i + 1) f) letter ≡ followed_by_letter braid n (take i f) letter ++ scalar_multiple braid.field t.coefficient (image t.word) =
    ap (λ g. followed_by_letter braid n g letter) (take_more f i t less ∙ ap (λ u. take i f ++ u ∷ []) (sym at))
    ∙ linear_map-append braid.field image (take i f) (t ∷ []) ∙ ap (λ g. followed_by_letter braid n (take i f) letter ++ g) (append-nil (scalar_multiple braid.field t.coefficient (image t.word))) in
    subst (λ g. HasGrownBy braid.field ws a g c) (sym e) (grown_more braid.field is ws a b c (followed_by_letter braid n (take i f) letter) (scalar_multiple braid.field t.coefficient (image t.word)) h j)

pub followed_row : (braid : BraidValue) → IsBraid braid → (r : PlainRule) → IsRuleOf braid r.key.degree r.key.product r → (letter : ℕ) → IsLetter braid letter → (form a b c : List ℕ) (i by : ℕ) → length form ≡ length (below_in r letter) → i < length form →
    by ≡ element_of_sum braid.field (get_or form i 0) → HasGrownBy braid.field r.basis a (followed_by_letter braid r.key.degree (take i (combination_of braid.field (below_in r letter) form)) letter) b →
    HasGrownBy braid.field r.basis b (scalar_multiple braid.field by (get_or (right_in r letter) i [])) c →
    HasGrownBy braid.field r.basis a (followed_by_letter braid r.key.degree (take (i + 1) (combination_of braid.field (below_in r letter) form)) letter) c
followed_row braid is r e letter l form a b c i by width less by_is h j =
    let us : List (List ℕ) = below_in r letter in
    let inside : i < length us = omega (arith, width, less) in
    let own : us ≡ lower_basis braid r.key.degree r.key.product letter = below_is braid r.key.degree r.key.product r e letter l in
    let t : Term = record { word = word_at us i; coefficient = by } in
    let at : t ≡ get_or (combination_of braid.field us form) i t = ap (λ n. record { word = word_at us i; coefficient = n }) by_is ∙ sym (sum_at braid.field us form i t [] width inside) in
    let row : get_or (right_in r letter) i [] ≡ normal_form is_killed braid r.key.degree (single (word_at us i ++ letter ∷ [])) =
    right_form braid r.key.degree r.key.product r e letter l i (omega (arith, ap length own, inside)) ∙ ap (λ ws. normal_form is_killed braid r.key.degree (single (word_at ws i ++ letter ∷ []))) (sym own) in
    followed_next braid is.field r.key.degree r.basis a b c (combination_of braid.field us form) letter i t (omega (arith, combination_length braid.field us form width, inside)) at h
    (subst (λ f. HasGrownBy braid.field r.basis b (scalar_multiple braid.field by f) c) row j)

-- nothing is added for the coefficient 0
pub grown_by_zero : (k : FieldValue) → IsField k → (ws : List (List ℕ)) (a b : List ℕ) (c : ℕ) (f : Combination) → length a ≡ length ws → c ≡ 0 → b ≡ a → HasGrownBy k ws a (scalar_multiple k c f) b
grown_by_zero k is ws a b c f e zero same =
    subst (λ n. HasGrownBy k ws a (scalar_multiple k n f) b) (sym zero) (subst (HasGrownBy k ws a (scalar_multiple k 0 f)) (sym same) (grown_same k is ws a a [] (scalar_multiple k 0 f) (grown_none k ws a e) (λ v. sym (no_multiple k is f v))))
