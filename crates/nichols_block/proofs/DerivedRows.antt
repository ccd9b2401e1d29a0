-- Rows of derivatives: the row that sums are closed as, and rows one after the other.
use Rattle.std.proofs.Common.{◌≡◌, ℕ, zero, suc, ◌+◌, ◌-◌, ◌<◌, ◌≤◌, List, [], ◌∷◌, ◌++◌, length, map, get_or, replicate, refl, sym, ◌∙◌, ap, ap₂, subst, arith, inl, inr}
use Rattle.std.specs.List.{AllByRecursion, Contains}
use Rattle.std.proofs.lemmas.Bool.{cases_lt}
use Rattle.std.proofs.lemmas.List.{get_or_append_left, length-append}
use Rattle.std.proofs.Math.Seq.{get_or-append_seam}
use Rattle.nichols_field.specs.Field.{FieldValue}
use Rattle.nichols_tensor.specs.Combination.{AllAmong, AllElements, Combination, single, value_at}
use Rattle.nichols_tensor.specs.Positions.{word_at}
use Rattle.nichols_tensor.specs.Words.{IsWordOver}
use Rattle.nichols_tensor.specs.WordOrder.{IsOrdered, IsRising}
use Rattle.nichols_tensor.proofs.Rising.{word_at_is_in}
use Rattle.nichols_braid.specs.Braid.{BraidValue, IsBraid, IsLetter}
use Rattle.nichols_braid.specs.Derivation.{skew_derivative}
use Rattle.nichols_braid.specs.Forms.{derived_form}
use Rattle.nichols_braid.specs.Kernel.{is_killed}
use Rattle.nichols_braid.specs.LeastLaws.{IsNormalForm}
use Rattle.nichols_braid.specs.Product.{product_of}
use Rattle.nichols_braid.specs.Products.{products}
use Rattle.nichols_braid.proofs.BraidLaws.{killed_is_ideal_from_right}
use Rattle.nichols_braid.proofs.FormsOfDerivatives.{derived_form_is_normal}
use Rattle.nichols_braid.proofs.Lists.{map-map}
use Rattle.nichols_braid.proofs.NextProducts.{products_size}
use Rattle.nichols_echelon.specs.Cells.{AllBelow, IsRow, entry}
use Rattle.nichols_echelon.specs.Rows.{RowsValue}
use Rattle.nichols_echelon.specs.Sums.{IsDrained, IsSumRow}
use Rattle.nichols_rows.specs.CombinationAt.{combination_at}
use Rattle.nichols_value.specs.declared.spot.Spot.{Spot}
use Rattle.nichols_value.specs.Block.{lower_basis}
use Rattle.nichols_value.specs.Kept.{IsSpot, candidate_at}
use Rattle.nichols_value.proofs.Blocks.{derived_in_block, from_lower_basis}
use Rattle.nichols_value.proofs.FormCells.{cells_of_form, none_among}
use Rattle.nichols_value.proofs.RuleEntries.{right_word}
use Rattle.nichols_value.proofs.KeptRows.{no_rows}
use Rattle.nichols_block.specs.Rows.{AreNewDerivatives, AreRowsOf, AreSpotsOf, AreSums, HasNewRow, lower_words, rows_by}
use Rattle.nichols_block.specs.Words.{block_new_words}
use Rattle.nichols_block.proofs.SpotsBelow.{spot_letter, spot_place, words_at_letter}
use Rattle.nichols_block.proofs.SumForms.{below_by_entries}

-- ---- the word at a spot

pub record IsInBlock (braid : BraidValue) (degree : ℕ) (g w : List ℕ) : Type 0 where
  pub size : length w ≡ degree
  pub over : IsWordOver braid.letters w
  pub product : product_of braid w ≡ g

at_spot : (braid : BraidValue) → IsBraid braid → (m : ℕ) (g : List ℕ) (b : ℕ) → IsLetter braid b → Contains (products braid (suc m)) g → (u : List ℕ) → Contains (lower_basis braid (suc m) g b) u → IsInBlock braid (suc m) g (u ++ b ∷ [])
at_spot braid is m g b lb there u i =
    let w : (length (u ++ b ∷ []) ≡ suc m) × IsWordOver braid.letters (u ++ b ∷ []) = right_word braid (suc m) g b lb u i in
    record { size = w.0; over = w.1; product = (from_lower_basis braid is m g (products_size braid (suc m) g there) b lb u i).1 }

in_next : (braid : BraidValue) → IsBraid braid → (degree : ℕ) (g : List ℕ) (b : ℕ) → IsLetter braid b → 1 ≤ degree → Contains (products braid degree) g → (u : List ℕ) → Contains (lower_basis braid degree g b) u → IsInBlock braid degree g (u ++ b ∷ [])
in_next braid is zero g b lb some there u i = absurd (omega arith)
in_next braid is (suc m) g b lb some there u i = at_spot braid is m g b lb there u i

pub spot_in_block : (braid : BraidValue) → IsBraid braid → (degree : ℕ) (g : List ℕ) → 1 ≤ degree → Contains (products braid degree) g → (s : Spot) → IsSpot (lower_words braid degree g) s → IsInBlock braid degree g (candidate_at (lower_words braid degree g) s)
spot_in_block braid is degree g some there s h =
    let lb : IsLetter braid s.letter = spot_letter braid degree g s h in
    subst (λ (ws : List (List ℕ)). IsInBlock braid degree g (word_at ws s.place ++ s.letter ∷ [])) (sym (words_at_letter braid degree g s.letter lb))
    (in_next braid is degree g s.letter lb some there (word_at (lower_basis braid degree g s.letter) s.place) (word_at_is_in (lower_basis braid degree g s.letter) s.place (spot_place braid degree g s h)))

-- ---- the form of its derivative

pub record IsFormIn (braid : BraidValue) (ws : List (List ℕ)) (f : Combination) : Type 0 where
  pub among : AllAmong f ws
  pub ordered : IsOrdered f
  pub elements : AllElements braid.field f

derived_in : (braid : BraidValue) → IsBraid braid → (m : ℕ) (g w : List ℕ) → IsInBlock braid (suc m) g w → (a : ℕ) → IsLetter braid a → IsFormIn braid (lower_basis braid (suc m) g a) (derived_form is_killed braid (suc m) w a)
derived_in braid is m g w h a la =
    let n : IsNormalForm is_killed braid m (skew_derivative braid a (single w)) (derived_form is_killed braid (suc m) w a) = derived_form_is_normal is_killed braid is (killed_is_ideal_from_right braid is) m w a h.size h.over la in
    record { among = derived_in_block braid is (suc m) g w h.size h.over h.product a la; ordered = n.ordered; elements = n.elements }

pub derived_in_next : (braid : BraidValue) → IsBraid braid → (degree : ℕ) (g w : List ℕ) → 1 ≤ degree → IsInBlock braid degree g w → (a : ℕ) → IsLetter braid a → IsFormIn braid (lower_basis braid degree g a) (derived_form is_killed braid degree w a)
derived_in_next braid is zero g w some h a la = absurd (omega arith)
derived_in_next braid is (suc m) g w some h a la = derived_in braid is m g w h a la

-- ---- the row of sums

pub row_of_sums : (braid : BraidValue) → IsBraid braid → (k : FieldValue) → k ≡ braid.field → (ws : List (List ℕ)) → IsRising ws → (f : Combination) → IsFormIn braid ws f → (values : List ℕ) → AreSums braid.field ws values f → (before after : RowsValue) →
    IsDrained k values before after → HasNewRow ws f before after
row_of_sums braid is k k_is ws rising f form values sums before after drained = record { cells = drained.cells; closed = drained.closed; form = cells_of_form braid.field is.field ws f drained.cells rising row.row below row.elements form.among form.ordered form.elements entries }
  where
    row : IsSumRow braid.field values drained.cells
    row = subst (λ (l : FieldValue). IsSumRow l values drained.cells) k_is drained.sums

    below : AllBelow (length ws) drained.cells
    below = below_by_entries braid.field is.field (length ws) drained.cells row.row row.elements (λ p more. row.entries p ∙ sums.beyond p more)

    entries : (p : ℕ) → p < length ws → entry braid.field drained.cells p ≡ value_at braid.field f (word_at ws p)
    entries p less = row.entries p ∙ sums.inside p less

-- ---- rows one after the other

pub no_rows_yet : (ws : List (List ℕ)) (rows : RowsValue) → rows ≡ record { rows = []; begun = [] } → AreRowsOf ws [] rows
no_rows_yet ws rows e = subst (AreRowsOf ws []) (sym e) (record { shape = record { closed = refl; shape = tt; below = tt }; forms = refl })

-- ---- over no words

pub empty_are_rows : (braid : BraidValue) → IsBraid braid → (degree : ℕ) (g : List ℕ) → 1 ≤ degree → Contains (products braid degree) g → (a : ℕ) → IsLetter braid a → (spots : List Spot) → AllByRecursion (IsSpot (lower_words braid degree g)) spots →
    lower_basis braid degree g a ≡ [] → (rows : RowsValue) → rows ≡ record { rows = replicate (length spots) []; begun = [] } →
    AreRowsOf (lower_basis braid degree g a) (map (λ s. derived_form is_killed braid degree (candidate_at (lower_words braid degree g) s) a) spots) rows
empty_are_rows braid is degree g some there a la spots inside none rows e =
    subst (AreRowsOf (lower_basis braid degree g a) (map F spots)) (sym e)
    (subst (λ ws. AreRowsOf ws (map F spots) (record { rows = replicate (length spots) []; begun = [] })) (sym none) (record { shape = record { closed = refl; shape = rows_of_none (length spots); below = below_none (length spots) }; forms = all_none spots inside }))
  where
    F : Spot → Combination
    F s = derived_form is_killed braid degree (candidate_at (lower_words braid degree g) s) a

    rows_of_none : (n : ℕ) → AllByRecursion IsRow (replicate n [])
    rows_of_none zero = tt
    rows_of_none (suc n) = (record { rising = tt; nonzero = tt }, rows_of_none n)

    below_none : (n : ℕ) → AllByRecursion (AllBelow 0) (replicate n [])
    below_none zero = tt
    below_none (suc n) = (tt, below_none n)

    all_none : (xs : List Spot) → AllByRecursion (IsSpot (lower_words braid degree g)) xs → map (combination_at []) (replicate (length xs) []) ≡ map F xs
    all_none [] h = refl
    all_none (s ∷ xs) h =
        ap₂ (λ (x : Combination) (ys : List Combination). x ∷ ys)
        (sym (none_among (F s) (subst (AllAmong (F s)) none (derived_in_next braid is degree g (candidate_at (lower_words braid degree g) s) some (spot_in_block braid is degree g some there s h.0) a la).among))) (all_none xs h.1)

-- ---- the rows by letter

-- one more letter
pub letter_more : (Q : ℕ → RowsValue → Type 0) (lists after : List RowsValue) (a : ℕ) (new : RowsValue) → length lists ≡ a → after ≡ lists ++ new ∷ [] → ((b : ℕ) → 1 ≤ b → b ≤ a → Q b (rows_by lists b)) → Q (a + 1) new →
    (b : ℕ) → 1 ≤ b → b ≤ a + 1 → Q b (rows_by after b)
letter_more Q lists after a new size pushed before here b some most =
    subst (λ xs. Q b (rows_by xs b)) (sym pushed)
    (elim (cases_lt a b) [
      | inl above ↦
          let last : b ≡ a + 1 = omega arith in
          let at : b - 1 ≡ length lists = omega arith in
          subst (Q b) (sym (ap (λ i. get_or (lists ++ new ∷ []) i no_rows) at ∙ get_or-append_seam lists new [] no_rows)) (subst (λ n. Q n new) (sym last) here)
      | inr below ↦ subst (Q b) (sym (get_or_append_left lists (new ∷ []) no_rows (b - 1) (omega arith))) (before b some below)
    ])

-- the forms at the spots of the new words are those of the new words
pub forms_of_spots : (braid : BraidValue) (degree : ℕ) (g : List ℕ) (spots : List Spot) → AreSpotsOf braid degree g spots → (a : ℕ) →
    map (λ (s : Spot). derived_form is_killed braid degree (candidate_at (lower_words braid degree g) s) a) spots ≡ map (λ w. derived_form is_killed braid degree w a) (block_new_words braid degree g)
forms_of_spots braid degree g spots h a = sym (map-map (λ w. derived_form is_killed braid degree w a) (candidate_at (lower_words braid degree g)) spots) ∙ ap (map (λ w. derived_form is_killed braid degree w a)) h.words

pub derivatives_by_letter : (braid : BraidValue) (degree : ℕ) (g : List ℕ) (spots : List Spot) → AreSpotsOf braid degree g spots → (lists : List RowsValue) (n : ℕ) → n ≡ braid.letters → length lists ≡ n →
    ((b : ℕ) → 1 ≤ b → b ≤ n → AreRowsOf (lower_basis braid degree g b) (map (λ (s : Spot). derived_form is_killed braid degree (candidate_at (lower_words braid degree g) s) b) spots) (rows_by lists b)) → AreNewDerivatives braid degree g lists
derivatives_by_letter braid degree g spots h lists n all size each = record {
  letters = size ∙ all;
  each = λ a la. subst (λ fs. AreRowsOf (lower_basis braid degree g a) fs (rows_by lists a)) (forms_of_spots braid degree g spots h a) (each a la.0 (let z : a ≤ braid.letters = la.1 in omega arith));
}

pub one_longer : {X : Type 0} (xs after : List X) (a : ℕ) (x : X) → length xs ≡ a → after ≡ xs ++ x ∷ [] → length after ≡ a + 1
one_longer xs after a x size pushed = ap length pushed ∙ length-append xs (x ∷ []) ∙ ap (λ n. n + 1) size
