-- The rows of new words, put together letter by letter.
use Rattle.std.proofs.Common.{◌≡◌, ℕ, zero, suc, ◌+◌, ◌-◌, ◌^◌, ◌<◌, ◌≤◌, List, [], ◌∷◌, ◌++◌, length, map, get_or, refl, sym, ◌∙◌, ap, ap₂, subst, arith, inl, inr, add-one}
use Rattle.std.specs.Prelude.{slice_index}
use Rattle.std.specs.List.{AllByRecursion}
use Rattle.std.proofs.lemmas.Bool.{cases_lt}
use Rattle.std.proofs.lemmas.List.{get_or_append_left, get_or_default, get_or_read, length-map}
use Rattle.std.proofs.Math.Seq.{get_or-append_seam}
use Rattle.std.proofs.lemmas.List.Elements.{All-from_recursion}
use Rattle.nichols_braid.specs.Braid.{BraidValue, IsBraid}
use Rattle.nichols_braid.specs.Forms.{derived_form}
use Rattle.nichols_braid.specs.Kernel.{is_killed}
use Rattle.nichols_echelon.specs.Cells.{AllBelow, Cell}
use Rattle.nichols_echelon.specs.Parts.{AreParts, cells_behind, joined_rows, part_at}
use Rattle.nichols_echelon.specs.Parts.{joined_row as row_in_parts}
use Rattle.nichols_echelon.specs.Rows.{RowsValue}
use Rattle.nichols_echelon.specs.Split.{IsSplit}
use Rattle.nichols_echelon.specs.declared.rows.Place.{Place}
use Rattle.nichols_rows.specs.CombinationAt.{combination_at}
use Rattle.nichols_echelon.proofs.JoinedRows.{joined_at, joined_count}
use Rattle.nichols_echelon.proofs.JoinedRows.{joined_first as parts_first, joined_more as parts_more}
use Rattle.nichols_value.specs.Block.{lower_basis}
use Rattle.nichols_block.specs.NewRows.{AreNewRows, AreOffsets, columns_to, joined_row}
use Rattle.nichols_block.specs.Places.{ArePlacesOf}
use Rattle.nichols_block.specs.Rows.{AreNewDerivatives, AreRowsOf, rows_by}
use Rattle.nichols_block.specs.Words.{block_new_words}
use Rattle.nichols_block.proofs.NewRowShapes.{AreSplittable, columns_more, joined_more, joined_none, new_rows_shape}
use Rattle.nichols_block.proofs.PlacesSay.{places_say}
use Rattle.nichols_block.proofs.RowSums.{below_wider}

-- ---- columns

pub no_columns : (braid : BraidValue) (m : ℕ) (g : List ℕ) → columns_to braid m g 0 ≡ 0
unfolding columns_to
no_columns braid m g = refl

pub columns_next : (braid : BraidValue) (m : ℕ) (g : List ℕ) (a : ℕ) → columns_to braid m g (a + 1) ≡ columns_to braid m g a + length (lower_basis braid m g (a + 1))
columns_next braid m g a = subst (λ b. columns_to braid m g b ≡ columns_to braid m g a + length (lower_basis braid m g b)) (sym (add-one a)) (columns_more braid m g a)

-- the columns of more letters are more
columns_up : (braid : BraidValue) (m : ℕ) (g : List ℕ) (a d : ℕ) → columns_to braid m g a ≤ columns_to braid m g (a + d)
columns_up braid m g a zero = let e : a + 0 ≡ a = omega arith in subst (λ b. columns_to braid m g a ≤ columns_to braid m g b) (sym e) (omega arith)
columns_up braid m g a (suc d) =
    let e : a + suc d ≡ suc (a + d) = omega arith in
    subst (λ b. columns_to braid m g a ≤ columns_to braid m g b) (sym e) (omega (arith, columns_up braid m g a d, columns_more braid m g (a + d)))

pub columns_within : (braid : BraidValue) (m : ℕ) (g : List ℕ) (a n : ℕ) → a < n → columns_to braid m g a + length (lower_basis braid m g (a + 1)) ≤ columns_to braid m g n
columns_within braid m g a n less =
    let e : (a + 1) + (n - (a + 1)) ≡ n = omega arith in
    subst (λ b. columns_to braid m g a + length (lower_basis braid m g (a + 1)) ≤ columns_to braid m g b) e (omega (arith, columns_up braid m g (a + 1) (n - (a + 1)), columns_next braid m g a))

-- one number more
pub offset_more : (f : ℕ → ℕ) (xs after : List ℕ) (a x : ℕ) → length xs ≡ a → after ≡ xs ++ x ∷ [] → x ≡ f a → ((b : ℕ) → b < a → slice_index xs b ≡ f b) → (b : ℕ) → b < a + 1 → slice_index after b ≡ f b
offset_more f xs after a x size pushed here before b less =
    ap (λ ys. slice_index ys b) pushed
    ∙ elim (cases_lt b a) [
      | inl below ↦ get_or_append_left xs (x ∷ []) 0 b (omega arith) ∙ before b below
      | inr above ↦
          let last : b ≡ length xs = omega arith in
          let at : a ≡ b = omega arith in
          ap (slice_index (xs ++ x ∷ [])) last ∙ get_or-append_seam xs x [] 0 ∙ here ∙ ap f at
    ]

-- ---- the rows by one letter

-- the rows by a letter: one for each new word, and their columns are places of words
pub record IsByLetter (braid : BraidValue) (m : ℕ) (g : List ℕ) (lists : List RowsValue) (a : ℕ) (own : RowsValue) : Type 0 where
  pub there : own ≡ rows_by lists (a + 1)
  pub count : length own.rows ≡ length (block_new_words braid m g)
  pub below : AllByRecursion (AllBelow (length (lower_basis braid m g (a + 1)))) own.rows

pub by_letter_at : (braid : BraidValue) (m : ℕ) (g : List ℕ) (lists : List RowsValue) → AreNewDerivatives braid m g lists → (a : ℕ) (own : RowsValue) → a < length lists → own ≡ get_or lists a own → IsByLetter braid m g lists a own
by_letter_at braid m g lists h a own less at = record {
  there = there;
  count = ap (λ (r : RowsValue). length r.rows) there ∙ sym (length-map (rows_by lists (a + 1)).rows (combination_at (lower_basis braid m g (a + 1)))) ∙ ap length rows.forms ∙ length-map (block_new_words braid m g) (λ w. derived_form is_killed braid m w (a + 1));
  below = subst (λ (r : RowsValue). AllByRecursion (AllBelow (length (lower_basis braid m g (a + 1)))) r.rows) (sym there) rows.shape.below;
}
  where
    there : own ≡ rows_by lists (a + 1)
    there =
        let e : a ≡ a + 1 - 1 = omega arith in
        get_or_read lists a own less at (record { rows = []; begun = [] }) ∙ ap (λ i. get_or lists i (record { rows = []; begun = [] })) e

    rows : AreRowsOf (lower_basis braid m g (a + 1)) (map (λ w. derived_form is_killed braid m w (a + 1)) (block_new_words braid m g)) (rows_by lists (a + 1))
    rows = let most : a + 1 ≤ braid.letters = omega (arith, h.letters) in h.each (a + 1) (omega arith, most)

-- the columns of a row fit behind those of the letters before
pub row_fits : (braid : BraidValue) (m : ℕ) (g : List ℕ) (offsets : List ℕ) → AreOffsets braid m g offsets → (lists : List RowsValue) (a k : ℕ) (own : RowsValue) (cells : List Cell) → a < braid.letters → k < length own.rows →
    cells ≡ get_or own.rows k [] → IsByLetter braid m g lists a own → AllBelow (2 ^ 32 - slice_index offsets a) cells
row_fits braid m g offsets o lists a k own cells less within at h =
    below_wider (length (lower_basis braid m g (a + 1))) (2 ^ 32 - slice_index offsets a) (omega (arith, o.each a less, o.short, columns_within braid m g a braid.letters less)) cells
    (subst (AllBelow (length (lower_basis braid m g (a + 1)))) (sym at) (All-from_recursion (AllBelow (length (lower_basis braid m g (a + 1)))) own.rows h.below k [] within))

-- ---- rows in parts

-- a row in parts, with the offsets of the letters
parts_joined : (braid : BraidValue) (m : ℕ) (g : List ℕ) (offsets : List ℕ) → AreOffsets braid m g offsets → (lists : List RowsValue) (k a : ℕ) → a ≤ braid.letters → row_in_parts lists offsets k a ≡ joined_row braid m g lists k a
parts_joined braid m g offsets o lists k zero most = parts_first lists offsets k ∙ sym (joined_none braid m g lists k)
parts_joined braid m g offsets o lists k (suc a) most =
    let index : a ≡ suc a - 1 = omega arith in
    parts_more lists offsets k a
    ∙ ap₂ (λ (xs : List Cell) (n : ℕ). xs ++ cells_behind n (get_or (part_at lists a).rows k [])) (parts_joined braid m g offsets o lists k a (omega (arith, most))) (o.each a (omega (arith, most)))
    ∙ ap (λ (i : ℕ). joined_row braid m g lists k a ++ cells_behind (columns_to braid m g a) (get_or (part_at lists i).rows k [])) index
    ∙ sym (joined_more braid m g lists k a)

-- the rows of the new words are in parts
pub new_rows_joined : (braid : BraidValue) (m : ℕ) (g : List ℕ) (offsets : List ℕ) → AreOffsets braid m g offsets → (lists : List RowsValue) → AreNewDerivatives braid m g lists → (count : ℕ) → count ≡ length (block_new_words braid m g) →
    AreNewRows braid m g lists (joined_rows lists offsets count)
new_rows_joined braid m g offsets o lists h count all = record {
  count = joined_count lists offsets count ∙ all;
  each = λ k less.
      joined_at lists offsets count k (let size : length (joined_rows lists offsets count) ≡ count = joined_count lists offsets count in omega (arith, less, size))
      ∙ ap (row_in_parts lists offsets k) h.letters ∙ parts_joined braid m g offsets o lists k braid.letters (omega arith);
}

pub new_rows_parts : (braid : BraidValue) (m : ℕ) (g : List ℕ) (offsets : List ℕ) → AreOffsets braid m g offsets → (lists : List RowsValue) → AreNewDerivatives braid m g lists → (count : ℕ) → count ≡ length (block_new_words braid m g) →
    AreParts lists offsets count
new_rows_parts braid m g offsets o lists h count all k less = record {
  as_many = o.letters ∙ sym h.letters;
  inside = λ a there. within a there;
  fit = λ a there. row_fits braid m g offsets o lists a k (part_at lists a) (get_or (part_at lists a).rows k []) (omega (arith, there, h.letters)) (within a there) refl (own a there);
}
  where
    own : (a : ℕ) → a < length lists → IsByLetter braid m g lists a (part_at lists a)
    own a there = by_letter_at braid m g lists h a (part_at lists a) there (get_or_default lists a (record { rows = []; begun = [] }) (part_at lists a) there)

    within : (a : ℕ) → a < length lists → k < length (part_at lists a).rows
    within a there = let size : length (part_at lists a).rows ≡ length (block_new_words braid m g) = (own a there).count in omega (arith, size, less, all)

-- ---- the split

pub new_rows_fit : (braid : BraidValue) → IsBraid braid → (degree : ℕ) (g : List ℕ) (lists : List RowsValue) (rows : List (List Cell)) → 1 ≤ degree → AreNewDerivatives braid degree g lists → AreNewRows braid degree g lists rows →
    AreSplittable braid.field (columns_to braid degree g braid.letters) rows
new_rows_fit braid is zero g lists rows some h r = absurd (omega arith)
new_rows_fit braid is (suc m) g lists rows some h r = new_rows_shape braid is m g lists rows h r

pub new_places_say : (braid : BraidValue) → IsBraid braid → (degree : ℕ) (g : List ℕ) (lists : List RowsValue) (rows : List (List Cell)) (places : List Place) → 1 ≤ degree → AreNewDerivatives braid degree g lists → AreNewRows braid degree g lists rows →
    IsSplit braid.field rows places → ArePlacesOf braid degree g places
new_places_say braid is zero g lists rows places some h r split = absurd (omega arith)
new_places_say braid is (suc m) g lists rows places some h r split = places_say braid is m g lists rows places h r split

-- closed rows alone
abbrev pub closed_rows : List (List Cell) → RowsValue
closed_rows rows = record { rows = rows; begun = [] }
