-- A row of which something is left that ends at a free column is no combination of the rows before it.
use Rattle.std.proofs.Common.{◌≡◌, ◌≢◌, ◌<◌, ℕ, List, Option, Some, None, refl, sym, ◌∙◌, arith, inl, inr, length, get_or}
use Rattle.std.proofs.lemmas.Bool.{cases_lt}
use Rattle.std.proofs.lemmas.List.{get_or_past}
use Rattle.std.proofs.lemmas.Option.{none-some}
use Rattle.nichols_field.specs.Field.{FieldValue, IsField, plus}
use Rattle.nichols_echelon.specs.Cells.{Cell, entry}
use Rattle.nichols_echelon.specs.Combination.{row_at, combined_entry, IsDependent}
use Rattle.nichols_echelon.specs.Split.{place_at, IsPlace}
use Rattle.nichols_echelon.specs.Echelon.{kept_rows, pivot_at, IsClaimed, AllClaimed, IsPivot, IsEchelon}
use Rattle.nichols_echelon.specs.NextRow.{Follows}
use Rattle.nichols_echelon.specs.declared.rows.Place.{Place}
use Rattle.nichols_echelon.specs.declared.rows.Place.TheVariants.{Independent, Depends}
use Rattle.nichols_echelon.proofs.Shapes.{all_both}
use Rattle.nichols_echelon.proofs.Entries.{entry_is_element}
use Rattle.nichols_echelon.proofs.Clearing.{cleared, cleared-same, cleared-kept, cleared-combined, cleared-made, cleared-free, cleared_is_element}
use Rattle.nichols_tensor.proofs.Over.{all-weaker}

-- a column where a kept row ends is in the table
pub claimed_inside : (pivots : List (Option ℕ)) (column i : ℕ) → pivot_at pivots column ≡ Some i → column < length pivots
claimed_inside pivots column i claimed =
    elim (cases_lt column (length pivots)) [
      | inl inside ↦ inside
      | inr past ↦ absurd (none-some i (sym (get_or_past pivots column None past) ∙ claimed))
    ]

module _ (k : FieldValue) (is : IsField k) (rows left steps : List (List Cell)) (factors : List ℕ) (pivots : List (Option ℕ)) (e : IsEchelon k rows left steps factors pivots) where
  abbrev clear : (ℕ → ℕ) → ℕ → ℕ
  clear v x = cleared k (kept_rows rows left) factors pivots (length pivots) v x

  -- the kept rows are cleared
  kept_clear : (i : ℕ) → IsClaimed pivots i → (x : ℕ) → clear (entry k (row_at (kept_rows rows left) i)) x ≡ 0
  kept_clear i claimed x =
      let known : (i < length left) × IsPivot k (row_at (kept_rows rows left) i) (get_or factors i 0) claimed.0 = e.known claimed.0 i claimed.1 in
      cleared-kept k is (kept_rows rows left) factors pivots (length pivots) i claimed.0 (claimed_inside pivots claimed.0 i claimed.1) claimed.1 known.1 (e.elements i known.0) x

  -- of a row, what is left of it stays
  left_stays : (row cells parts : List Cell) → AllClaimed pivots parts → ((x : ℕ) → entry k row x ≡ plus k (entry k cells x) (combined_entry k (kept_rows rows left) parts x)) → (x : ℕ) →
      clear (entry k row) x ≡ clear (entry k cells) x
  left_stays row cells parts claimed value =
      cleared-made k is (kept_rows rows left) factors pivots (length pivots) (entry k row) (entry k cells) (kept_rows rows left) parts
      (cleared_is_element k is (kept_rows rows left) factors pivots (length pivots) (entry k cells) (entry_is_element k is cells)) value
      (all-weaker (λ c. IsClaimed pivots c.column) (λ c. (x : ℕ) → clear (entry k (row_at (kept_rows rows left) c.column)) x ≡ 0) (λ c h. kept_clear c.column h) parts claimed)

  -- the rows that the kept rows come from are cleared
  row_clear : (i : ℕ) → IsClaimed pivots i → (x : ℕ) → clear (entry k (row_at rows i)) x ≡ 0
  row_clear i claimed x =
      let seen : i < length left = (e.known claimed.0 i claimed.1).0 in
      left_stays (row_at rows i) (row_at (kept_rows rows left) i) (row_at steps i) (e.are_steps i (omega (arith, seen, e.steps_count))).claimed (e.made i (omega (arith, seen, e.steps_count))) x
      ∙ kept_clear i claimed x

  module _ (places : List Place) (count : length places ≡ length left) (f : Follows k rows pivots places) where
    -- and so are the rows that depend on them
    place_clear : (i : ℕ) → i < length left → (place : Place) → place_at places i ≡ place → IsPlace k rows places i place → (x : ℕ) → clear (entry k (row_at rows i)) x ≡ 0
    place_clear i seen Independent same h x = row_clear i (f.claimed i (omega (arith, seen, count)) same) x
    place_clear i seen (Depends cells) same h x =
        cleared-same k is (kept_rows rows left) factors pivots (length pivots) (entry k (row_at rows i)) (combined_entry k rows cells) h.combination.value x
        ∙ cleared-combined k is (kept_rows rows left) factors pivots (length pivots) rows cells
        (all_both (λ c. c.column < i) (λ c. place_at places c.column ≡ Independent) (λ c. (y : ℕ) → clear (entry k (row_at rows c.column)) y ≡ 0)
        (λ c b free. row_clear c.column (f.claimed c.column (omega (arith, b, seen, count)) free)) cells h.combination.earlier h.independent) x

    pub independent : (cells parts : List Cell) (column : ℕ) → pivot_at pivots column ≡ None → AllClaimed pivots parts → entry k cells column ≢ 0 → ((x : ℕ) → column < x → entry k cells x ≡ 0) →
        ((x : ℕ) → entry k (row_at rows (length left)) x ≡ plus k (entry k cells x) (combined_entry k (kept_rows rows left) parts x)) → IsDependent k rows (length left) → ⊥
    independent cells parts column free claimed nonzero behind value dependent =
        nonzero (
        sym (left_stays (row_at rows (length left)) cells parts claimed value column
        ∙ cleared-free k is (kept_rows rows left) factors pivots (λ c i at. (e.known c i at).1) (length pivots) column free (entry k cells) (entry_is_element k is cells) behind)
        ∙ cleared-same k is (kept_rows rows left) factors pivots (length pivots) (entry k (row_at rows (length left))) (combined_entry k rows dependent.0) dependent.1.value column
        ∙ cleared-combined k is (kept_rows rows left) factors pivots (length pivots) rows dependent.0
        (all-weaker (λ c. c.column < length left) (λ c. (x : ℕ) → clear (entry k (row_at rows c.column)) x ≡ 0)
        (λ c b. place_clear c.column b (place_at places c.column) refl (f.each c.column (omega (arith, b, count)))) dependent.0 dependent.1.earlier) column)
