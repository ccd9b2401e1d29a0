-- Rows that are forms of words, by letter.
use Rattle.std.specs.Prelude.{◌≡◌, ◌<◌, ℕ, ◌-◌, List, [], ◌∷◌, ◌++◌, map, length, slice_index_or, MatchOption, Option, None}
use Rattle.std.specs.List.{AllByRecursion}
use denote.Bor.{Bor}
use Rattle.nichols_field.specs.Field.{FieldValue}
use Rattle.nichols_tensor.specs.Combination.{Combination, scalar_multiple, value_at}
use Rattle.nichols_tensor.specs.Positions.{word_at}
use Rattle.nichols_tensor.specs.Words.{up_to}
use Rattle.nichols_braid.specs.Braid.{BraidValue, IsLetter}
use Rattle.nichols_braid.specs.Forms.{derived_form}
use Rattle.nichols_braid.specs.Kernel.{is_killed}
use Rattle.nichols_braid.specs.Product.{product_before}
use Rattle.nichols_echelon.specs.Cells.{Cell}
use Rattle.nichols_echelon.specs.Rows.{RowsValue}
use Rattle.nichols_echelon.specs.Sums.{IsZeroFrom, sum_at}
use Rattle.nichols_value.specs.declared.spot.Spot.{Spot}
use Rattle.nichols_value.specs.Block.{block_basis, lower_basis}
use Rattle.nichols_value.specs.Rule.{PlainRule, block_derivs, left_forms, right_forms, rule_of}
use Rattle.nichols_value.specs.Kept.{AreCellsOf, AreFormRows, IsSpot, candidate_at, forms_over}
use Rattle.nichols_block.specs.Words.{block_new_words}

-- closed rows over these words that are these forms
pub record AreRowsOf (ws : List (List ℕ)) (fs : List Combination) (rows : RowsValue) : Type 0 where
  pub shape : AreFormRows (length ws) rows
  pub forms : forms_over ws rows ≡ fs

-- rows by letter, from letter 1 on
abbrev pub rows_by : List RowsValue → ℕ → RowsValue
rows_by lists a = slice_index_or lists (a - 1) (record { rows = []; begun = [] })

-- by letter a, the rows of the normal forms of the derivatives by a of the new words of a block, over the words of its lower block by a
pub record AreNewDerivatives (braid : BraidValue) (m : ℕ) (g : List ℕ) (lists : List RowsValue) : Type 0 where
  pub letters : length lists ≡ braid.letters
  pub each : (a : ℕ) → IsLetter braid a → AreRowsOf (lower_basis braid m g a) (map (λ w. derived_form is_killed braid m w a) (block_new_words braid m g)) (rows_by lists a)

-- by letter b, the rows of the normal forms of `u b`
pub record AreRightRows (braid : BraidValue) (m : ℕ) (g : List ℕ) (lists : List RowsValue) : Type 0 where
  pub letters : length lists ≡ braid.letters
  pub each : (b : ℕ) → IsLetter braid b → AreRowsOf (block_basis braid m g) (right_forms braid m g b) (rows_by lists b)

-- by letter a, the rows of the normal forms of `a v`
pub record AreLeftRows (braid : BraidValue) (m : ℕ) (g : List ℕ) (lists : List RowsValue) : Type 0 where
  pub letters : length lists ≡ braid.letters
  pub each : (a : ℕ) → IsLetter braid a → AreRowsOf (block_basis braid m g) (left_forms braid m g a) (rows_by lists a)

-- ---- sums of rows

-- by letter, the words of the lower blocks
abbrev pub lower_words : BraidValue → ℕ → List ℕ → List (List (List ℕ))
lower_words braid m g = map (lower_basis braid m g) (up_to braid.letters)

-- the rule of the lower block by a letter, or none where it has no words
abbrev pub IsRuleBelow : BraidValue → ℕ → List ℕ → ℕ → Option (Bor PlainRule) → Type 0
IsRuleBelow braid m g a found = MatchOption found (lower_basis braid m g a ≡ []) (λ r. r.now ≡ rule_of braid (m - 1) (product_before braid a g))

-- the rules of the lower blocks by each letter, from letter 1 on
pub record AreRulesBelow (braid : BraidValue) (m : ℕ) (g : List ℕ) (rules : List (Option (Bor PlainRule))) : Type 0 where
  pub letters : length rules ≡ braid.letters
  pub each : (b : ℕ) → IsLetter braid b → IsRuleBelow braid m g b (slice_index_or rules (b - 1) None)

-- the spots of the new words of a block
pub record AreSpotsOf (braid : BraidValue) (m : ℕ) (g : List ℕ) (spots : List Spot) : Type 0 where
  pub inside : AllByRecursion (IsSpot (lower_words braid m g)) spots
  pub words : map (candidate_at (lower_words braid m g)) spots ≡ block_new_words braid m g

-- the rows of the derivatives by a of the words at spots
abbrev pub AreRowsAt : BraidValue → ℕ → List ℕ → List Spot → ℕ → RowsValue → Type 0
AreRowsAt braid m g spots a rows = AreRowsOf (lower_basis braid m g a) (map (λ s. derived_form is_killed braid m (candidate_at (lower_words braid m g) s) a) spots) rows

-- the forms at the columns of cells, each times the coefficient of its cell
unfoldable pub summed_forms : FieldValue → List Combination → List Cell → Combination
summed_forms field forms [] = []
summed_forms field forms (c ∷ cells) = scalar_multiple field c.coefficient (slice_index_or forms c.column []) ++ summed_forms field forms cells

-- the sums are the values of a combination at these words, by their places, and 0 behind
pub record AreSums (field : FieldValue) (ws : List (List ℕ)) (values : List ℕ) (f : Combination) : Type 0 where
  pub inside : (place : ℕ) → place < length ws → sum_at field values place ≡ value_at field f (word_at ws place)
  pub beyond : IsZeroFrom field values (length ws)

-- the row of a form was closed behind other rows
pub record HasNewRow (ws : List (List ℕ)) (f : Combination) (before after : RowsValue) : Type 0 where
  pub cells : List Cell
  pub closed : after ≡ record { rows = before.rows ++ cells ∷ []; begun = [] }
  pub form : AreCellsOf ws f cells

-- by letter a, the rows of the normal forms of the derivatives by a of the least words of a block, over the words of its lower block by a
pub record AreLeastDerivatives (braid : BraidValue) (m : ℕ) (g : List ℕ) (lists : List RowsValue) : Type 0 where
  pub letters : length lists ≡ braid.letters
  pub each : (a : ℕ) → IsLetter braid a → AreRowsOf (lower_basis braid m g a) (block_derivs braid m g a) (rows_by lists a)
