-- How a rule is kept: rows of cells, whose columns are places in lists of words.
use Rattle.std.specs.Prelude.{◌≡◌, ◌≤◌, ◌<◌, ◌-◌, ℕ, List, [], ◌∷◌, ◌++◌, map, length, Option, slice_index, slice_index_or}
use Rattle.std.specs.List.{AllByRecursion, Contains}
use Rattle.nichols_tensor.specs.declared.TheConstants.{WORD_LIMIT}
use Rattle.nichols_tensor.specs.Combination.{Combination}
use Rattle.nichols_tensor.specs.Positions.{word_at}
use Rattle.nichols_tensor.specs.Relation.{PlainRelation}
use Rattle.nichols_tensor.specs.WordOrder.{IsRising}
use Rattle.nichols_echelon.specs.Cells.{AllBelow, Cell, IsRow}
use Rattle.nichols_echelon.specs.Rows.{RowsValue}
use Rattle.nichols_rows.specs.CombinationAt.{combination_at}
use Rattle.nichols_value.specs.declared.ends.Ends.{Ends}
use Rattle.nichols_value.specs.declared.key.BlockKey.{BlockKey}
use Rattle.nichols_value.specs.declared.spot.Spot.{Spot}
use Rattle.nichols_value.specs.Rule.{PlainRule, PlainUpper, by_letter}

-- the combinations of these words that rows are
abbrev pub forms_over : List (List ℕ) → RowsValue → List Combination
forms_over ws rows = map (combination_at ws) rows.rows

-- the same, where the k-th rows are over the k-th words
abbrev pub forms_over_each : List (List (List ℕ)) → List RowsValue → List (List Combination)
forms_over_each [] rows = []
forms_over_each (ws ∷ lists) [] = []
forms_over_each (ws ∷ lists) (r ∷ rows) = forms_over ws r ∷ forms_over_each lists rows

-- the word at a spot, `u b` for the letter b and the word u at its place below
abbrev pub candidate_at : List (List (List ℕ)) → Spot → List ℕ
candidate_at below s = word_at (by_letter below s.letter) s.place ++ s.letter ∷ []

-- the relation at a spot
abbrev pub relation_at : List (List (List ℕ)) → List (List Combination) → Spot → PlainRelation
relation_at below right s = record {
  candidate = candidate_at below s;
  form = slice_index_or (by_letter right s.letter) s.place [];
}

-- what a rule is, by its parts
abbrev pub rule_by : BlockKey → List (List ℕ) → List (List (List ℕ)) → List RowsValue → List Spot → Option PlainUpper → PlainRule
rule_by key basis below right spots upper = record {
  key = key;
  basis = basis;
  table = map (relation_at below (map (forms_over basis) right)) spots;
  below = below;
  right = map (forms_over basis) right;
  upper = upper;
}

-- what serves the degree above, by its parts
abbrev pub upper_by : List (List ℕ) → List (List (List ℕ)) → List RowsValue → List RowsValue → PlainUpper
upper_by basis below derivs left = record { derivs = forms_over_each below derivs; left = map (forms_over basis) left }

-- closed rows whose columns are places in a list of so many words
pub record AreFormRows (width : ℕ) (rows : RowsValue) : Type 0 where
  pub closed : rows.begun ≡ []
  pub shape : AllByRecursion IsRow rows.rows
  pub below : AllByRecursion (AllBelow width) rows.rows

-- the same, where the k-th rows are over the k-th words
abbrev pub AreFormRowsOfEach : List (List (List ℕ)) → List RowsValue → Type 0
AreFormRowsOfEach [] [] = Unit {0}
AreFormRowsOfEach (ws ∷ lists) (r ∷ rows) = AreFormRows (length ws) r × AreFormRowsOfEach lists rows
AreFormRowsOfEach _ _ = ⊥

-- the k-th rows are as many as the k-th words
abbrev pub HaveRowEach : List (List (List ℕ)) → List RowsValue → Type 0
HaveRowEach [] [] = Unit {0}
HaveRowEach (ws ∷ lists) (r ∷ rows) = (length r.rows ≡ length ws) × HaveRowEach lists rows
HaveRowEach _ _ = ⊥

-- each word has room for another letter
abbrev pub AllShort : List (List ℕ) → Type 0
AllShort ws = AllByRecursion (λ w. length w < WORD_LIMIT) ws

-- the spot is that of a word of the lower blocks
abbrev pub IsSpot : List (List (List ℕ)) → Spot → Type 0
IsSpot below s = (0 < s.letter) × (s.letter - 1 < length below) × (s.place < length (by_letter below s.letter))

-- the parts of a rule are of one shape, and a word of a lower block with its letter behind is in the basis or at a spot
pub record IsShaped (key : BlockKey) (basis : List (List ℕ)) (below : List (List (List ℕ))) (right : List RowsValue) (spots : List Spot) : Type 0 where
  pub letters : length below ≡ length key.product
  pub rising : IsRising basis
  pub lists_rise : AllByRecursion IsRising below
  pub short : AllByRecursion AllShort below
  pub forms : AllByRecursion (AreFormRows (length basis)) right
  pub rows : HaveRowEach below right
  pub inside : AllByRecursion (IsSpot below) spots
  pub whole : (s : Spot) → IsSpot below s → (Contains basis (candidate_at below s) → ⊥) → Contains (map (candidate_at below) spots) (candidate_at below s)

-- and so are those that serve the degree above
pub record IsUpperShaped (basis : List (List ℕ)) (below : List (List (List ℕ))) (derivs left : List RowsValue) : Type 0 where
  pub derivs_forms : AreFormRowsOfEach below derivs
  pub derivs_rows : AllByRecursion (λ (r : RowsValue). length r.rows ≡ length basis) derivs
  pub left_forms : AllByRecursion (AreFormRows (length basis)) left
  pub letters : length left ≡ length below

-- where a word of a block of product g stands without its last letter, among the words below by it, and without its first one, among
-- the words below by the letter that g sends to it
pub record AreEndsOf (g : List ℕ) (below : List (List (List ℕ))) (w : List ℕ) (ends : Ends) : Type 0 where
  pub front : (b : ℕ) (u : List ℕ) → w ≡ u ++ b ∷ [] → (ends.front < length (by_letter below b)) × (word_at (by_letter below b) ends.front ≡ u)
  pub back : (c : ℕ) (v : List ℕ) → 1 ≤ c → c ≤ length g → w ≡ slice_index g (c - 1) ∷ v → (ends.back < length (by_letter below c)) × (word_at (by_letter below c) ends.back ≡ v)

-- the same for each word of a list
abbrev pub AreEnds : List ℕ → List (List (List ℕ)) → List (List ℕ) → List Ends → Type 0
AreEnds g below [] [] = Unit {0}
AreEnds g below (w ∷ ws) (e ∷ ends) = AreEndsOf g below w e × AreEnds g below ws ends
AreEnds g below _ _ = ⊥

-- the cells of a form: their columns are places of words, and they are the form
pub record AreCellsOf (ws : List (List ℕ)) (f : Combination) (cells : List Cell) : Type 0 where
  pub row : IsRow cells
  pub below : AllBelow (length ws) cells
  pub form : combination_at ws cells ≡ f

-- cells whose columns are places in a list of words that rise
pub record AreCellsOver (ws : List (List ℕ)) (cells : List Cell) : Type 0 where
  pub rising : IsRising ws
  pub row : IsRow cells
  pub below : AllBelow (length ws) cells
