-- Words as columns of a matrix.
use Rattle.std.specs.Prelude.{ℕ, ◌+◌, ◌-◌, ◌*◌, ◌^◌, ◌<◌, ◌≤◌, List, [], ◌∷◌, length, map}
use Rattle.nichols_tensor.specs.Combination.{Combination, single}
use Rattle.nichols_tensor.specs.Words.{IsWordOver}
use Rattle.nichols_braid.specs.Braid.{BraidValue}
use Rattle.nichols_braid.specs.Symmetrizer.{symmetrizer_image}
use Rattle.nichols_echelon.specs.Cells.{Cell, entry}
use Rattle.nichols_lift.specs.declared.TheConstants.{PLACE_LIMIT}

-- the letters, less one each, as digits to base n behind the number of what came before
abbrev pub number_behind : ℕ → ℕ → List ℕ → ℕ
number_behind n before [] = before
number_behind n before (x ∷ w) = number_behind n (before * n + (x - 1)) w

-- the number of a word among the words of its length over n letters, from 0
abbrev pub number_of : ℕ → List ℕ → ℕ
number_of n w = number_behind n 0 w

-- a combination as a row: the columns are the numbers of its words
abbrev pub row_of : ℕ → Combination → List Cell
row_of n f = map (λ t. record { column = number_of n t.word; coefficient = t.coefficient }) f

-- the entry, at a column, of the image of a word under the quantum symmetrizer
unfoldable pub image_entry : BraidValue → ℕ → List ℕ → ℕ
image_entry braid column w = entry braid.field (row_of braid.letters (symmetrizer_image braid (single w))) column

-- a word over the braid's letters whose image is computed, and of whose length there are few enough words for columns
pub record HasColumns (braid : BraidValue) (w : List ℕ) : Type 0 where
  pub short : length w ≤ PLACE_LIMIT
  pub letters : IsWordOver braid.letters w
  pub columns : braid.letters ^ length w < 2 ^ 32
