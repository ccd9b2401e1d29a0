-- Combinations of words that rows give.
use Rattle.std.specs.Prelude.{ℕ, List, map}
use Rattle.nichols_tensor.specs.Combination.{Combination}
use Rattle.nichols_tensor.specs.Positions.{word_at}
use Rattle.nichols_echelon.specs.Cells.{Cell}

-- the combination of the words at the cells' columns, which are positions in a list from 0
abbrev pub combination_at : List (List ℕ) → List Cell → Combination
combination_at ws cells = map (λ c. record { word = word_at ws c.column; coefficient = c.coefficient }) cells
