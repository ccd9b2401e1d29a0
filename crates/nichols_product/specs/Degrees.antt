-- Degrees of products.
use Rattle.std.specs.Prelude.{ℕ, List, map, sum}
use Rattle.nichols_tensor.specs.Combination.{Combination}
use Rattle.nichols_tensor.specs.Parts.{longest}

-- the degree of a product none of whose factors is zero: the sum of the lengths of their longest words
abbrev pub degree_of_product : List Combination → ℕ
degree_of_product fs = sum (map longest fs)
