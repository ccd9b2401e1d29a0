-- Pending sums over the words of a basis.
use Rattle.std.specs.Prelude.{◌≡◌, ℕ, List, [], ◌∷◌, ◌++◌, length}
use Rattle.nichols_field.specs.Field.{FieldValue, element_of_sum}
use Rattle.nichols_tensor.specs.Combination.{Combination, HasSameValues}

-- the combination that has at each word the element for which the number at its place stands
unfoldable pub combination_of : FieldValue → List (List ℕ) → List ℕ → Combination
combination_of field (w ∷ ws) (n ∷ sums) = record { word = w; coefficient = element_of_sum field n } ∷ combination_of field ws sums
combination_of field _ _ = []

-- the sums are those before and a combination more; there is one for each word
pub record HasGrownBy (field : FieldValue) (ws : List (List ℕ)) (before : List ℕ) (f : Combination) (after : List ℕ) : Type 0 where
  pub width : length after ≡ length ws
  pub values : HasSameValues field (combination_of field ws after) (combination_of field ws before ++ f)
