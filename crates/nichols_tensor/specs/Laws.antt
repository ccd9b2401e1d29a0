-- What the laws of this crate say.
use Rattle.std.specs.Prelude.{◌≡◌, ◌≢◌, ◌↔◌, ℕ, List, [], flat_map}
use Rattle.nichols_field.specs.Field.{FieldValue, IsField, sum_by, times}
use Rattle.nichols_tensor.specs.Combination.{Combination, value_at, HasSameValues, words_of, AllElements, AllAmong}
use Rattle.nichols_tensor.specs.InOrder.{in_order}
use Rattle.nichols_tensor.specs.Parts.{part_of_degree, degrees_of}
use Rattle.nichols_tensor.specs.Product.{product, splittings, Splitting}
use Rattle.nichols_tensor.specs.WordOrder.{IsOrdered}
use Rattle.nichols_tensor.specs.Words.{IsOver, HasDegree}

-- `in_order field f` is the one combination in order that has the values of f, and has no other words than f
pub record IsTheOneInOrder (field : FieldValue) (f : Combination) : Type 0 where
  pub values : HasSameValues field (in_order field f) f
  pub shape : IsOrdered (in_order field f)
  pub elements : AllElements field (in_order field f)
  pub words : AllAmong (in_order field f) (words_of f)
  pub letters : (n : ℕ) → IsOver n f → IsOver n (in_order field f)
  pub degree : (m : ℕ) → HasDegree m f → HasDegree m (in_order field f)
  pub unique : (g : Combination) → AllElements field g → IsOrdered g → HasSameValues field g f → g ≡ in_order field f
  pub unchanged : IsOrdered f → in_order field f ≡ f
  pub tells : (g : Combination) → AllElements field g → HasSameValues field f g ↔ (in_order field f ≡ in_order field g)

-- each combination whose coefficients are elements is brought into order in one way
abbrev pub InOrderIsTheOne : Type 0
InOrderIsTheOne = (field : FieldValue) → IsField field → (f : Combination) → AllElements field f → IsTheOneInOrder field f

-- a combination has the values of the sum of its parts, one for each degree from 0 to the greatest of a word
abbrev pub PartsMakeTheWhole : Type 0
PartsMakeTheWhole = (field : FieldValue) → IsField field → (f : Combination) → HasSameValues field (flat_map (λ m. part_of_degree m f) (degrees_of f)) f

-- each part has its degree; and a combination of one degree is its part of this degree, and has no other parts
pub record HasPartsByDegree (f : Combination) : Type 0 where
  pub degree : (m : ℕ) → HasDegree m (part_of_degree m f)
  pub own : (m : ℕ) → HasDegree m f → part_of_degree m f ≡ f
  pub others : (m n : ℕ) → HasDegree m f → n ≢ m → part_of_degree n f ≡ []

-- each combination has its parts
abbrev pub PartsHaveTheirDegrees : Type 0
PartsHaveTheirDegrees = (f : Combination) → HasPartsByDegree f

-- the product has at a word the sum, over its splittings, of the products of the values of both parts
abbrev pub ProductIsBySplittings : Type 0
ProductIsBySplittings =
    (field : FieldValue) → IsField field → (f g : Combination) (w : List ℕ) →
    value_at field (product field f g) w ≡ sum_by field (λ (s : Splitting). times field (value_at field f s.front) (value_at field g s.back)) (splittings w)

-- the product is associative
abbrev pub ProductIsAssociative : Type 0
ProductIsAssociative = (field : FieldValue) → IsField field → (f g h : Combination) → HasSameValues field (product field (product field f g) h) (product field f (product field g h))
