-- What the laws of this crate say.
use Rattle.std.specs.Prelude.{◌≡◌, ◌≢◌, ◌↔◌, ℕ, ◌+◌, ◌<◌, List, [], length, slice_get, take, Some}
use Rattle.std.specs.List.{AllByRecursion, Contains}
use Rattle.nichols_tensor.specs.Combination.{Combination, IsZero}
use Rattle.nichols_tensor.specs.Product.{product, product_of}
use Rattle.nichols_tensor.specs.Words.{IsOver}
use Rattle.nichols_braid.specs.Braid.{BraidValue, IsBraid}
use Rattle.nichols_braid.specs.Kernel.{Vanishing, is_killed}
use Rattle.nichols_braid.specs.Least.{basis}
use Rattle.nichols_braid.specs.WholeForm.{normal_form_by_parts}
use Rattle.nichols_lift.specs.Reading.{IsReading}
use Rattle.nichols_reduce.specs.declared.answer.Normal.TheVariants.{Form, Beyond}
use Rattle.nichols_product.specs.Degrees.{degree_of_product}
use Rattle.nichols_product.specs.Products.{normal_of_product, products_of}

-- the product of the normal forms of f and g has the normal form of f g
abbrev pub FormsMultiply : Type 0
FormsMultiply =
    (vanishes : Vanishing) (braid : BraidValue) → IsBraid braid → IsReading vanishes → (f g : Combination) → IsOver braid.letters f → IsOver braid.letters g →
    normal_form_by_parts vanishes braid (product braid.field (normal_form_by_parts vanishes braid f) (normal_form_by_parts vanishes braid g)) ≡ normal_form_by_parts vanishes braid (product braid.field f g)

-- products that are brought to normal form are associative
abbrev pub FormsMultiplyAssociatively : Type 0
FormsMultiplyAssociatively =
    (vanishes : Vanishing) (braid : BraidValue) → IsBraid braid → IsReading vanishes → (f g h : Combination) → IsOver braid.letters f → IsOver braid.letters g → IsOver braid.letters h →
    normal_form_by_parts vanishes braid (product braid.field (normal_form_by_parts vanishes braid (product braid.field f g)) h)
    ≡ normal_form_by_parts vanishes braid (product braid.field f (normal_form_by_parts vanishes braid (product braid.field g h)))

-- that m is the last degree is the answer exactly where this degree has least words, no factor is zero, and the degrees of the factors
-- have a sum above it; else the answer is the normal form of the product, and with a factor that is zero this is zero
pub record IsAnswered (braid : BraidValue) (last : ℕ) (fs : List Combination) : Type 0 where
  pub beyond : (m : ℕ) → (normal_of_product braid last fs ≡ Beyond m) ↔ ((m ≡ last) × (basis is_killed braid last ≢ []) × ((f : Combination) → Contains fs f → IsZero braid.field f → ⊥) × (last < degree_of_product fs))
  pub form : (g : Combination) → normal_of_product braid last fs ≡ Form g → g ≡ normal_form_by_parts is_killed braid (product_of braid.field fs)
  pub zero : (f : Combination) → Contains fs f → IsZero braid.field f → normal_of_product braid last fs ≡ Form []

-- each list of factors has its answer
abbrev pub AnswersAreKnown : Type 0
AnswersAreKnown = (braid : BraidValue) → IsBraid braid → (last : ℕ) (fs : List Combination) → AllByRecursion (IsOver braid.letters) fs → IsAnswered braid last fs

-- there is an answer for each factor: that of the product of the factors up to it
abbrev pub AnswersAreOfFirstFactors : Type 0
AnswersAreOfFirstFactors =
    (braid : BraidValue) (last : ℕ) (fs : List Combination) →
    (length (products_of braid last fs) ≡ length fs) × ((k : ℕ) → k < length fs → slice_get (products_of braid last fs) k ≡ Some (normal_of_product braid last (take (k + 1) fs)))
