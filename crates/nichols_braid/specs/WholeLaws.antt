-- What the laws of combinations whose words have several lengths say.
use Rattle.std.specs.Prelude.{◌≡◌, ◌↔◌, ℕ, true, length}
use Rattle.std.specs.List.{AllByRecursion, Contains}
use Rattle.nichols_field.specs.Field.{IsField}
use Rattle.nichols_tensor.specs.Combination.{Combination, AllElements, minus}
use Rattle.nichols_tensor.specs.Parts.{part_of_degree}
use Rattle.nichols_tensor.specs.Words.{IsOver, HasDegree}
use Rattle.nichols_tensor.specs.WordOrder.{IsOrdered}
use Rattle.nichols_braid.specs.Braid.{BraidValue, IsBraid}
use Rattle.nichols_braid.specs.Kernel.{Vanishing, IsInKernel, is_in_kernel, is_killed}
use Rattle.nichols_braid.specs.Least.{basis, normal_form}
use Rattle.nichols_braid.specs.LinearTest.{IsLinearTest}
use Rattle.nichols_braid.specs.WholeKernel.{vanishes_by_parts, IsKilledByParts}
use Rattle.nichols_braid.specs.WholeForm.{normal_form_by_parts}

-- what is known of the parts of a combination
pub record IsDecidedByParts (braid : BraidValue) (f : Combination) : Type 0 where
  pub kernel : IsInKernel braid f ↔ ((m : ℕ) → IsInKernel braid (part_of_degree m f))
  pub kernel_test : (vanishes_by_parts is_in_kernel braid f ≡ true) ↔ IsInKernel braid f
  pub killed_test : (vanishes_by_parts is_killed braid f ≡ true) ↔ IsKilledByParts braid f

-- a combination is in the kernel exactly where each part of one length is; the tests of the parts decide this, and whether
-- the derivations kill each part
abbrev pub KernelByParts : Type 0
KernelByParts = (braid : BraidValue) → IsBraid braid → (f : Combination) → IsDecidedByParts braid f

-- g is a combination of least words, in order, and one with f in the algebra
pub record IsNormalFormByParts (vanishes : Vanishing) (braid : BraidValue) (f g : Combination) : Type 0 where
  pub least : AllByRecursion (λ t. Contains (basis vanishes braid (length t.word)) t.word) g
  pub ordered : IsOrdered g
  pub elements : AllElements braid.field g
  pub congruent : vanishes_by_parts vanishes braid (minus braid.field f g) ≡ true

-- the normal form of f is the only one, its parts are the normal forms of the parts of f, and where f has words of one
-- length it is the normal form of that length
pub record HasFormByParts (vanishes : Vanishing) (braid : BraidValue) (f : Combination) : Type 0 where
  pub normal : IsNormalFormByParts vanishes braid f (normal_form_by_parts vanishes braid f)
  pub unique : (g : Combination) → IsNormalFormByParts vanishes braid f g → normal_form_by_parts vanishes braid f ≡ g
  pub parts : (m : ℕ) → part_of_degree m (normal_form_by_parts vanishes braid f) ≡ normal_form vanishes braid m (part_of_degree m f)
  pub degree : (m : ℕ) → HasDegree m f → normal_form_by_parts vanishes braid f ≡ normal_form vanishes braid m f

-- each combination of words over the letters has exactly one normal form
abbrev pub NormalFormsByParts : Type 0
NormalFormsByParts =
    (vanishes : Vanishing) (braid : BraidValue) → IsField braid.field → ((m : ℕ) → IsLinearTest braid.field (vanishes braid m)) →
    (f : Combination) → IsOver braid.letters f → HasFormByParts vanishes braid f

-- two combinations have one normal form exactly where their difference is zero in the algebra
abbrev pub FormsByPartsTellClasses : Type 0
FormsByPartsTellClasses =
    (vanishes : Vanishing) (braid : BraidValue) → IsField braid.field → ((m : ℕ) → IsLinearTest braid.field (vanishes braid m)) →
    (f g : Combination) → IsOver braid.letters f → IsOver braid.letters g →
    (normal_form_by_parts vanishes braid f ≡ normal_form_by_parts vanishes braid g) ↔ (vanishes_by_parts vanishes braid (minus braid.field f g) ≡ true)
