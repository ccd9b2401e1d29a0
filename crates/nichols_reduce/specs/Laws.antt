-- What the laws of this crate say.
use Rattle.std.specs.Prelude.{◌≡◌, ◌≢◌, ◌↔◌, ℕ, ◌<◌, ◌≤◌, [], ◌++◌, length}
use Rattle.std.specs.List.{AllByRecursion}
use Rattle.nichols_tensor.specs.Combination.{Combination, HasSameValues, scalar_multiple, minus}
use Rattle.nichols_tensor.specs.Parts.{longest}
use Rattle.nichols_tensor.specs.Words.{IsOver}
use Rattle.nichols_braid.specs.Braid.{BraidValue, IsBraid}
use Rattle.nichols_braid.specs.Kernel.{Vanishing, IsInKernel, is_in_kernel, is_killed}
use Rattle.nichols_braid.specs.Least.{basis}
use Rattle.nichols_braid.specs.WholeForm.{normal_form_by_parts}
use Rattle.nichols_lift.specs.Reading.{IsReading}
use Rattle.nichols_reduce.specs.Normal.{normal_of}
use Rattle.nichols_reduce.specs.declared.answer.Normal.TheVariants.{Form, Beyond}

-- that m is the last degree is the answer exactly where this degree has least words, and a word is longer than it; else the
-- answer is the normal form
pub record IsAnswered (braid : BraidValue) (last : ℕ) (f : Combination) : Type 0 where
  pub beyond : (m : ℕ) → (normal_of braid last f ≡ Beyond m) ↔ ((m ≡ last) × (basis is_killed braid last ≢ []) × (last < longest f))
  pub form : (g : Combination) → normal_of braid last f ≡ Form g → g ≡ normal_form_by_parts is_killed braid f

-- each combination has its answer
abbrev pub AnswersAreKnown : Type 0
AnswersAreKnown = (braid : BraidValue) (last : ℕ) (f : Combination) → IsAnswered braid last f

-- where degree m has no least word, a combination of words of m letters and more has the normal form zero
abbrev pub LongWordsAreZero : Type 0
LongWordsAreZero =
    (vanishes : Vanishing) (braid : BraidValue) → IsBraid braid → IsReading vanishes → (m : ℕ) → basis vanishes braid m ≡ [] →
    (f : Combination) → IsOver braid.letters f → AllByRecursion (λ t. m ≤ length t.word) f → normal_form_by_parts vanishes braid f ≡ []

-- the skew derivations and the quantum symmetrizer give one normal form
abbrev pub FormsHaveOneReading : Type 0
FormsHaveOneReading = (braid : BraidValue) → IsBraid braid → (f : Combination) → IsOver braid.letters f → normal_form_by_parts is_killed braid f ≡ normal_form_by_parts is_in_kernel braid f

-- two combinations have one normal form exactly where the quantum symmetrizers send their difference to zero
abbrev pub FormsTellElements : Type 0
FormsTellElements =
    (vanishes : Vanishing) (braid : BraidValue) → IsBraid braid → IsReading vanishes → (f g : Combination) → IsOver braid.letters f → IsOver braid.letters g →
    (normal_form_by_parts vanishes braid f ≡ normal_form_by_parts vanishes braid g) ↔ IsInKernel braid (minus braid.field f g)

-- the normal form keeps sums and multiples
pub record IsLinearForm (vanishes : Vanishing) (braid : BraidValue) : Type 0 where
  pub sums : (f g : Combination) → IsOver braid.letters f → IsOver braid.letters g →
      HasSameValues braid.field (normal_form_by_parts vanishes braid (f ++ g)) (normal_form_by_parts vanishes braid f ++ normal_form_by_parts vanishes braid g)
  pub multiples : (c : ℕ) (f : Combination) → IsOver braid.letters f →
      HasSameValues braid.field (normal_form_by_parts vanishes braid (scalar_multiple braid.field c f)) (scalar_multiple braid.field c (normal_form_by_parts vanishes braid f))

-- the normal form is linear
abbrev pub FormsAreLinear : Type 0
FormsAreLinear = (vanishes : Vanishing) (braid : BraidValue) → IsBraid braid → IsReading vanishes → IsLinearForm vanishes braid

-- a normal form is its own normal form
abbrev pub FormsAreTheirOwn : Type 0
FormsAreTheirOwn =
    (vanishes : Vanishing) (braid : BraidValue) → IsBraid braid → IsReading vanishes → (f : Combination) → IsOver braid.letters f →
    normal_form_by_parts vanishes braid (normal_form_by_parts vanishes braid f) ≡ normal_form_by_parts vanishes braid f
