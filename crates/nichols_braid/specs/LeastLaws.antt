-- What the laws of least words, bases and normal forms say, for every linear test of which combinations are zero in the algebra.
use Rattle.std.specs.Prelude.{◌≡◌, ◌≢◌, ℕ, true, false, List, [], ◌++◌, map, length, filter}
use Rattle.std.specs.List.{AllByRecursion, Contains}
use Rattle.std.specs.declared.cmp.Ordering.TheVariants.{Less, Greater}
use Rattle.nichols_field.specs.Field.{IsField}
use Rattle.nichols_tensor.specs.Combination.{Combination, HasSameValues, IsZero, AllElements, AllAmong, single, scalar_multiple, minus}
use Rattle.nichols_tensor.specs.Words.{IsWordOver, IsOver, HasDegree}
use Rattle.nichols_tensor.specs.WordOrder.{word_cmp, IsRising, IsOrdered}
use Rattle.nichols_braid.specs.Braid.{BraidValue}
use Rattle.nichols_braid.specs.Kernel.{Vanishing}
use Rattle.nichols_braid.specs.Least.{is_least, basis, normal_form, candidates, relations}
use Rattle.nichols_braid.specs.LinearTest.{IsLinearTest}
use Rattle.nichols_braid.specs.RightIdealTest.{IsRightIdealTest}

-- each word of f has the length of w, is a word over the letters and stands before w
pub record IsOfEarlierWords (braid : BraidValue) (w : List ℕ) (f : Combination) : Type 0 where
  pub over : IsOver braid.letters f
  pub degree : HasDegree (length w) f
  pub earlier : AllByRecursion (λ t. word_cmp t.word w ≡ Less) f

-- the word is congruent to no combination of the words of its length before it
abbrev pub IsLeastWord : Vanishing → BraidValue → List ℕ → Type 0
IsLeastWord vanishes braid w =
    (f : Combination) → IsOfEarlierWords braid w f → AllElements braid.field f → vanishes braid (length w) (minus braid.field (single w) f) ≡ true → ⊥

-- the test of least words says yes exactly of these
abbrev pub LeastWordsAreTested : Type 0
LeastWordsAreTested =
    (vanishes : Vanishing) (braid : BraidValue) → IsField braid.field → (w : List ℕ) → IsLinearTest braid.field (vanishes braid (length w)) →
    (is_least vanishes braid w ≡ true → IsLeastWord vanishes braid w) × (IsLeastWord vanishes braid w → is_least vanishes braid w ≡ true)

-- ---- bases

-- the word is an entry of the basis exactly where it is a least word of m letters
pub record IsListedIfLeast (vanishes : Vanishing) (braid : BraidValue) (m : ℕ) (w : List ℕ) : Type 0 where
  pub listed : length w ≡ m → IsWordOver braid.letters w → IsLeastWord vanishes braid w → Contains (basis vanishes braid m) w
  pub degree : Contains (basis vanishes braid m) w → length w ≡ m
  pub over : Contains (basis vanishes braid m) w → IsWordOver braid.letters w
  pub least : Contains (basis vanishes braid m) w → IsLeastWord vanishes braid w

-- the basis of degree m has the least words of m letters, each once, rising
abbrev pub BasisHasLeastWords : Type 0
BasisHasLeastWords =
    (vanishes : Vanishing) (braid : BraidValue) → IsField braid.field → (m : ℕ) → IsLinearTest braid.field (vanishes braid m) →
    IsRising (basis vanishes braid m) × ((w : List ℕ) → IsListedIfLeast vanishes braid m w)

-- a combination of least words that is zero in the algebra is zero
abbrev pub LeastWordsAreIndependent : Type 0
LeastWordsAreIndependent =
    (vanishes : Vanishing) (braid : BraidValue) → IsField braid.field → (m : ℕ) → IsLinearTest braid.field (vanishes braid m) →
    (f : Combination) → AllAmong f (basis vanishes braid m) → vanishes braid m f ≡ true → IsZero braid.field f

-- ---- normal forms

-- g is a combination of least words of degree m, in order, and one with f in the algebra
pub record IsNormalForm (vanishes : Vanishing) (braid : BraidValue) (m : ℕ) (f g : Combination) : Type 0 where
  pub least : AllAmong g (basis vanishes braid m)
  pub ordered : IsOrdered g
  pub elements : AllElements braid.field g
  pub congruent : vanishes braid m (minus braid.field f g) ≡ true

-- each combination of words of m letters has exactly one normal form
abbrev pub NormalFormsAreUnique : Type 0
NormalFormsAreUnique =
    (vanishes : Vanishing) (braid : BraidValue) → IsField braid.field → (m : ℕ) → IsLinearTest braid.field (vanishes braid m) →
    (f : Combination) → HasDegree m f → IsOver braid.letters f →
    IsNormalForm vanishes braid m f (normal_form vanishes braid m f) × ((g : Combination) → IsNormalForm vanishes braid m f g → normal_form vanishes braid m f ≡ g)

-- the normal form of a word has no word behind it; that of a word that isn't least has only words before it
abbrev pub NormalFormsLookBack : Type 0
NormalFormsLookBack =
    (vanishes : Vanishing) (braid : BraidValue) → IsField braid.field → (w : List ℕ) → IsWordOver braid.letters w → IsLinearTest braid.field (vanishes braid (length w)) →
    AllByRecursion (λ t. word_cmp t.word w ≢ Greater) (normal_form vanishes braid (length w) (single w))
    × (is_least vanishes braid w ≡ false → IsOfEarlierWords braid w (normal_form vanishes braid (length w) (single w)))

-- two combinations are one in the algebra exactly where their normal forms are one
abbrev pub NormalFormsTellClasses : Type 0
NormalFormsTellClasses =
    (vanishes : Vanishing) (braid : BraidValue) → IsField braid.field → (m : ℕ) → IsLinearTest braid.field (vanishes braid m) →
    (f g : Combination) → HasDegree m f → IsOver braid.letters f → HasDegree m g → IsOver braid.letters g →
    (vanishes braid m (minus braid.field f g) ≡ true → normal_form vanishes braid m f ≡ normal_form vanishes braid m g)
    × (normal_form vanishes braid m f ≡ normal_form vanishes braid m g → vanishes braid m (minus braid.field f g) ≡ true)

-- a combination is zero in the algebra exactly where its normal form has no terms
abbrev pub ZeroHasNoTerms : Type 0
ZeroHasNoTerms =
    (vanishes : Vanishing) (braid : BraidValue) → IsField braid.field → (m : ℕ) → IsLinearTest braid.field (vanishes braid m) →
    (f : Combination) → HasDegree m f → IsOver braid.letters f →
    (vanishes braid m f ≡ true → normal_form vanishes braid m f ≡ []) × (normal_form vanishes braid m f ≡ [] → vanishes braid m f ≡ true)

-- the normal form of a sum has the values of the sum of the normal forms
pub record IsLinearOnDegree (vanishes : Vanishing) (braid : BraidValue) (m : ℕ) : Type 0 where
  pub sums : (f g : Combination) → HasDegree m f → IsOver braid.letters f → HasDegree m g → IsOver braid.letters g →
      HasSameValues braid.field (normal_form vanishes braid m (f ++ g)) (normal_form vanishes braid m f ++ normal_form vanishes braid m g)
  pub multiples : (c : ℕ) (f : Combination) → HasDegree m f → IsOver braid.letters f →
      HasSameValues braid.field (normal_form vanishes braid m (scalar_multiple braid.field c f)) (scalar_multiple braid.field c (normal_form vanishes braid m f))

-- the normal form is a linear map
abbrev pub NormalFormIsLinear : Type 0
NormalFormIsLinear =
    (vanishes : Vanishing) (braid : BraidValue) → IsField braid.field → (m : ℕ) → IsLinearTest braid.field (vanishes braid m) → IsLinearOnDegree vanishes braid m

-- a least word is its own normal form
abbrev pub LeastWordsAreNormal : Type 0
LeastWordsAreNormal =
    (vanishes : Vanishing) (braid : BraidValue) → IsField braid.field → (m : ℕ) → IsLinearTest braid.field (vanishes braid m) →
    (w : List ℕ) → Contains (basis vanishes braid m) w → normal_form vanishes braid m (single w) ≡ single w

-- ---- two tests

-- the tests agree on the combinations of words of m letters, for each m
abbrev pub AgreeOnDegrees : Vanishing → Vanishing → BraidValue → Type 0
AgreeOnDegrees vanishes other braid = (m : ℕ) (f : Combination) → HasDegree m f → IsOver braid.letters f → vanishes braid m f ≡ other braid m f

-- all that is read in a test is the same for both
pub record AreReadAlike (vanishes other : Vanishing) (braid : BraidValue) : Type 0 where
  pub least : (w : List ℕ) → IsWordOver braid.letters w → is_least vanishes braid w ≡ is_least other braid w
  pub bases : (m : ℕ) → basis vanishes braid m ≡ basis other braid m
  pub forms : (m : ℕ) (f : Combination) → HasDegree m f → IsOver braid.letters f → normal_form vanishes braid m f ≡ normal_form other braid m f
  pub candidate_lists : (m : ℕ) → candidates vanishes braid m ≡ candidates other braid m
  pub relation_lists : (m : ℕ) → relations vanishes braid m ≡ relations other braid m

-- tests that agree have the same least words, bases, normal forms, candidates and relations
abbrev pub AgreeingTestsReadAlike : Type 0
AgreeingTestsReadAlike = (vanishes other : Vanishing) (braid : BraidValue) → AgreeOnDegrees vanishes other braid → AreReadAlike vanishes other braid

-- ---- candidates

-- each least word is a candidate: the basis has the least words among the candidates
abbrev pub BasisIsAmongCandidates : Type 0
BasisIsAmongCandidates =
    (vanishes : Vanishing) (braid : BraidValue) → IsField braid.field → IsRightIdealTest braid (vanishes braid) →
    (m : ℕ) → basis vanishes braid m ≡ filter (is_least vanishes braid) (candidates vanishes braid m)

-- the candidates of the relations of a degree rise
abbrev pub RelationsRise : Type 0
RelationsRise = (vanishes : Vanishing) (braid : BraidValue) (m : ℕ) → IsRising (map (λ r. r.candidate) (relations vanishes braid m))
