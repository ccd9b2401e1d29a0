-- What the laws of new words say, for every test of which combinations are zero in the algebra that is linear, or an ideal test.
use Rattle.std.specs.Prelude.{◌≡◌, ℕ, suc, true, false, List, [], ◌∷◌, ◌++◌, filter, length, drop, ◌⊎◌}
use Rattle.std.specs.List.{AllByRecursion}
use Rattle.std.specs.declared.cmp.Ordering.TheVariants.{Less}
use Rattle.nichols_field.specs.Field.{IsField}
use Rattle.nichols_tensor.specs.Combination.{single}
use Rattle.nichols_tensor.specs.InOrder.{in_order}
use Rattle.nichols_tensor.specs.Words.{IsWordOver, words}
use Rattle.nichols_tensor.specs.WordOrder.{word_cmp}
use Rattle.nichols_braid.specs.Braid.{BraidValue, IsLetter}
use Rattle.nichols_braid.specs.Kernel.{Vanishing}
use Rattle.nichols_braid.specs.Least.{is_least, basis, normal_form, candidates}
use Rattle.nichols_braid.specs.LinearTest.{IsLinearTest}
use Rattle.nichols_braid.specs.RightIdealTest.{IsRightIdealTest}
use Rattle.nichols_braid.specs.LeftIdealTest.{IsLeftIdealTest}
use Rattle.nichols_braid.specs.NewWords.{is_new, new_words}
use Rattle.nichols_braid.specs.SideForms.{left_form, right_form}

-- the new word of degree 0 is the empty word, and those of degree 1 are the letters, where the empty word is least
abbrev pub FirstNewWords : Type 0
FirstNewWords =
    (vanishes : Vanishing) (braid : BraidValue) → (new_words vanishes braid 0 ≡ [] ∷ []) × (is_least vanishes braid [] ≡ true → new_words vanishes braid 1 ≡ words braid.letters 1)

-- the new words are the candidates that are least without their first letter
abbrev pub NewWordsAreCandidates : Type 0
NewWordsAreCandidates =
    (vanishes : Vanishing) (braid : BraidValue) (m : ℕ) → new_words vanishes braid (suc m) ≡ filter (λ w. is_least vanishes braid (drop 1 w)) (candidates vanishes braid (suc m))

-- each least word is new: the basis has the least words among the new ones
abbrev pub LeastWordsAreNew : Type 0
LeastWordsAreNew =
    (vanishes : Vanishing) (braid : BraidValue) → IsField braid.field → IsRightIdealTest braid (vanishes braid) → IsLeftIdealTest braid (vanishes braid) →
    ((w : List ℕ) → IsWordOver braid.letters w → is_least vanishes braid w ≡ true → is_new vanishes braid w ≡ true)
    × ((m : ℕ) → basis vanishes braid m ≡ filter (is_least vanishes braid) (new_words vanishes braid m))

-- the normal form of `a w` is its left form, put in order, for each word w of m letters
abbrev pub LeftFormsAreNormal : Type 0
LeftFormsAreNormal =
    (vanishes : Vanishing) (braid : BraidValue) → IsField braid.field → IsLeftIdealTest braid (vanishes braid) →
    (m a : ℕ) (w : List ℕ) → IsLetter braid a → length w ≡ m → IsWordOver braid.letters w →
    normal_form vanishes braid (suc m) (single (a ∷ w)) ≡ in_order braid.field (left_form vanishes braid m a w)

-- the normal form of `w b` is its right form, put in order, for each word w of m letters
abbrev pub RightFormsAreNormal : Type 0
RightFormsAreNormal =
    (vanishes : Vanishing) (braid : BraidValue) → IsField braid.field → IsRightIdealTest braid (vanishes braid) →
    (m : ℕ) (w : List ℕ) (b : ℕ) → length w ≡ m → IsWordOver braid.letters w → IsLetter braid b →
    normal_form vanishes braid (suc m) (single (w ++ b ∷ [])) ≡ in_order braid.field (right_form vanishes braid m w b)

-- with a letter in front, and with a letter behind, each word of the normal form of w stands before w with that letter
pub record ReadsEarlierWords (vanishes : Vanishing) (braid : BraidValue) (w : List ℕ) : Type 0 where
  pub left : (a : ℕ) → AllByRecursion (λ t. word_cmp (a ∷ t.word) (a ∷ w) ≡ Less) (normal_form vanishes braid (length w) (single w))
  pub right : (b : ℕ) → AllByRecursion (λ t. word_cmp (t.word ++ b ∷ []) (w ++ b ∷ []) ≡ Less) (normal_form vanishes braid (length w) (single w))

-- the left and the right form of a word, where w isn't least, are read from words before it
abbrev pub FormsReadEarlierWords : Type 0
FormsReadEarlierWords =
    (vanishes : Vanishing) (braid : BraidValue) → IsField braid.field → (w : List ℕ) → IsWordOver braid.letters w → IsLinearTest braid.field (vanishes braid (length w)) →
    is_least vanishes braid w ≡ false → ReadsEarlierWords vanishes braid w

-- w isn't least, and the normal form of `a w` is its left form, in order, which is read from words before `a w`
pub record IsReadFromLeft (vanishes : Vanishing) (braid : BraidValue) (a : ℕ) (w : List ℕ) : Type 0 where
  pub not_least : is_least vanishes braid w ≡ false
  pub form : normal_form vanishes braid (suc (length w)) (single (a ∷ w)) ≡ in_order braid.field (left_form vanishes braid (length w) a w)
  pub earlier : AllByRecursion (λ t. word_cmp (a ∷ t.word) (a ∷ w) ≡ Less) (normal_form vanishes braid (length w) (single w))

-- w isn't least, and the normal form of `w b` is its right form, in order, which is read from words before `w b`
pub record IsReadFromRight (vanishes : Vanishing) (braid : BraidValue) (w : List ℕ) (b : ℕ) : Type 0 where
  pub not_least : is_least vanishes braid w ≡ false
  pub form : normal_form vanishes braid (suc (length w)) (single (w ++ b ∷ [])) ≡ in_order braid.field (right_form vanishes braid (length w) w b)
  pub earlier : AllByRecursion (λ t. word_cmp (t.word ++ b ∷ []) (w ++ b ∷ []) ≡ Less) (normal_form vanishes braid (length w) (single w))

-- a word `a v b` that isn't new is read from the left, by the word `v b`, or from the right, by the word `a v`
abbrev pub OtherWordsAreRead : Type 0
OtherWordsAreRead =
    (vanishes : Vanishing) (braid : BraidValue) → IsField braid.field → IsRightIdealTest braid (vanishes braid) → IsLeftIdealTest braid (vanishes braid) →
    (a : ℕ) (v : List ℕ) (b : ℕ) → IsLetter braid a → IsWordOver braid.letters v → IsLetter braid b → is_new vanishes braid (a ∷ v ++ b ∷ []) ≡ false →
    IsReadFromLeft vanishes braid a (v ++ b ∷ []) ⊎ IsReadFromRight vanishes braid (a ∷ v) b
