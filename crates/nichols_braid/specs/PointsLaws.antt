-- What the laws of the transpositions of points say: their letters, and that the rack is conjugation.
use Rattle.std.specs.Prelude.{◌≡◌, ℕ, ◌<◌, ◌≤◌, ◌⊎◌}
use Rattle.nichols_field.specs.Field.{modulus_of, negative}
use Rattle.nichols_braid.specs.Braid.{IsBraid, IsLetter, act, scalar}
use Rattle.nichols_braid.specs.declared.TheConstants.{POINTS_LEAST, POINTS_MOST}
use Rattle.nichols_braid.specs.Points.{points_braid}
use Rattle.nichols_braid.specs.Transpositions.{Transposition, image_under, transpositions, number_in}

-- the transposition exchanges two of the points 1 to k, the first below the second
pub record IsTransposition (k : ℕ) (t : Transposition) : Type 0 where
  pub least : 1 ≤ t.first
  pub rising : t.first < t.second
  pub most : t.second ≤ k

-- s is before t in lexicographic order
abbrev pub IsBefore : Transposition → Transposition → Type 0
IsBefore s t = (s.first < t.first) ⊎ ((s.first ≡ t.first) × (s.second < t.second))

-- the letter of a transposition of the points 1 to k
abbrev pub letter_for : ℕ → Transposition → ℕ
letter_for k t = number_in (transpositions k) t

-- the letters are those of the transpositions, and they rise as the transpositions do
pub record HasLettersInOrder (k : ℕ) : Type 0 where
  pub letter : (t : Transposition) → IsTransposition k t → IsLetter (points_braid k) (letter_for k t)
  pub each : (i : ℕ) → IsLetter (points_braid k) i → (t : Transposition) × IsTransposition k t × (letter_for k t ≡ i)
  pub rising : (s t : Transposition) → IsTransposition k s → IsTransposition k t → IsBefore s t → letter_for k s < letter_for k t

abbrev pub LettersAreTranspositions : Type 0
LettersAreTranspositions = (k : ℕ) → HasLettersInOrder k

-- the two points of u are the images under s of the two points of t
abbrev pub HasImagesOf : Transposition → Transposition → Transposition → Type 0
HasImagesOf s t u =
    ((u.first ≡ image_under s t.first) × (u.second ≡ image_under s t.second))
    ⊎ ((u.first ≡ image_under s t.second) × (u.second ≡ image_under s t.first))

-- as maps of points, `i ▷ j` is i after j after i; and it exchanges the images under i of the two points of j
abbrev pub ActIsConjugation : Type 0
ActIsConjugation =
    (k : ℕ) (s t u : Transposition) → IsTransposition k s → IsTransposition k t → IsTransposition k u →
    act (points_braid k) (letter_for k s) (letter_for k t) ≡ letter_for k u →
    HasImagesOf s t u × ((x : ℕ) → image_under u x ≡ image_under s (image_under t (image_under s x)))

-- over 101 elements every scalar is 100, which is -1
abbrev pub ScalarsAreMinusOne : Type 0
ScalarsAreMinusOne =
    (k i j : ℕ) → IsLetter (points_braid k) i → IsLetter (points_braid k) j →
    (modulus_of (points_braid k).field ≡ 101) × (scalar (points_braid k) i j ≡ 100) × (negative (points_braid k).field 1 ≡ 100)

-- for the numbers of points that are taken it is a braid
abbrev pub PointsAreBraids : Type 0
PointsAreBraids = (k : ℕ) → POINTS_LEAST ≤ k → k ≤ POINTS_MOST → IsBraid (points_braid k)
