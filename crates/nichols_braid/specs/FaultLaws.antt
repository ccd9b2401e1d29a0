-- What the laws of first answers say: which fault a search along letters finds.
use Rattle.std.specs.Prelude.{◌≡◌, ℕ, ◌<◌, List, ◌∷◌, ◌++◌, Option, None, Some, ◌⊎◌, ◌↔◌}
use Rattle.std.specs.List.{Contains}
use Rattle.nichols_tensor.specs.Words.{IsLetterOf}
use Rattle.nichols_braid.specs.Faults.{first_answer, first_triple}

-- the answer of some entry, where no entry before it has any
pub record IsFirstAnswer {X : Type 0} (f : ℕ → Option X) (xs : List ℕ) (answer : X) : Type 0 where
  pub before : List ℕ
  pub entry : ℕ
  pub after : List ℕ
  pub whole : xs ≡ before ++ entry ∷ after
  pub answers : f entry ≡ Some answer
  pub none : (x : ℕ) → Contains before x → f x ≡ None

-- a search along a list finds the answer of the first entry that has one, and nothing exactly where none has
abbrev pub FirstAnswersAreLeast : Type 0 → Type 0
FirstAnswersAreLeast X =
    (f : ℕ → Option X) (xs : List ℕ) →
    ((answer : X) → (first_answer f xs ≡ Some answer) ↔ IsFirstAnswer f xs answer) × ((first_answer f xs ≡ None) ↔ ((x : ℕ) → Contains xs x → f x ≡ None))

-- a, b, c come before i, j, k in lexicographic order
abbrev pub IsEarlierTriple : ℕ → ℕ → ℕ → ℕ → ℕ → ℕ → Type 0
IsEarlierTriple a b c i j k = (a < i) ⊎ ((a ≡ i) × ((b < j) ⊎ ((b ≡ j) × (c < k))))

-- the answer at some three letters, where no three letters before them have any
pub record IsFirstTriple {X : Type 0} (n : ℕ) (f : ℕ → ℕ → ℕ → Option X) (answer : X) : Type 0 where
  pub i : ℕ
  pub j : ℕ
  pub k : ℕ
  pub first : IsLetterOf n i
  pub second : IsLetterOf n j
  pub third : IsLetterOf n k
  pub answers : f i j k ≡ Some answer
  pub none : (a b c : ℕ) → IsLetterOf n a → IsLetterOf n b → IsLetterOf n c → IsEarlierTriple a b c i j k → f a b c ≡ None

-- the same at three letters
abbrev pub FirstTriplesAreLeast : Type 0 → Type 0
FirstTriplesAreLeast X =
    (n : ℕ) (f : ℕ → ℕ → ℕ → Option X) →
    ((answer : X) → (first_triple n f ≡ Some answer) ↔ IsFirstTriple n f answer)
    × ((first_triple n f ≡ None) ↔ ((i j k : ℕ) → IsLetterOf n i → IsLetterOf n j → IsLetterOf n k → f i j k ≡ None))
