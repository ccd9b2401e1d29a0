-- The word order: by length, and then by letters from the left.
use Rattle.std.specs.Prelude.{◌≡◌, ℕ, List, length}
use Rattle.std.specs.Ordering.{nat_cmp, on, then_cmp}
use Rattle.std.specs.Cmp.Lexicographic.{slice_cmp}
use Rattle.std.specs.declared.cmp.Ordering.{Ordering}
use Rattle.std.specs.declared.cmp.Ordering.TheVariants.{Less}
use Rattle.nichols_tensor.specs.Combination.{Combination, words_of, AllNonzero}
use Rattle.nichols_tensor.specs.Rising.{IsBeforeFirst, IsRisingBy}

-- the word order
abbrev pub word_cmp : List ℕ → List ℕ → Ordering
word_cmp = then_cmp (on length nat_cmp) (slice_cmp nat_cmp)

-- the word stands before the first of the list, if there is one
abbrev pub IsBelowFirst : List ℕ → List (List ℕ) → Type 0
IsBelowFirst w ws = IsBeforeFirst (λ v u. word_cmp v u ≡ Less) w ws

-- each word stands before the next
abbrev pub IsRising : List (List ℕ) → Type 0
IsRising ws = IsRisingBy (λ v w. word_cmp v w ≡ Less) ws

-- the shape in which combinations are kept: the words rise, and no coefficient is 0
pub record IsOrdered (f : Combination) : Type 0 where
  pub rising : IsRising (words_of f)
  pub nonzero : AllNonzero f
