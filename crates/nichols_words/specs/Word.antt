-- What holds of each word that the program keeps.
use Rattle.std.specs.Prelude.{ℕ, ◌≤◌, List, length}
use Rattle.nichols_tensor.specs.declared.TheConstants.{LETTER_LIMIT, WORD_LIMIT}
use Rattle.nichols_tensor.specs.Words.{IsWordOver}

-- a word is no longer than a word may be, and each of its letters is one that a braid may have
pub record IsWord (w : List ℕ) : Type 0 where
  pub short : length w ≤ WORD_LIMIT
  pub letters : IsWordOver LETTER_LIMIT w
