-- What the laws of this crate say.
use Rattle.std.specs.Prelude.{◌≡◌, ◌↔◌, ◌<◌, ℕ, suc, List, ◌∷◌, ◌++◌, length, None, Some, IsSome}
use Rattle.std.specs.List.{Contains}
use Rattle.nichols_tensor.specs.Combination.{Combination, Term}
use Rattle.nichols_lift.specs.declared.TheConstants.{PLACE_LIMIT}
use Rattle.nichols_command.specs.Command.{command_of}
use Rattle.nichols_command.specs.Texts.{Texts, texts_of}
use Rattle.nichols_top.specs.Due.{due}
use Rattle.nichols_top.specs.Symmetrize.{first_long}

-- ---- workers and window

-- two command lines give the same to each argument, but for `--workers` and `--window`
pub record DifferInWorkersAndWindow (texts others : Texts) : Type 0 where
  pub command : texts.command ≡ others.command
  pub points : texts.points ≡ others.points
  pub degree : texts.degree ≡ others.degree
  pub rows : texts.rows ≡ others.rows
  pub brief : texts.brief ≡ others.brief

-- two command lines that are commands, and differ in workers and window alone, have one report for each document
abbrev pub WorkersAndWindowLeaveTheReport : Type 0
WorkersAndWindowLeaveTheReport =
    (words more : List (List ℕ)) (texts others : Texts) → texts_of words ≡ Some texts → texts_of more ≡ Some others → IsSome (command_of words) → IsSome (command_of more) → DifferInWorkersAndWindow texts others →
    (document : List ℕ) → due words document ≡ due more document

-- ---- long expressions

-- an expression has a word of more letters than the sum over all permutations is made for
abbrev pub IsLong : Combination → Type 0
IsLong f = (t : Term) × Contains f t × (PLACE_LIMIT < length t.word)

-- no expression of a list has
abbrev pub AreShort : List Combination → Type 0
AreShort fs = (f : Combination) → Contains fs f → IsLong f → ⊥

-- the first of some expressions that has, and its number, which counts from 1
pub record IsFirstLong (fs : List Combination) (number : ℕ) : Type 0 where
  pub before : List Combination
  pub expression : Combination
  pub behind : List Combination
  pub listed : fs ≡ before ++ expression ∷ behind
  pub short : AreShort before
  pub long : IsLong expression
  pub place : number ≡ suc (length before)

-- the number that is told is that of the first long expression, and none is told exactly where none is long
pub record IsLongTheFirst (fs : List Combination) : Type 0 where
  pub number : (number : ℕ) → (first_long 1 fs ≡ Some number) ↔ IsFirstLong fs number
  pub none : (first_long 1 fs ≡ None) ↔ AreShort fs

abbrev pub LongExpressionsAreFirst : Type 0
LongExpressionsAreFirst = (fs : List Combination) → IsLongTheFirst fs
