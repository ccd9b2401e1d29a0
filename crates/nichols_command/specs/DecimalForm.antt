-- The numbers of a command line as decimal texts.
use Rattle.std.specs.Prelude.{◌≡◌, ◌↔◌, ◌≤◌, ℕ, List, ◌++◌, length, replicate, decimal, Some}
use Rattle.nichols_command.specs.declared.limits.TheConstants.{DIGITS_MOST}
use Rattle.nichols_command.specs.Numbers.{short_number, option_number}

-- a text is the decimal text of n, with zeros in front or none, and has no more digits than a number may have; 48 is the code of `0`
pub record Writes (n : ℕ) (text : List ℕ) : Type 0 where
  pub zeros : ℕ
  pub written : text ≡ replicate zeros 48 ++ decimal n
  pub few : length text ≤ DIGITS_MOST

-- a text has the number n exactly where it writes n so
abbrev pub NumbersAreDecimal : Type 0
NumbersAreDecimal = (text : List ℕ) (n : ℕ) → (short_number text ≡ Some n) ↔ Writes n text

-- and an option that is there has the number n exactly where its text writes n so, and n is in the option's range
abbrev pub OptionsAreDecimal : Type 0
OptionsAreDecimal = (least most default : ℕ) (text : List ℕ) (n : ℕ) → (option_number least most default (Some text) ≡ Some n) ↔ (Writes n text × (least ≤ n) × (n ≤ most))
