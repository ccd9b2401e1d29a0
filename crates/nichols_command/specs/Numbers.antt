-- The numbers of the command line.
use Rattle.std.specs.Prelude.{ℕ, ◌-◌, ◌+◌, ◌*◌, Bool, ◌&&◌, List, length, Option, None, Some, option_and_then, if◌then◌else◌, nat_le}
use Rattle.std.specs.List.{fold, list_all}
use Rattle.std.specs.Char.{is_ascii_digit}
use Rattle.nichols_command.specs.declared.limits.TheConstants.{DIGITS_MOST}

-- the number that some digits write
unfoldable pub digits_value : List ℕ → ℕ
digits_value text = fold (λ n c. n * 10 + (c - 48)) 0 text

-- whether a text is ASCII digits, one at least and no more than a number may have
abbrev pub is_short_number : List ℕ → Bool
is_short_number text = nat_le 1 (length text) && nat_le (length text) DIGITS_MOST && list_all is_ascii_digit text

-- the number that such a text writes
abbrev pub short_number : List ℕ → Option ℕ
short_number text = if is_short_number text then Some (digits_value text) else None

-- a number, where it is one from least to most
abbrev pub in_range : ℕ → ℕ → ℕ → Option ℕ
in_range least most n = if nat_le least n && nat_le n most then Some n else None

-- the number of an option: the default where it isn't there, and otherwise what its text writes, in the range
abbrev pub option_number : ℕ → ℕ → ℕ → Option (List ℕ) → Option ℕ
option_number least most default None = Some default
option_number least most default (Some text) = option_and_then (in_range least most) (short_number text)
