-- Command lines of the plain form, and what they ask for.
use Rattle.std.specs.Prelude.{◌≡◌, Bool, true, false, not, List, [], ◌∷◌, ◌++◌, map, codes, Option, None, Some, option_map, unwrap_or, find, ◌==◌}
use Rattle.std.specs.List.{flat_map, AllByRecursion, IsDistinct}
use Rattle.std.specs.Str.{bytes_eq}
use Rattle.clap.specs.Walk.{Text}
use Rattle.clap.specs.Faults.{fault_of}
use Rattle.nichols_command.specs.Texts.{Texts, nichols_app, texts_of}
use Rattle.nichols_command.specs.Command.{command_of, command_of_texts}

-- ---- lines

-- an option that takes a value
pub data Valued : Type 0 where
  degree : Valued
  rows : Valued
  workers : Valued
  window : Valued

-- an option as it stands on a line: with its value as the next word, with its value joined by `=`, or the flag
pub data PlainOption : Type 0 where
  apart : Valued → Text → PlainOption
  joined : Valued → Text → PlainOption
  brief : PlainOption

-- a line: the command's word, the word behind it where there is one, and the options
pub record PlainLine : Type 0 where
  pub command : Text
  pub points : Option Text
  pub options : List PlainOption

-- ---- the words of a line

abbrev pub valued_name : Valued → Text
valued_name degree = codes "degree"
valued_name rows = codes "rows"
valued_name workers = codes "workers"
valued_name window = codes "window"

abbrev pub option_words : PlainOption → List Text
option_words (apart option value) = (codes "--" ++ valued_name option) ∷ value ∷ []
option_words (joined option value) = (codes "--" ++ valued_name option ++ codes "=" ++ value) ∷ []
option_words brief = codes "--brief" ∷ []

abbrev pub optional_word : Option Text → List Text
optional_word None = []
optional_word (Some word) = word ∷ []

abbrev pub line_words : PlainLine → List Text
line_words line = line.command ∷ optional_word line.points ++ flat_map option_words line.options

-- ---- the plain form

-- whether a text isn't empty and doesn't begin with `-`
abbrev pub is_value : Text → Bool
is_value [] = false
is_value (c ∷ text) = not (c == 45)

abbrev pub option_name : PlainOption → Text
option_name (apart option value) = valued_name option
option_name (joined option value) = valued_name option
option_name brief = codes "brief"

-- what is written for an option; the flag stands for `true`
abbrev pub option_value : PlainOption → Text
option_value (apart option value) = value
option_value (joined option value) = value
option_value brief = codes "true"

-- the words and the values aren't empty and don't begin with `-`, and each option is there at most once
pub record IsPlain (line : PlainLine) : Type 0 where
  pub command : is_value line.command ≡ true
  pub points : AllByRecursion (λ word. is_value word ≡ true) (optional_word line.points)
  pub options : AllByRecursion (λ option. is_value (option_value option) ≡ true) line.options
  pub once : IsDistinct bytes_eq (map option_name line.options)

-- ---- what a line asks for

-- what is written for the option with this name, where it is there, wherever it stands and in whichever form
abbrev pub option_value_at : Text → List PlainOption → Option Text
option_value_at name options = option_map option_value (find (λ option. bytes_eq (option_name option) name) options)

-- the texts of a line: its words and values as they are written
abbrev pub line_texts : PlainLine → Texts
line_texts line = record {
  command = Some line.command;
  points = line.points;
  degree = option_value_at (codes "degree") line.options;
  rows = option_value_at (codes "rows") line.options;
  workers = option_value_at (codes "workers") line.options;
  window = option_value_at (codes "window") line.options;
  brief = Some (unwrap_or (option_value_at (codes "brief") line.options) (codes "false"));
}

-- clap finds no fault in a plain line, and takes its values as they are written
abbrev pub PlainLinesAreTaken : Type 0
PlainLinesAreTaken = (line : PlainLine) → IsPlain line → (fault_of nichols_app (line_words line) ≡ []) × (texts_of (line_words line) ≡ Some (line_texts line))

-- so the command that a plain line is depends on its values alone
abbrev pub PlainLinesAreCommands : Type 0
PlainLinesAreCommands = (line : PlainLine) → IsPlain line → command_of (line_words line) ≡ command_of_texts (line_texts line)
