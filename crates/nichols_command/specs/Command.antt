-- The command of the words of a command line.
use Rattle.std.specs.Prelude.{⊤, ℕ, ◌≤◌, Bool, false, List, codes, Option, None, Some, option_map, option_and_then, if◌then◌else◌}
use Rattle.std.specs.Str.{bytes_eq}
use Rattle.nichols_braid.specs.declared.TheConstants.{MOST_DEGREES, MOST_ROWS, POINTS_LEAST, POINTS_MOST}
use Rattle.nichols_command.specs.Numbers.{in_range, short_number, option_number}
use Rattle.nichols_command.specs.Texts.{Texts, texts_of}
use Rattle.nichols_command.specs.declared.command.Options.{Options}
use Rattle.nichols_command.specs.declared.command.Command.{Command}
use Rattle.nichols_command.specs.declared.command.Command.TheVariants.{OnDocument, Points}
use Rattle.nichols_command.specs.declared.command.Task.{Task}
use Rattle.nichols_command.specs.declared.command.Task.TheVariants.{Algebra, Reduce, Symmetrize, Product, Table, Cover}
use Rattle.nichols_command.specs.declared.limits.TheConstants.{DEGREE_DEFAULT, ROWS_DEFAULT, WORKERS_DEFAULT, WORKERS_MOST, WINDOW_DEFAULT, WINDOW_MOST}

-- ---- the options

-- whether a flag's text says that it is set
abbrev pub is_set : Option (List ℕ) → Bool
is_set None = false
is_set (Some text) = bytes_eq text (codes "true")

-- the options with these numbers, where all of them are there
abbrev pub all_numbers : Option ℕ → Option ℕ → Option ℕ → Option ℕ → Bool → Option Options
all_numbers (Some degree_limit) (Some rows_limit) (Some workers) (Some window) brief =
    Some (record { degree_limit = degree_limit; rows_limit = rows_limit; workers = workers; window = window; brief = brief })
all_numbers _ _ _ _ brief = None

-- the options of texts, where each number is in its range
abbrev pub options_of : Texts → Option Options
options_of texts =
    all_numbers (option_number 0 MOST_DEGREES DEGREE_DEFAULT texts.degree) (option_number 1 MOST_ROWS ROWS_DEFAULT texts.rows)
    (option_number 1 WORKERS_MOST WORKERS_DEFAULT texts.workers) (option_number 1 WINDOW_MOST WINDOW_DEFAULT texts.window) (is_set texts.brief)

-- ---- the command

-- a task, whose command goes without `points`
abbrev pub without_points : Option (List ℕ) → Task → Option Command
without_points None task = Some (OnDocument task)
without_points (Some points) task = None

-- the command of a number of points, which `points` writes
abbrev pub of_points : Option (List ℕ) → Options → Option Command
of_points None options = None
of_points (Some text) options = option_map (λ k. Points k options) (option_and_then (in_range POINTS_LEAST POINTS_MOST) (short_number text))

-- the command with this name, where there is one and its `points` are as it asks
abbrev pub command_named : List ℕ → Option (List ℕ) → Options → Option Command
command_named name points options =
    if bytes_eq name (codes "algebra") then without_points points (Algebra options)
    else if bytes_eq name (codes "reduce") then without_points points (Reduce options)
    else if bytes_eq name (codes "symmetrize") then without_points points Symmetrize
    else if bytes_eq name (codes "product") then without_points points (Product options)
    else if bytes_eq name (codes "table") then without_points points (Table options)
    else if bytes_eq name (codes "cover") then without_points points (Cover options)
    else if bytes_eq name (codes "points") then of_points points options
    else None

-- the command of texts, where there is a name and the options are right
abbrev pub named_texts : Option (List ℕ) → Option (List ℕ) → Option Options → Option Command
named_texts (Some name) points (Some options) = command_named name points options
named_texts _ points _ = None

abbrev pub command_of_texts : Texts → Option Command
command_of_texts texts = named_texts texts.command texts.points (options_of texts)

-- the command that words are: what clap reads of them, under the rules above
unfoldable pub command_of : List (List ℕ) → Option Command
command_of words = option_and_then command_of_texts (texts_of words)

-- ---- what holds of each command that words are

-- each number is in its range
pub record AreInRange (options : Options) : Type 0 where
  pub degree_limit : options.degree_limit ≤ MOST_DEGREES
  pub least_rows : 1 ≤ options.rows_limit
  pub rows_limit : options.rows_limit ≤ MOST_ROWS
  pub least_workers : 1 ≤ options.workers
  pub workers : options.workers ≤ WORKERS_MOST
  pub least_window : 1 ≤ options.window
  pub window : options.window ≤ WINDOW_MOST

-- a number of points is in its range
pub record IsNumberOfPoints (k : ℕ) : Type 0 where
  pub least : POINTS_LEAST ≤ k
  pub most : k ≤ POINTS_MOST

abbrev pub IsAcceptedTask : Task → Type 0
IsAcceptedTask (Algebra options) = AreInRange options
IsAcceptedTask (Reduce options) = AreInRange options
IsAcceptedTask Symmetrize = ⊤
IsAcceptedTask (Product options) = AreInRange options
IsAcceptedTask (Table options) = AreInRange options
IsAcceptedTask (Cover options) = AreInRange options

abbrev pub IsAccepted : Command → Type 0
IsAccepted (OnDocument task) = IsAcceptedTask task
IsAccepted (Points k options) = IsNumberOfPoints k × AreInRange options
