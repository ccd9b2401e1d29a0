-- The texts that the words of a command line give to its arguments, as clap reads them.
use Rattle.std.specs.Prelude.{true, List, [], ◌∷◌, Option, None, Some, codes}
use Rattle.clap.specs.Walk.{Row, Rule, Text, first_of}
use Rattle.clap.specs.Simple.{App, new_app, new_rule, with_rule, matches_of}
use Rattle.clap.specs.Faults.{fault_of}
use Rattle.clap.specs.Kinds.{Kinds}
use Rattle.clap.specs.declared.builder.action.ArgAction.TheVariants.{SetTrue}

-- ---- the one command of the program

-- the required word of the command
abbrev pub command_rule : Rule
command_rule = record (new_rule (codes "command")) { required = true }

-- the word behind it
abbrev pub points_rule : Rule
points_rule = new_rule (codes "points")

-- an option with one value
abbrev pub value_rule : Text → Rule
value_rule name = record (new_rule name) { long = Some name }

-- a flag
abbrev pub flag_rule : Text → Rule
flag_rule name = record (value_rule name) { action = Some SetTrue }

-- the command without arguments; its words begin behind the program's name
abbrev pub no_name_app : App
no_name_app = let a : App = new_app (codes "nichols") in record a { top = record a.top { no_binary_name = true } }

-- the command with its two places
abbrev pub places_app : App
places_app = with_rule (with_rule no_name_app command_rule) points_rule

-- the whole command: it has no subcommand and no default, and no argument needs or excludes another
abbrev pub nichols_app : App
nichols_app =
    let with_degree : App = with_rule places_app (value_rule (codes "degree")) in
    let with_rows : App = with_rule with_degree (value_rule (codes "rows")) in
    let with_workers : App = with_rule with_rows (value_rule (codes "workers")) in
    let with_window : App = with_rule with_workers (value_rule (codes "window")) in
    with_rule with_window (flag_rule (codes "brief"))

-- ---- its texts

-- the text of each argument that has one; clap gives the flag `true` where it is there, and `false` where it isn't
pub record Texts : Type 0 where
  pub command : Option Text
  pub points : Option Text
  pub degree : Option Text
  pub rows : Option Text
  pub workers : Option Text
  pub window : Option Text
  pub brief : Option Text

-- the first text of each argument in what clap found
abbrev pub texts_of_rows : List Row → Texts
texts_of_rows found = record {
  command = first_of (codes "command") found;
  points = first_of (codes "points") found;
  degree = first_of (codes "degree") found;
  rows = first_of (codes "rows") found;
  workers = first_of (codes "workers") found;
  window = first_of (codes "window") found;
  brief = first_of (codes "brief") found;
}

-- the texts, where clap finds no fault
abbrev pub unless_fault : Kinds → Texts → Option Texts
unless_fault [] texts = Some texts
unless_fault (k ∷ ks) texts = None

-- the texts of the words, where clap takes them
unfoldable pub texts_of : List Text → Option Texts
texts_of words = unless_fault (fault_of nichols_app words) (texts_of_rows (matches_of nichols_app words))
