-- How much of a document a command reads.
use Rattle.std.specs.Prelude.{ℕ, List, Option, None, Some, option_and_then}
use Rattle.nichols_command.specs.Command.{command_of}
use Rattle.nichols_command.specs.declared.command.Command.{Command}
use Rattle.nichols_command.specs.declared.command.Command.TheVariants.{OnDocument, Points}
use Rattle.nichols_input.specs.declared.TheConstants.{DOCUMENT_LIMIT}

-- the most bytes of a command's document; without a limit it has none, and nothing is read
abbrev pub document_limit : Command → Option ℕ
document_limit (OnDocument task) = Some DOCUMENT_LIMIT
document_limit (Points k options) = None

-- the most bytes of the document that words ask for, where they ask for one
abbrev pub read_limit : List (List ℕ) → Option ℕ
read_limit words = option_and_then document_limit (command_of words)
