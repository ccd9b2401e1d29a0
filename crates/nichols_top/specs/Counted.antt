-- How many blocks the shelves of a run have that answers a whole report.
use Rattle.std.specs.Prelude.{ℕ, ◌-◌, List, length, Option, None, Some, Result, Ok, Err, if◌then◌else◌}
use Rattle.nichols_braid.specs.Braid.{BraidValue}
use Rattle.nichols_braid.specs.Points.{points_braid}
use Rattle.nichols_command.specs.Command.{command_of}
use Rattle.nichols_command.specs.declared.command.Command.{Command}
use Rattle.nichols_command.specs.declared.command.Command.TheVariants.{OnDocument, Points}
use Rattle.nichols_command.specs.declared.command.Task.{Task}
use Rattle.nichols_command.specs.declared.command.Task.TheVariants.{Algebra, Reduce, Symmetrize, Product, Table, Cover}
use Rattle.nichols_crew.specs.Counting.{block_count}
use Rattle.nichols_input.specs.Document.{DocumentValue, document_in}
use Rattle.nichols_input.specs.Refusal.{Refusal}
use Rattle.nichols_top.specs.Algebra.{Scope, scope_of, degrees_in}
use Rattle.nichols_top.specs.Due.{is_too_long}
use Rattle.nichols_top.specs.Input.{document_limit}

-- the blocks of the degrees from 1 to the last finished one
abbrev pub algebra_blocks : BraidValue → Scope → ℕ
algebra_blocks braid scope = block_count braid 1 (length (degrees_in braid scope) - 1)

-- those of a document that isn't refused
unfoldable pub task_blocks : Task → DocumentValue → ℕ
task_blocks (Algebra options) document = algebra_blocks document.braid (scope_of options)
task_blocks (Reduce options) document = algebra_blocks document.braid (scope_of options)
task_blocks Symmetrize document = 0
task_blocks (Product options) document = algebra_blocks document.braid (scope_of options)
task_blocks (Table options) document = algebra_blocks document.braid (scope_of options)
task_blocks (Cover options) document = algebra_blocks document.braid (scope_of options)

abbrev pub none_if_refused : (DocumentValue → ℕ) → Result DocumentValue Refusal → ℕ
none_if_refused blocks (Ok document) = blocks document
none_if_refused blocks (Err refusal) = 0

-- those of a command for its document
unfoldable pub command_blocks : Command → List ℕ → ℕ
command_blocks (OnDocument task) document = none_if_refused (task_blocks task) (document_in document)
command_blocks (Points k options) document = algebra_blocks (points_braid k) (scope_of options)

abbrev pub blocks_under : Option Command → List ℕ → ℕ
blocks_under None document = 0
blocks_under (Some command) document = if is_too_long (document_limit command) document then 0 else command_blocks command document

-- those of a command line and its document
unfoldable pub blocks_due : List (List ℕ) → List ℕ → ℕ
blocks_due words document = blocks_under (command_of words) document
