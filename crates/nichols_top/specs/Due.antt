-- The report that is due for the words of a command line and a document.
use Rattle.std.specs.Prelude.{ℕ, Bool, false, List, length, Option, None, Some, Result, Ok, Err, if◌then◌else◌, nat_lt}
use Rattle.nichols_tensor.specs.Words.{up_to}
use Rattle.nichols_braid.specs.Points.{points_braid}
use Rattle.nichols_command.specs.Command.{command_of}
use Rattle.nichols_command.specs.declared.command.Command.{Command}
use Rattle.nichols_command.specs.declared.command.Command.TheVariants.{OnDocument, Points}
use Rattle.nichols_command.specs.declared.command.Task.{Task}
use Rattle.nichols_command.specs.declared.command.Task.TheVariants.{Algebra, Reduce, Symmetrize, Product, Table, Cover}
use Rattle.nichols_input.specs.Document.{DocumentValue, document_in}
use Rattle.nichols_input.specs.Refusal.{Refusal}
use Rattle.nichols_text.specs.Lines.{usage_text}
use Rattle.nichols_text.specs.Refusals.{document_line, too_long_text}
use Rattle.nichols_top.specs.Algebra.{scope_of, in_brief, algebra_due}
use Rattle.nichols_top.specs.Cover.{cover_due}
use Rattle.nichols_top.specs.Input.{document_limit}
use Rattle.nichols_top.specs.Product.{product_due}
use Rattle.nichols_top.specs.Reduce.{reduce_due}
use Rattle.nichols_top.specs.Report.{Report, line_report}
use Rattle.nichols_top.specs.Symmetrize.{symmetrize_due}
use Rattle.nichols_top.specs.Table.{table_due}
use Rattle.nichols_top.specs.declared.status.Status.TheVariants.{Usage, Refused}

-- a report of a document, or the line of its refusal
abbrev pub unless_refused : (DocumentValue → Report) → Result DocumentValue Refusal → Report
unless_refused report (Ok document) = report document
unless_refused report (Err refusal) = line_report (document_line refusal) Refused

-- the report of a document that isn't refused
unfoldable pub task_due : Task → DocumentValue → Report
task_due (Algebra options) document = algebra_due document.braid document.order (scope_of options)
task_due (Reduce options) document = reduce_due document (scope_of options)
task_due Symmetrize document = symmetrize_due document
task_due (Product options) document = product_due document (scope_of options)
task_due (Table options) document = table_due document.braid document.order (scope_of options)
task_due (Cover options) document = cover_due document.braid document.order (scope_of options)

-- the report of a command for its document
unfoldable pub command_due : Command → List ℕ → Report
command_due (OnDocument task) document = unless_refused (task_due task) (document_in document)
command_due (Points k options) document = algebra_due (points_braid k) (up_to (points_braid k).letters) (in_brief (scope_of options))

-- whether a document is longer than a limit, where there is one
abbrev pub is_too_long : Option ℕ → List ℕ → Bool
is_too_long None document = false
is_too_long (Some limit) document = nat_lt limit (length document)

abbrev pub due_under : Option Command → List ℕ → Report
due_under None document = line_report usage_text Usage
due_under (Some command) document = if is_too_long (document_limit command) document then line_report too_long_text Refused else command_due command document

-- the report that is due
unfoldable pub due : List (List ℕ) → List ℕ → Report
due words document = due_under (command_of words) document
