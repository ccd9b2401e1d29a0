-- The report of a command, by the document that it reads.
use Rattle.std.proofs.Common.{◌≡◌, List, ℕ, refl, sym, subst, Some, None, Ok, Err}
use Rattle.std.specs.Prelude.{Option, Result, IfSome, option_map}
use Rattle.nichols_command.specs.declared.command.Command.{Command}
use Rattle.nichols_command.specs.declared.command.Command.TheVariants.{OnDocument, Points}
use Rattle.nichols_command.specs.declared.command.Task.{Task}
use Rattle.nichols_input.specs.Document.{DocumentValue, document_in}
use Rattle.nichols_input.specs.Refusal.{Refusal}
use Rattle.nichols_text.specs.Refusals.{document_line}
use Rattle.nichols_top.specs.Due.{task_due, unless_refused, command_due}
use Rattle.nichols_top.specs.Input.{document_limit}
use Rattle.nichols_top.specs.Report.{line_report}
use Rattle.nichols_top.specs.Written.{Written, Writes}
use Rattle.nichols_top.specs.declared.status.Status.{Status}
use Rattle.nichols_top.specs.declared.status.Status.TheVariants.{Refused}
use Rattle.nichols_top.specs.declared.writer.Break.{Break}
use Rattle.nichols_top.specs.declared.writer.Break.TheVariants.{Memory}
use Rattle.nichols_top.proofs.Statuses.{command_report}
use Rattle.nichols_top.proofs.Taking.{no_memory_first}

-- a document that isn't refused
pub task_written : (task : Task) (bytes : List ℕ) (document : DocumentValue) (before after : Written) (answer : Result Status Break) → document_in bytes ≡ Ok document →
    Writes (task_due task document) before after answer → Writes (command_due (OnDocument task) bytes) before after answer
unfolding command_due
task_written task bytes document before after answer e w = subst (λ r. Writes (unless_refused (task_due task) r) before after answer) (sym e) w

-- a document that is refused, or for which there was no memory
pub refusal_written : (task : Task) (bytes : List ℕ) (told : Option Refusal) (before after : Written) (answer : Result Status Break) → IfSome told (λ refusal. document_in bytes ≡ Err refusal) →
    IfSome (option_map document_line told) (λ line. Writes (line_report line Refused) before after answer) → (option_map document_line told ≡ None → (answer ≡ Err Memory) × (after ≡ before)) → Writes (command_due (OnDocument task) bytes) before after answer
unfolding command_due
refusal_written task bytes (Some refusal) before after answer e w none = subst (λ r. Writes (unless_refused (task_due task) r) before after answer) (sym e) w
refusal_written task bytes None before after answer e w none =
    let m = none refl in
    subst (λ r. Writes (command_due (OnDocument task) bytes) before after r) (sym m.0)
    (subst (λ v. Writes (command_due (OnDocument task) bytes) before v (Err Memory)) (sym m.1) (no_memory_first (command_report (OnDocument task) bytes).some))

-- a command that reads nothing has one report for all documents
pub unread_alike : (command : Command) (a b : List ℕ) → document_limit command ≡ None → command_due command a ≡ command_due command b
unfolding command_due
unread_alike (OnDocument task) a b none = cc
unread_alike (Points k options) a b none = refl
