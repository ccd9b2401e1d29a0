-- The statuses of the reports that are due.
use Rattle.std.proofs.Common.{◌≡◌, ◌≢◌, ℕ, zero, suc, ◌<◌, ◌≤◌, ◌-◌, Bool, true, false, cond, length, List, [], ◌∷◌, ◌++◌, refl, sym, ◌∙◌, ap, arith, length-append, Some, None, Ok, Err}
use Rattle.std.specs.Prelude.{Option, Result, IfSome}
use Rattle.nichols_tensor.specs.Words.{up_to}
use Rattle.nichols_braid.specs.Braid.{BraidValue}
use Rattle.nichols_braid.specs.Points.{points_braid}
use Rattle.nichols_command.specs.Command.{command_of}
use Rattle.nichols_command.specs.declared.command.Command.{Command}
use Rattle.nichols_command.specs.declared.command.Command.TheVariants.{OnDocument, Points}
use Rattle.nichols_command.specs.declared.command.Task.{Task}
use Rattle.nichols_command.specs.declared.command.Task.TheVariants.{Algebra, Reduce, Symmetrize, Product, Table, Cover}
use Rattle.nichols_cover.specs.Cover.{StopValue}
use Rattle.nichols_graded.specs.declared.ends.Stop.{Stop}
use Rattle.nichols_input.specs.Document.{DocumentValue, document_in}
use Rattle.nichols_input.specs.Refusal.{Refusal}
use Rattle.nichols_text.specs.Refusals.{document_line, too_long_text}
use Rattle.nichols_top.specs.Algebra.{Scope, scope_of, in_brief, degrees_in, stop_in, pieces_due, algebra_due, status_of}
use Rattle.nichols_top.specs.Cover.{cover_due, cover_piece, cover_status, cover_through}
use Rattle.nichols_top.specs.Due.{task_due, unless_refused, command_due, is_too_long, due_under, due}
use Rattle.nichols_top.specs.Input.{document_limit}
use Rattle.nichols_top.specs.Product.{first_products_due, product_due}
use Rattle.nichols_top.specs.Reduce.{forms_due, reduce_due}
use Rattle.nichols_top.specs.Report.{Piece, Report, line_report}
use Rattle.nichols_top.specs.Status.{code}
use Rattle.nichols_top.specs.Symmetrize.{first_long, images_due, unless_long, symmetrize_due}
use Rattle.nichols_top.specs.Table.{table_at, table_due}
use Rattle.nichols_top.specs.Written.{Written, Writes}
use Rattle.nichols_top.specs.declared.status.Status.{Status}
use Rattle.nichols_top.specs.declared.status.Status.TheVariants.{Complete, Usage, Refused, Stopped, ReadFault, WriteFault, Memory}
use Rattle.nichols_top.specs.declared.writer.Break.TheVariants as broken
use Rattle.nichols_top.proofs.Taking.{no_memory_first}

-- ---- exit statuses tell the statuses

status_at : ℕ → Status
status_at zero = Complete
status_at (suc zero) = Usage
status_at (suc (suc zero)) = Refused
status_at (suc (suc (suc zero))) = Stopped
status_at (suc (suc (suc (suc zero)))) = ReadFault
status_at (suc (suc (suc (suc (suc zero))))) = WriteFault
status_at (suc (suc (suc (suc (suc (suc n)))))) = Memory

status_back : (s : Status) → status_at (code s) ≡ s
unfolding status_at
status_back Complete = refl
status_back Usage = refl
status_back Refused = refl
status_back Stopped = refl
status_back ReadFault = refl
status_back WriteFault = refl
status_back Memory = refl

pub same_status : (s t : Status) → code s ≡ code t → s ≡ t
same_status s t e = sym (status_back s) ∙ ap status_at e ∙ status_back t

pub code_most : (s : Status) → code s ≤ 6
code_most Complete = omega arith
code_most Usage = omega arith
code_most Refused = omega arith
code_most Stopped = omega arith
code_most ReadFault = omega arith
code_most WriteFault = omega arith
code_most Memory = omega arith

-- ---- reports that are due

-- the statuses and pieces of the report of a command
pub record IsReport (report : Report) : Type 0 where
  pub not_usage : report.status ≢ Usage
  pub not_read : report.status ≢ ReadFault
  pub not_write : report.status ≢ WriteFault
  pub some : 0 < length report.pieces

-- a report of some pieces, with a status that is none of these
report_of : (report : Report) (status : Status) → report.status ≡ status → status ≢ Usage → status ≢ ReadFault → status ≢ WriteFault → 0 < length report.pieces → IsReport report
report_of report status is not_usage not_read not_write some = record {
  not_usage = λ e. not_usage (sym is ∙ e);
  not_read = λ e. not_read (sym is ∙ e);
  not_write = λ e. not_write (sym is ∙ e);
  some = some;
}

-- the report of an algebra, by what stops it
at_end : (pieces : List Piece) (e : Option Stop) → 0 < length pieces → IsReport (record { pieces = pieces; status = status_of e })
at_end pieces None some = report_of _ Complete refl (λ e. cc) (λ e. cc) (λ e. cc) some
at_end pieces (Some s) some = report_of _ Stopped refl (λ e. cc) (λ e. cc) (λ e. cc) some

pub some_pieces : (braid : BraidValue) (order : List ℕ) (scope : Scope) → 0 < length (pieces_due braid order scope)
unfolding pieces_due
some_pieces braid order scope = omega arith

algebra_report : (braid : BraidValue) (order : List ℕ) (scope : Scope) → IsReport (algebra_due braid order scope)
unfolding algebra_due
algebra_report braid order scope = at_end (pieces_due braid order scope) (stop_in braid scope) (some_pieces braid order scope)

reduce_report : (document : DocumentValue) (scope : Scope) → IsReport (reduce_due document scope)
unfolding reduce_due
reduce_report document scope =
    at_end (pieces_due document.braid document.order scope ++ forms_due document scope) (stop_in document.braid scope)
    (let some = some_pieces document.braid document.order scope in omega (arith, length-append (pieces_due document.braid document.order scope) (forms_due document scope), some))

product_report : (document : DocumentValue) (scope : Scope) → IsReport (product_due document scope)
unfolding product_due
product_report document scope =
    at_end (pieces_due document.braid document.order scope ++ first_products_due document scope) (stop_in document.braid scope)
    (let some = some_pieces document.braid document.order scope in omega (arith, length-append (pieces_due document.braid document.order scope) (first_products_due document scope), some))

refused_report : (line : List ℕ) → IsReport (line_report line Refused)
refused_report line = report_of _ Refused refl (λ e. cc) (λ e. cc) (λ e. cc) (omega arith)

symmetrize_report : (document : DocumentValue) → IsReport (symmetrize_due document)
unfolding symmetrize_due
symmetrize_report document = at (first_long 1 document.expressions)
  where
    at : (o : Option ℕ) → IsReport (unless_long o (images_due document))
    at None = report_of _ Complete refl (λ e. cc) (λ e. cc) (λ e. cc) (omega arith)
    at (Some k) = refused_report _

cover_report : (braid : BraidValue) (order : List ℕ) (scope : Scope) → IsReport (cover_due braid order scope)
unfolding cover_due
cover_report braid order scope = at (stop_in braid scope) (cover_through braid (length (degrees_in braid scope) - 1)).stop
  where
    ps : List Piece
    ps = pieces_due braid order (in_brief scope) ++ cover_piece braid (length (degrees_in braid scope) - 1) ∷ []

    some : 0 < length ps
    some = omega (arith, length-append (pieces_due braid order (in_brief scope)) (cover_piece braid (length (degrees_in braid scope) - 1) ∷ []))

    at : (e : Option Stop) (s : Option StopValue) → IsReport (record { pieces = ps; status = cover_status e s })
    at None None = report_of _ Complete refl (λ e. cc) (λ e. cc) (λ e. cc) some
    at None (Some s) = report_of _ Stopped refl (λ e. cc) (λ e. cc) (λ e. cc) some
    at (Some t) s = report_of _ Stopped refl (λ e. cc) (λ e. cc) (λ e. cc) some

table_report : (braid : BraidValue) (order : List ℕ) (scope : Scope) → IsReport (table_due braid order scope)
unfolding table_due
table_report braid order scope =
    at_end (pieces_due braid order (in_brief scope) ++ table_at braid order (stop_in braid scope) (degrees_in braid scope)) (stop_in braid scope)
    (let some = some_pieces braid order (in_brief scope) in omega (arith, length-append (pieces_due braid order (in_brief scope)) (table_at braid order (stop_in braid scope) (degrees_in braid scope)), some))

task_report : (task : Task) (document : DocumentValue) → IsReport (task_due task document)
unfolding task_due
task_report (Algebra options) document = algebra_report document.braid document.order (scope_of options)
task_report (Reduce options) document = reduce_report document (scope_of options)
task_report Symmetrize document = symmetrize_report document
task_report (Product options) document = product_report document (scope_of options)
task_report (Table options) document = table_report document.braid document.order (scope_of options)
task_report (Cover options) document = cover_report document.braid document.order (scope_of options)

pub command_report : (command : Command) (document : List ℕ) → IsReport (command_due command document)
unfolding command_due
command_report (OnDocument task) document = at (document_in document)
  where
    at : (r : Result DocumentValue Refusal) → IsReport (unless_refused (task_due task) r)
    at (Ok d) = task_report task d
    at (Err refusal) = refused_report (document_line refusal)
command_report (Points k options) document = algebra_report (points_braid k) (up_to (points_braid k).letters) (in_brief (scope_of options))

-- the same of the report that is due, but for the usage line of words that aren't a command
pub record IsDue (words : List (List ℕ)) (report : Report) : Type 0 where
  pub usage : report.status ≡ Usage → command_of words ≡ None
  pub not_read : report.status ≢ ReadFault
  pub not_write : report.status ≢ WriteFault
  pub some : 0 < length report.pieces

pub is_due : (words : List (List ℕ)) (document : List ℕ) → IsDue words (due words document)
unfolding due
is_due words document = at (command_of words) refl
  where
    of_report : (report : Report) → IsReport report → IsDue words report
    of_report report r = record { usage = λ e. absurd (r.not_usage e); not_read = r.not_read; not_write = r.not_write; some = r.some }

    limited : (command : Command) (long : Bool) → IsDue words (cond long (line_report too_long_text Refused) (command_due command document))
    limited command true = of_report _ (refused_report too_long_text)
    limited command false = of_report _ (command_report command document)

    at : (o : Option Command) → command_of words ≡ o → IsDue words (due_under o document)
    at None none = record { usage = λ e. none; not_read = λ e. cc; not_write = λ e. cc; some = omega arith }
    at (Some command) e = limited command (is_too_long (document_limit command) document)

-- ---- where there was no memory for the first piece

pub algebra_unwritten : (braid : BraidValue) (order : List ℕ) (scope : Scope) (at : Written) → Writes (algebra_due braid order scope) at at (Err broken.Memory)
unfolding algebra_due
algebra_unwritten braid order scope at = no_memory_first (some_pieces braid order scope)

pub refusal_unwritten : (line : Option (List ℕ)) (at : Written) → IfSome line (λ text. Writes (line_report text Refused) at at (Err broken.Memory))
refusal_unwritten None at = tt
refusal_unwritten (Some text) at = no_memory_first (omega arith)
