-- The document that is read, and the report that is due for it.
use Rattle.std.proofs.Common.{◌≡◌, ℕ, ◌+◌, ◌<◌, ◌≤◌, Bool, true, false, cond, List, [], ◌++◌, length, replicate, refl, ◌∙◌, ap, arith, subst, Some, None, append-nil}
use Rattle.std.specs.Prelude.{Option, IfSome}
use Rattle.std.proofs.lemmas.Bool.Decides.{nat_tests}
use Rattle.std.proofs.lemmas.List.{length-replicate}
use Rattle.std.specs.Io.KnownBytes.{Consumes, IsAtEnd}
use Rattle.nichols_io.specs.Bytes.{IsLonger}
use Rattle.nichols_command.specs.Command.{command_of}
use Rattle.nichols_command.specs.declared.command.Command.{Command}
use Rattle.nichols_text.specs.Lines.{usage_text}
use Rattle.nichols_text.specs.Refusals.{too_long_text}
use Rattle.nichols_top.specs.Due.{command_due, is_too_long, due_under, due}
use Rattle.nichols_top.specs.Ends.{IsLeft, IsChosen, due_report}
use Rattle.nichols_top.specs.Input.{document_limit}
use Rattle.nichols_top.specs.Report.{Report, line_report}
use Rattle.nichols_top.specs.declared.status.Status.TheVariants.{Usage, Refused}

-- ---- the document

-- some document that a source may have left
pub some_document : (left : Option (List ℕ)) → (document : List ℕ) × IsLeft left document
some_document None = ([], tt)
some_document (Some bytes) = (bytes, refl)

-- what was read to the end
pub document_read : (before after : Option (List ℕ)) (items : List ℕ) → Consumes before after items → IsAtEnd after → IsLeft before items
document_read None after items h end = tt
document_read (Some bytes) None items h end = absurd h
document_read (Some bytes) (Some rest) items h end = h ∙ ap (λ zs. items ++ zs) end ∙ append-nil items

-- a document of more bytes than the limit
pub long_document : (left : Option (List ℕ)) (limit : ℕ) → IsLonger left limit → (document : List ℕ) × IsLeft left document × (limit < length document)
long_document None limit longer = (replicate (limit + 1) 0, tt, omega (arith, length-replicate {A = ℕ} (limit + 1) 0))
long_document (Some bytes) limit longer = (bytes, refl, longer)

-- ---- the report that is due

due_usage : (words : List (List ℕ)) (document : List ℕ) → command_of words ≡ None → due words document ≡ line_report usage_text Usage
unfolding due
due_usage words document none = ap (λ o. due_under o document) none

due_document : (words : List (List ℕ)) (document : List ℕ) (command : Command) (long : Bool) → command_of words ≡ Some command → is_too_long (document_limit command) document ≡ long →
    due words document ≡ cond long (line_report too_long_text Refused) (command_due command document)
unfolding due
due_document words document command long is l = ap (λ o. due_under o document) is ∙ ap (λ b. cond b (line_report too_long_text Refused) (command_due command document)) l

pub not_long : (limit : Option ℕ) (document : List ℕ) → IfSome limit (λ n. length document ≤ n) → is_too_long limit document ≡ false
not_long None document short = refl
not_long (Some n) document short = grind (arith, nat_tests)

chosen : {report : Report} {sr : Type 0} (words : List (List ℕ)) (document : List ℕ) → due words document ≡ report → IsChosen (due words document) sr report
chosen {report} {sr} words document e = subst (IsChosen (due words document) sr) e due_report

pub usage_chosen : {sr : Type 0} (words : List (List ℕ)) (document : List ℕ) → command_of words ≡ None → IsChosen (due words document) sr (line_report usage_text Usage)
usage_chosen words document none = chosen words document (due_usage words document none)

pub command_chosen : {sr : Type 0} (words : List (List ℕ)) (document : List ℕ) (command : Command) → command_of words ≡ Some command → IfSome (document_limit command) (λ n. length document ≤ n) → IsChosen (due words document) sr (command_due command document)
command_chosen words document command is short = chosen words document (due_document words document command false is (not_long (document_limit command) document short))

pub long_chosen : {sr : Type 0} (words : List (List ℕ)) (document : List ℕ) (command : Command) (limit : ℕ) → command_of words ≡ Some command → document_limit command ≡ Some limit → limit < length document →
    IsChosen (due words document) sr (line_report too_long_text Refused)
long_chosen words document command limit is within long =
    chosen words document (due_document words document command true is (ap (λ o. is_too_long o document) within ∙ (let t : is_too_long (Some limit) document ≡ true = grind (arith, nat_tests) in t)))
