-- The blocks that a gate has counted once a report was written whole.
use Rattle.std.proofs.Common.{◌≡◌, ◌+◌, ◌-◌, ◌<◌, ◌≤◌, ◌⊎◌, ℕ, suc, Bool, true, false, cond, List, length, refl, sym, ap, ◌∙◌, subst, arith, inl, inr, Some, None, Ok, Err}
use Rattle.std.specs.Prelude.{Option, Result, IfOk, IfSome, option_map}
use Rattle.std.proofs.lemmas.Bool.Decides.{nat_tests}
use Rattle.nichols_text.specs.Refusals.{document_line}
use Rattle.nichols_top.specs.Report.{line_report}
use Rattle.nichols_top.specs.Written.{Written, Writes}
use Rattle.nichols_top.specs.declared.status.Status.{Status}
use Rattle.nichols_top.specs.declared.status.Status.TheVariants.{Complete, Stopped, ReadFault}
use Rattle.nichols_top.specs.declared.writer.Break.{Break}
use Rattle.nichols_top.specs.declared.writer.Break.TheVariants.{Memory}
use Rattle.nichols_braid.specs.Braid.{BraidValue}
use Rattle.nichols_command.specs.Command.{command_of}
use Rattle.nichols_command.specs.declared.command.Command.{Command}
use Rattle.nichols_command.specs.declared.command.Command.TheVariants.{OnDocument, Points}
use Rattle.nichols_command.specs.declared.command.Task.{Task}
use Rattle.nichols_crew.specs.Counting.{HasCounted, block_count}
use Rattle.nichols_crew.proofs.Counted.{count_joined, counted_on}
use Rattle.nichols_graded.specs.Graded.{GradedValue}
use Rattle.nichols_input.specs.Document.{DocumentValue, document_in}
use Rattle.nichols_input.specs.Refusal.{Refusal}
use Rattle.nichols_top.specs.Algebra.{Scope, degrees_in}
use Rattle.nichols_top.specs.Counted.{algebra_blocks, blocks_due, blocks_under, command_blocks, none_if_refused, task_blocks}
use Rattle.nichols_top.specs.Due.{is_too_long}
use Rattle.nichols_top.specs.Input.{document_limit}
use Rattle.nichols_top.proofs.DocumentRead.{not_long}
use Rattle.nichols_top.proofs.Finishing.{IsAlgebra}

-- nothing was to be counted
pub nothing_counted : (old : ℕ) → HasCounted 0 old old
nothing_counted old = inl (omega arith)

pub counted_none : (braid : BraidValue) (last old : ℕ) → last ≡ 0 → HasCounted (block_count braid 1 last) old old
counted_none braid last old none = subst (λ n. HasCounted (block_count braid 1 n) old old) (sym none) (nothing_counted old)

-- the degrees that were finished, and those before them
pub counted_degrees : (braid : BraidValue) (scope : Scope) (g h : GradedValue) (finished old between new : ℕ) → IsAlgebra braid scope g → h.last ≡ g.last + finished → HasCounted (block_count braid 1 g.last) old between →
    HasCounted (block_count g.braid (suc g.last) finished) between new → HasCounted (block_count braid 1 h.last) old new
counted_degrees braid scope g h finished old between new is last first second =
    let more : HasCounted (block_count braid (suc g.last) finished) between new = subst (λ b. HasCounted (block_count b (suc g.last) finished) between new) is.braid_is second in
    let next : 1 + g.last ≡ suc g.last = omega arith in
    let joined : block_count braid 1 (g.last + finished) ≡ block_count braid 1 g.last + block_count braid (suc g.last) finished = count_joined braid 1 g.last finished ∙ ap (λ m. block_count braid 1 g.last + block_count braid m finished) next in
    subst (λ n. HasCounted (block_count braid 1 n) old new) (sym last)
    (subst (λ n. HasCounted n old new) (sym joined) (counted_on (block_count braid 1 g.last) (block_count braid (suc g.last) finished) old between new first more))

-- the last finished degree is the last one of the report
pub counted_all : (braid : BraidValue) (scope : Scope) (last old new : ℕ) → length (degrees_in braid scope) ≡ suc last → HasCounted (block_count braid 1 last) old new → HasCounted (algebra_blocks braid scope) old new
counted_all braid scope last old new count h =
    let same : last ≡ length (degrees_in braid scope) - 1 = omega (arith, count) in
    subst (λ n. HasCounted (block_count braid 1 n) old new) same h

-- where there was an answer that tells nothing of an algebra
pub answered_nothing : (answer : Result Status Break) (old : ℕ) → IfOk answer (λ _. HasCounted 0 old old)
answered_nothing (Ok status) old = nothing_counted old
answered_nothing (Err cause) old = tt

-- the blocks of a document that was read, or is refused
pub task_counted : (task : Task) (bytes : List ℕ) (document : DocumentValue) (answer : Result Status Break) (old new : ℕ) → document_in bytes ≡ Ok document → IfOk answer (λ _. HasCounted (task_blocks task document) old new) →
    IfOk answer (λ _. HasCounted (command_blocks (OnDocument task) bytes) old new)
unfolding command_blocks
task_counted task bytes document answer old new e h = subst (λ r. IfOk answer (λ _. HasCounted (none_if_refused (task_blocks task) r) old new)) (sym e) h

pub refusal_counted : (task : Task) (bytes : List ℕ) (told : Option Refusal) (before after : Written) (answer : Result Status Break) (old : ℕ) → IfSome told (λ refusal. document_in bytes ≡ Err refusal) →
    (option_map document_line told ≡ None → (answer ≡ Err Memory) × (after ≡ before)) → IfOk answer (λ _. HasCounted (command_blocks (OnDocument task) bytes) old old)
unfolding command_blocks
refusal_counted task bytes (Some refusal) before after answer old e none = subst (λ r. IfOk answer (λ _. HasCounted (none_if_refused (task_blocks task) r) old old)) (sym e) (answered_nothing answer old)
refusal_counted task bytes None before after answer old e none = subst (λ r. IfOk r (λ _. HasCounted (command_blocks (OnDocument task) bytes) old old)) (sym (none refl).0) tt

-- ---- where a whole report was written

abbrev pub IsWhole : Result Status Break → Type 0
IsWhole answer = (answer ≡ Ok Complete) ⊎ (answer ≡ Ok Stopped)

pub broken_is_not_whole : (cause : Break) (n old new : ℕ) → IsWhole (Err cause) → HasCounted n old new
broken_is_not_whole cause n old new (inl e) = cc
broken_is_not_whole cause n old new (inr e) = cc

pub fault_is_not_whole : (text : List ℕ) (before after : Written) (answer : Result Status Break) (n old new : ℕ) → Writes (line_report text ReadFault) before after answer → IsWhole answer → HasCounted n old new
fault_is_not_whole text before after (Err cause) n old new w h = broken_is_not_whole cause n old new h
fault_is_not_whole text before after (Ok status) n old new w h = at h
  where
    at : IsWhole (Ok status) → HasCounted n old new
    at (inl e) = absurd (let c : ReadFault ≡ Complete = sym w.0 ∙ (let s : status ≡ Complete = cc in s) in cc)
    at (inr e) = absurd (let c : ReadFault ≡ Stopped = sym w.0 ∙ (let s : status ≡ Stopped = cc in s) in cc)

pub counted_if_answered : (answer : Result Status Break) (n old new : ℕ) → IfOk answer (λ _. HasCounted n old new) → IsWhole answer → HasCounted n old new
counted_if_answered (Ok status) n old new h whole = h
counted_if_answered (Err cause) n old new h whole = broken_is_not_whole cause n old new whole

-- ---- the blocks of a command line

pub usage_blocks : (words : List (List ℕ)) (document : List ℕ) → command_of words ≡ None → blocks_due words document ≡ 0
unfolding blocks_due
usage_blocks words document none = ap (λ o. blocks_under o document) none

document_blocks : (words : List (List ℕ)) (document : List ℕ) (command : Command) (long : Bool) → command_of words ≡ Some command → is_too_long (document_limit command) document ≡ long → blocks_due words document ≡ cond long 0 (command_blocks command document)
unfolding blocks_due
document_blocks words document command long is l = ap (λ o. blocks_under o document) is ∙ ap (λ b. cond b 0 (command_blocks command document)) l

pub read_blocks : (words : List (List ℕ)) (document : List ℕ) (command : Command) → command_of words ≡ Some command → IfSome (document_limit command) (λ n. length document ≤ n) → blocks_due words document ≡ command_blocks command document
read_blocks words document command is short = document_blocks words document command false is (not_long (document_limit command) document short)

pub long_blocks : (words : List (List ℕ)) (document : List ℕ) (command : Command) (limit : ℕ) → command_of words ≡ Some command → document_limit command ≡ Some limit → limit < length document → blocks_due words document ≡ 0
long_blocks words document command limit is within long =
    document_blocks words document command true is (ap (λ o. is_too_long o document) within ∙ (let t : is_too_long (Some limit) document ≡ true = grind (arith, nat_tests) in t))

-- a command that reads nothing has one number for all documents
pub unread_blocks : (command : Command) (a b : List ℕ) → document_limit command ≡ None → command_blocks command a ≡ command_blocks command b
unfolding command_blocks
unread_blocks (OnDocument task) a b none = cc
unread_blocks (Points k options) a b none = refl

-- so many blocks were counted as are due
pub counted_as_due : (due blocks old new : ℕ) → due ≡ blocks → HasCounted blocks old new → HasCounted due old new
counted_as_due due blocks old new e h = subst (λ n. HasCounted n old new) (sym e) h
