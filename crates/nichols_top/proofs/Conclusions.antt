-- How a run ends, from how its report was written and ended.
use Rattle.std.proofs.Common.{◌≡◌, ◌≢◌, ℕ, zero, suc, ◌<◌, ◌≤◌, false, true, List, ◌++◌, length, take, refl, sym, ◌∙◌, ap, arith, subst, None, Ok, Err, ◌⊎◌, inl, inr}
use Rattle.std.specs.Prelude.{Result, IsErr}
use Rattle.std.specs.Option.{option_or}
use Rattle.nichols_io.specs.Counts.{Rose}
use Rattle.nichols_text.specs.Lines.{read_fault_text, memory_text}
use Rattle.nichols_command.specs.Command.{command_of}
use Rattle.nichols_top.specs.Conclusion.{Concludes, answered, failed, line_failed}
use Rattle.nichols_top.specs.Conclusion as concluded
use Rattle.nichols_top.specs.Due.{due}
use Rattle.nichols_top.specs.Ends.{memory_due, all_pieces, fault_line, some_pieces, EndsAs, whole, read_fault, write_fault, memory, IsComplete, IsChosen, due_report, fault_report}
use Rattle.nichols_top.specs.Report.{Report, line_report, text_of, last_degree}
use Rattle.nichols_top.specs.Status.{code}
use Rattle.nichols_top.specs.Written.{Seen, Took, Failed, Written, Takes, fault, no_memory, Writes}
use Rattle.nichols_top.specs.declared.status.Status.{Status}
use Rattle.nichols_top.specs.declared.status.Status.TheVariants as status
use Rattle.nichols_top.specs.declared.writer.Break.{Break}
use Rattle.nichols_top.specs.declared.writer.Break.TheVariants.{Fault, Memory}
use Rattle.nichols_top.proofs.Statuses.{same_status, code_most, is_due}
use Rattle.nichols_top.proofs.Taking.{option_or-none, took_more, failed_more, took_piece, failed_piece}

-- ---- the end of a run

-- the text that was taken of a report's first pieces, and the memory line
memory_is : (report : Report) {start mid : Written} (k : ℕ) → start.last ≡ None → Takes (take k report.pieces) start mid → text_of (take k report.pieces) ++ memory_text mid.last ≡ memory_due report k
unfolding memory_due
memory_is report k none t =
    ap (λ o. text_of (take k report.pieces) ++ memory_text o) (t.last ∙ ap (option_or (last_degree (take k report.pieces))) none ∙ option_or-none (last_degree (take k report.pieces)))

due_ends : (report : Report) {sr : Type 0} (start mid end : Written) (answer : Result Status Break) (s : Status) → start.last ≡ None → Concludes mid end answer s → Writes report start mid answer → EndsAs report sr start.sink end.sink (code s)
due_ends report {sr} start mid end _ _ none (answered s same) w =
    subst (λ n. EndsAs report sr start.sink end.sink (code n)) (sym w.0) (whole (subst (λ v. Took (text_of report.pieces) start.sink v.sink) (sym same) w.1.sink))
due_ends report start mid end _ _ none (failed same) (fault f) = write_fault (text_of report.pieces) all_pieces (subst (λ v. Failed (text_of report.pieces) start.sink v.sink) (sym same) f)
due_ends report start mid end _ _ none (concluded.no_memory c) (no_memory k less t) =
    memory k less (subst (λ t. Took t start.sink end.sink) (memory_is report k none t) (took_more t.sink c))
due_ends report start mid end _ _ none (line_failed c) (no_memory k less t) =
    write_fault (memory_due report k) (some_pieces k less) (subst (λ t. Failed t start.sink end.sink) (memory_is report k none t) (failed_more t.sink c))

memory_first : (report : Report) → memory_text None ≡ memory_due report 0
unfolding memory_due
memory_first report = refl

-- where the line of a source that failed was chosen
fault_ends : (report : Report) {sr : Type 0} (start mid end : Written) (answer : Result Status Break) (s : Status) → 0 < length report.pieces → sr → start.last ≡ None →
    Concludes mid end answer s → Writes (line_report read_fault_text status.ReadFault) start mid answer → EndsAs report sr start.sink end.sink (code s)
fault_ends report {sr} start mid end _ _ some rose none (answered s same) w =
    subst (λ n. EndsAs report sr start.sink end.sink (code n)) (sym w.0) (read_fault rose (subst (λ v. Took read_fault_text start.sink v.sink) (sym same) (took_piece read_fault_text None w.1)))
fault_ends report start mid end _ _ some rose none (failed same) w =
    write_fault read_fault_text (fault_line rose) (subst (λ v. Failed read_fault_text start.sink v.sink) (sym same) (failed_piece read_fault_text None w (λ e. cc)))
fault_ends report start mid end _ _ some rose none (concluded.no_memory c) (no_memory (suc k) less t) = absurd (omega arith)
fault_ends report start mid end _ _ some rose none (line_failed c) (no_memory (suc k) less t) = absurd (omega arith)
fault_ends report start mid end _ _ some rose none (concluded.no_memory c) (no_memory zero less t) =
    memory 0 some (subst (λ t. Took t start.sink end.sink) (ap memory_text (t.last ∙ none) ∙ memory_first report) (took_more t.sink c))
fault_ends report start mid end _ _ some rose none (line_failed c) (no_memory zero less t) =
    write_fault (memory_due report 0) (some_pieces 0 some) (subst (λ t. Failed t start.sink end.sink) (ap memory_text (t.last ∙ none) ∙ memory_first report) (failed_more t.sink c))

pub run_ends : (words : List (List ℕ)) (document : List ℕ) (report : Report) {sr : Type 0} (start mid end : Written) (answer : Result Status Break) (s : Status) →
    IsChosen (due words document) sr report → start.last ≡ None → Concludes mid end answer s → Writes report start mid answer → EndsAs (due words document) sr start.sink end.sink (code s)
run_ends words document _ start mid end answer s due_report none c w = due_ends (due words document) start mid end answer s none c w
run_ends words document _ start mid end answer s (fault_report rose) none c w = fault_ends (due words document) start mid end answer s (is_due words document).some rose none c w

-- ---- what a status tells

pub ends_kept : {report : Report} {sr : Type 0} {before after : Seen} {n : ℕ} → EndsAs report sr before after n → n ≢ 5 → after.faults ≡ before.faults
ends_kept (whole t) other = t.kept
ends_kept (read_fault rose t) other = t.kept
ends_kept (write_fault owed o f) other = absurd (other refl)
ends_kept (memory k less t) other = t.kept

pub usage_tells : (words : List (List ℕ)) (document : List ℕ) {sr : Type 0} {before after : Seen} {n : ℕ} → EndsAs (due words document) sr before after n → n ≡ 1 → command_of words ≡ None
usage_tells words document (whole t) e = (is_due words document).usage (same_status (due words document).status status.Usage e)
usage_tells words document (read_fault rose t) e = absurd (omega arith)
usage_tells words document (write_fault owed o f) e = absurd (omega arith)
usage_tells words document (memory k less t) e = absurd (omega arith)

pub read_fault_tells : (words : List (List ℕ)) (document : List ℕ) {sr : Type 0} {before after : Seen} {n : ℕ} → EndsAs (due words document) sr before after n → n ≡ 4 → sr
read_fault_tells words document (whole t) e = absurd ((is_due words document).not_read (same_status (due words document).status status.ReadFault e))
read_fault_tells words document (read_fault rose t) e = rose
read_fault_tells words document (write_fault owed o f) e = absurd (omega arith)
read_fault_tells words document (memory k less t) e = absurd (omega arith)

pub write_fault_tells : (words : List (List ℕ)) (document : List ℕ) {sr : Type 0} {before after : Seen} {n : ℕ} → EndsAs (due words document) sr before after n → n ≡ 5 → Rose before.faults after.faults
write_fault_tells words document (whole t) e = absurd ((is_due words document).not_write (same_status (due words document).status status.WriteFault e))
write_fault_tells words document (read_fault rose t) e = absurd (omega arith)
write_fault_tells words document (write_fault owed o f) e = f.rose
write_fault_tells words document (memory k less t) e = absurd (omega arith)

pub statuses_most : {report : Report} {sr : Type 0} {before after : Seen} {n : ℕ} → EndsAs report sr before after n → n ≤ 6
statuses_most {report} (whole t) = code_most report.status
statuses_most (read_fault rose t) = omega arith
statuses_most (write_fault owed o f) = omega arith
statuses_most (memory k less t) = omega arith

-- unless a count rose
pub complete_unless : {report : Report} {sr : Type 0} {before after : Seen} {n : ℕ} → EndsAs report sr before after n → ¬ sr → ¬ Rose before.faults after.faults → IsComplete report before after n
complete_unless (whole t) still kept = inr (refl, t)
complete_unless (read_fault rose t) still kept = absurd (still rose)
complete_unless (write_fault owed o f) still kept = absurd (kept f.rose)
complete_unless (memory k less t) still kept = inl refl

-- ---- what the status tells of the report as it was written

-- the status of a report that was written whole, where it isn't one of a break
pub answered_at : {mid end : Written} {answer : Result Status Break} {s : Status} (t : Status) → Concludes mid end answer s → code s ≡ code t → t ≢ status.WriteFault → t ≢ status.Memory → answer ≡ Ok t
answered_at t (answered s same) e not_fault not_memory = ap Ok (same_status s t e)
answered_at t (failed same) e not_fault not_memory = absurd (not_fault (sym (same_status status.WriteFault t e)))
answered_at t (concluded.no_memory c) e not_fault not_memory = absurd (not_memory (sym (same_status status.Memory t e)))
answered_at t (line_failed c) e not_fault not_memory = absurd (not_fault (sym (same_status status.WriteFault t e)))

-- the status of a report that was written whole, or in which the sink failed
pub answered_status : {mid end : Written} {answer : Result Status Break} {s : Status} (t : Status) → Concludes mid end answer s → (answer ≡ Ok t) ⊎ (answer ≡ Err Fault) → (code s ≡ code t) ⊎ (code s ≡ code status.WriteFault)
answered_status t (answered s same) (inl e) = let is : s ≡ t = cc in inl (ap code is)
answered_status t (answered s same) (inr e) = cc
answered_status t (failed same) h = inr refl
answered_status t (concluded.no_memory c) (inl e) = cc
answered_status t (concluded.no_memory c) (inr e) = cc
answered_status t (line_failed c) h = inr refl

-- the status of a report that was written whole, or broke off
pub answered_or_broken : {mid end : Written} {answer : Result Status Break} {s : Status} (t : Status) → Concludes mid end answer s → (answer ≡ Ok t) ⊎ IsErr answer → (code s ≡ code t) ⊎ ((code s ≡ code status.WriteFault) ⊎ (code s ≡ code status.Memory))
answered_or_broken t (answered s same) (inl e) = let is : s ≡ t = cc in inl (ap code is)
answered_or_broken t (answered s same) (inr h) = let c : false ≡ true = h in cc
answered_or_broken t (failed same) h = inr (inl refl)
answered_or_broken t (concluded.no_memory c) h = inr (inr refl)
answered_or_broken t (line_failed c) h = inr (inl refl)

-- ---- the sink failed

chosen_not_write : (words : List (List ℕ)) (document : List ℕ) {sr : Type 0} (report : Report) → IsChosen (due words document) sr report → report.status ≢ status.WriteFault
chosen_not_write words document _ due_report = (is_due words document).not_write
chosen_not_write words document _ (fault_report rose) = λ e. cc

-- where the status tells that the sink failed: it failed in the report, and nothing was put after it, or in the memory line
pub fault_told : (words : List (List ℕ)) (document : List ℕ) (report : Report) {sr : Type 0} (start mid end : Written) (answer : Result Status Break) (s : Status) →
    IsChosen (due words document) sr report → Concludes mid end answer s → Writes report start mid answer → code s ≡ code status.WriteFault →
    ((answer ≡ Err Fault) × (end ≡ mid)) ⊎ ((answer ≡ Err Memory) × (s ≡ status.WriteFault) × (mid.sink.faults ≡ start.sink.faults))
fault_told words document report start mid end _ _ chosen (answered s same) w e = absurd (chosen_not_write words document report chosen (sym w.0 ∙ same_status s status.WriteFault e))
fault_told words document report start mid end _ _ chosen (failed same) w e = inl (refl, same)
fault_told words document report start mid end _ _ chosen (concluded.no_memory c) w e = absurd (omega arith)
fault_told words document report start mid end _ _ chosen (line_failed c) (no_memory k less t) e = inr (refl, refl, t.sink.kept)
