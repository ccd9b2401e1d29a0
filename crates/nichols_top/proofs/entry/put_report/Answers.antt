use Rattle.std.proofs.Common.{◌≡◌, ◌≤◌, ◌∙◌, ap, sym, subst, map, string_bytes, length, [], Err, Some, None}
use Rattle.std.specs.Prelude.{IfSome}
use Rattle.std.proofs.lemmas.Result.{err_from_is_err_and}
use Rattle.nichols_command.specs.Command.{command_of}
use Rattle.nichols_text.specs.Lines.{usage_text, read_fault_text}
use Rattle.nichols_text.specs.Refusals.{too_long_text}
use Rattle.nichols_top.specs.Counted.{blocks_due, command_blocks}
use Rattle.nichols_top.specs.Due.{due, command_due}
use Rattle.nichols_top.specs.Ends.{due_report, fault_report}
use Rattle.nichols_top.specs.Input.{document_limit}
use Rattle.nichols_top.specs.Report.{line_report}
use Rattle.nichols_top.specs.Written.{writer_seen}
use Rattle.nichols_top.specs.declared.status.Status.TheVariants.{Usage, Refused, ReadFault}
use Rattle.nichols_top.proofs.CommandReports.{unread_alike}
use Rattle.nichols_top.specs.declared.writer.Break.TheVariants.{Memory}
use Rattle.nichols_top.proofs.CountedBlocks.{broken_is_not_whole, counted_as_due, counted_if_answered, fault_is_not_whole, long_blocks, nothing_counted, read_blocks, unread_blocks, usage_blocks}
use Rattle.nichols_top.proofs.DocumentRead.{some_document, document_read, long_document, usage_chosen, command_chosen, long_chosen}
use Rattle.nichols_top.proofs.Statuses.{is_due}
use Rattle.nichols_top.proofs.Taking.{no_memory_first}
use Rattle.nichols_top.proofs.entry.put_report.Goals as goal

-- ---- no memory for the words

pub returns-in_err-command-clause-report : goal.returns-in_err-command-clause-report
returns-in_err-command-clause-report g c =
    let d = some_document (g.S.Source.left c.args.source.now) in
    let p = err_from_is_err_and c.from_residual.result c.from_residual.ensures.1 in
    rw (p.1, p.2) (d.0, d.1, (due (map string_bytes c.args.words.now) d.0, due_report, no_memory_first (is_due (map string_bytes c.args.words.now) d.0).some, broken_is_not_whole Memory (blocks_due (map string_bytes c.args.words.now) d.0) (g.G.Gate.count c.args.gate.now) (g.G.Gate.count c.args.gate.now)))

-- ---- words that aren't a command

pub returns-in_default-clause-report : goal.returns-in_default-clause-report
returns-in_default-clause-report g c =
    let d = some_document (g.S.Source.left c.args.source.now) in
    (d.0, d.1, (line_report usage_text Usage, usage_chosen (map string_bytes c.args.words.now) d.0 (sym c.in_ok-command.ensures.command ∙ c.in_default.is), rw (← c.usage_line.ensures) c.put_line.ensures.report, λ _. counted_as_due (blocks_due (map string_bytes c.args.words.now) d.0) 0 (g.G.Gate.count c.args.gate.now) (g.G.Gate.count c.args.gate.now) (usage_blocks (map string_bytes c.args.words.now) d.0 (sym c.in_ok-command.ensures.command ∙ c.in_default.is)) (nothing_counted (g.G.Gate.count c.args.gate.now))))

-- ---- a command that reads nothing

pub returns-in_default-document_limit-clause-report : goal.returns-in_default-document_limit-clause-report
returns-in_default-document_limit-clause-report g c =
    let words = map string_bytes c.args.words.now in
    let d = some_document (g.S.Source.left c.args.source.now) in
    let is : command_of words ≡ Some c.in-Some.command = sym c.in_ok-command.ensures.command ∙ c.in-Some.is in
    let none : document_limit c.in-Some.command ≡ None = sym c.document_limit.ensures ∙ c.in_default-document_limit.is in (
      d.0,
      d.1,
      (
        command_due c.in-Some.command d.0,
        command_chosen words d.0 c.in-Some.command is (subst (λ o. IfSome o (λ n. length d.0 ≤ n)) (sym none) tt),
        rw (unread_alike c.in-Some.command d.0 [] none) c.put_command.ensures.report,
        λ whole. counted_as_due (blocks_due words d.0) (command_blocks c.in-Some.command []) (g.G.Gate.count c.args.gate.now) (g.G.Gate.count c.put_command.new.gate) (read_blocks words d.0 c.in-Some.command is (subst (λ o. IfSome o (λ n. length d.0 ≤ n)) (sym none) tt) ∙ unread_blocks c.in-Some.command d.0 [] none)
            (counted_if_answered c.put_command.result (command_blocks c.in-Some.command []) (g.G.Gate.count c.args.gate.now) (g.G.Gate.count c.put_command.new.gate) c.put_command.ensures.counted whole),
      ),
    )

-- ---- a document that was read

pub returns-in-Ok-clause-report : goal.returns-in-Ok-clause-report
returns-in-Ok-clause-report g c =
    let words = map string_bytes c.args.words.now in
    let is : command_of words ≡ Some c.in-Some.command = sym c.in_ok-command.ensures.command ∙ c.in-Some.is in
    let limit : document_limit c.in-Some.command ≡ Some c.in-Some-document_limit.limit = sym c.document_limit.ensures ∙ c.in-Some-document_limit.is in (
      c.in-Ok.document.items,
      document_read _ _ c.in-Ok.document.items c.in-Ok.ensures.whole c.in-Ok.ensures.end,
      (
        command_due c.in-Some.command c.in-Ok.document.items,
        command_chosen words c.in-Ok.document.items c.in-Some.command is (subst (λ o. IfSome o (λ n. length c.in-Ok.document.items ≤ n)) (sym limit) c.in-Ok.ensures.within),
        rw (← c.as_slice.ensures.value) c.put_command-in-Ok.ensures.report,
        λ whole. counted_as_due (blocks_due words c.in-Ok.document.items) (command_blocks c.in-Some.command c.in-Ok.document.items) (g.G.Gate.count c.args.gate.now) (g.G.Gate.count c.put_command-in-Ok.new.gate) (read_blocks words c.in-Ok.document.items c.in-Some.command is (subst (λ o. IfSome o (λ n. length c.in-Ok.document.items ≤ n)) (sym limit) c.in-Ok.ensures.within))
            (rw (← c.as_slice.ensures.value) (counted_if_answered c.put_command-in-Ok.result (command_blocks c.in-Some.command c.as_slice.result.now) (g.G.Gate.count c.args.gate.now) (g.G.Gate.count c.put_command-in-Ok.new.gate) c.put_command-in-Ok.ensures.counted whole)),
      ),
    )

-- ---- a document that is too long

pub returns-in-Err-TooLong-clause-report : goal.returns-in-Err-TooLong-clause-report
returns-in-Err-TooLong-clause-report g c =
    let words = map string_bytes c.args.words.now in
    let is : command_of words ≡ Some c.in-Some.command = sym c.in_ok-command.ensures.command ∙ c.in-Some.is in
    let limit : document_limit c.in-Some.command ≡ Some c.in-Some-document_limit.limit = sym c.document_limit.ensures ∙ c.in-Some-document_limit.is in
    let d = long_document (g.S.Source.left c.args.source.now) c.in-Some-document_limit.limit (c.in-Err-TooLong.ensures.longer (ap Err c.in-Err-TooLong.field-0-is)) in
    (d.0, d.1, (line_report too_long_text Refused, long_chosen words d.0 c.in-Some.command c.in-Some-document_limit.limit is limit d.2, c.put_refusal.ensures.report, λ _. counted_as_due (blocks_due words d.0) 0 (g.G.Gate.count c.args.gate.now) (g.G.Gate.count c.args.gate.now) (long_blocks words d.0 c.in-Some.command c.in-Some-document_limit.limit is limit d.2) (nothing_counted (g.G.Gate.count c.args.gate.now))))

-- ---- a source that failed

pub returns-in-Err-Failed-clause-report : goal.returns-in-Err-Failed-clause-report
returns-in-Err-Failed-clause-report g c =
    let d = some_document (g.S.Source.left c.args.source.now) in
    (d.0, d.1, (line_report read_fault_text ReadFault, fault_report (c.in-Err-Failed.ensures.failed (ap Err c.in-Err-Failed.field-0-is)), rw (← c.read_fault_line.ensures) c.put_line-in-Err-Failed.ensures.report, fault_is_not_whole c.read_fault_line.result.now (writer_seen g.K.Sink.taken g.K.Sink.faults c.args.out.now) (writer_seen g.K.Sink.taken g.K.Sink.faults c.put_line-in-Err-Failed.new.out) c.put_line-in-Err-Failed.result (blocks_due (map string_bytes c.args.words.now) d.0) (g.G.Gate.count c.args.gate.now) (g.G.Gate.count c.args.gate.now) c.put_line-in-Err-Failed.ensures.report))

-- ---- no memory for the document

pub returns-in-Err-Memory-clause-report : goal.returns-in-Err-Memory-clause-report
returns-in-Err-Memory-clause-report g c =
    let d = some_document (g.S.Source.left c.args.source.now) in
    (d.0, d.1, (due (map string_bytes c.args.words.now) d.0, due_report, no_memory_first (is_due (map string_bytes c.args.words.now) d.0).some, broken_is_not_whole Memory (blocks_due (map string_bytes c.args.words.now) d.0) (g.G.Gate.count c.args.gate.now) (g.G.Gate.count c.args.gate.now)))
