use Rattle.std.proofs.Common.{◌≡◌, ◌∙◌, ap, sym, refl, subst, rules, map, string_bytes, inl, inr, Ok}
use Rattle.std.proofs.lemmas.Option.{IfSome_then}
use Rattle.std.proofs.lemmas.Result.{IfOk-at_ok}
use Rattle.std.specs.Prelude.{IfSome}
use Rattle.std.specs.Io.KnownBytes.{Keeps}
use Rattle.nichols_io.specs.Counts.{Rose}
use Rattle.nichols_top.specs.Input.{read_limit}
use Rattle.nichols_top.specs.Due.{due}
use Rattle.nichols_top.specs.Ends.{EndsAs, IsComplete, IsReadFor}
use Rattle.nichols_top.specs.Written.{IsStopped, Written, sink_seen, writer_seen}
use Rattle.nichols_top.specs.declared.status.Status.{Status}
use Rattle.nichols_top.specs.declared.status.Status.TheVariants.{Complete, Usage, Refused, Stopped, ReadFault}
use Rattle.nichols_top.proofs.Conclusions.{run_ends, ends_kept, usage_tells, read_fault_tells, write_fault_tells, statuses_most, complete_unless, answered_at, answered_status, answered_or_broken, fault_told}
use Rattle.nichols_top.proofs.entry.run.Goals as goal

pub returns : goal.returns
returns g c =
    let words = map string_bytes c.args.words.now in
    let told = c.put_report-report.ensures.report in
    let ends : EndsAs (due words told.0) (Rose (g.S.Source.faults c.args.source.now) (g.S.Source.faults c.put_report-report.new.source)) (sink_seen g.K.Sink.taken g.K.Sink.faults c.args.sink.now) (sink_seen g.K.Sink.taken g.K.Sink.faults c.conclude.new.self.sink.now) c.code.result =
    rw (← c.new-out.ensures.sink, c.code.ensures)
    (run_ends words told.0 told.2.0 (writer_seen g.K.Sink.taken g.K.Sink.faults c.new-out.result) (writer_seen g.K.Sink.taken g.K.Sink.faults c.put_report-report.new.out) (writer_seen g.K.Sink.taken g.K.Sink.faults c.conclude.new.self) c.put_report-report.result c.conclude.result told.2.1 c.new-out.ensures.last c.conclude.ensures.status told.2.2) in
    let read : (s : Status) → c.put_report-report.result ≡ Ok s → IfSome (read_limit words) (λ limit. IsReadFor (g.S.Source.left c.args.source.now) (g.S.Source.left c.put_report-report.new.source) limit s) =
    λ s is. IfSome_then (read_limit words) c.put_report-report.ensures.read_to_end (λ limit h. IfOk-at_ok (IsReadFor (g.S.Source.left c.args.source.now) (g.S.Source.left c.put_report-report.new.source) limit) is h) in
    record {
      report = (
        told.0,
        told.1,
        subst (λ k. EndsAs (due words told.0) (Rose (g.S.Source.faults c.args.source.now) (g.S.Source.faults c.put_report-report.new.source)) (sink_seen g.K.Sink.taken g.K.Sink.faults c.args.sink.now) (sink_seen g.K.Sink.taken g.K.Sink.faults k) c.code.result) (search rules) ends,
        λ still kept. subst (λ k. IsComplete (due words told.0) (sink_seen g.K.Sink.taken g.K.Sink.faults c.args.sink.now) (sink_seen g.K.Sink.taken g.K.Sink.faults k) c.code.result) (search rules)
            (complete_unless ends still (subst (λ k. ¬ Rose (g.K.Sink.faults c.args.sink.now) (g.K.Sink.faults k)) (search rules) kept)),
        λ h. elim h [
          | inl e ↦ told.2.3 (inl (answered_at Complete c.conclude.ensures.status (sym c.code.ensures ∙ e) (λ x. cc) (λ x. cc)))
          | inr e ↦ told.2.3 (inr (answered_at Stopped c.conclude.ensures.status (sym c.code.ensures ∙ e) (λ x. cc) (λ x. cc)))
        ],
      );
      usage = λ none. elim (answered_or_broken Usage c.conclude.ensures.status (c.put_report-report.ensures.usage none)) [
        | inl e ↦ inl (c.code.ensures ∙ e)
        | inr (inl e) ↦ inr (inl (c.code.ensures ∙ e))
        | inr (inr e) ↦ inr (inr (c.code.ensures ∙ e))
      ];
      usage_only = usage_tells words told.0 ends;
      read_fault = read_fault_tells words told.0 ends;
      write_fault = λ e. subst (λ k. Rose (g.K.Sink.faults c.args.sink.now) (g.K.Sink.faults k)) (search rules) (write_fault_tells words told.0 ends e);
      statuses = statuses_most ends;
      stopped = λ e. subst (λ k. IsStopped g.K.Sink.taken g.K.Sink.faults c.args.sink.now k) (search rules)
          (elim (fault_told words told.0 told.2.0 (writer_seen g.K.Sink.taken g.K.Sink.faults c.new-out.result) (writer_seen g.K.Sink.taken g.K.Sink.faults c.put_report-report.new.out) (writer_seen g.K.Sink.taken g.K.Sink.faults c.conclude.new.self) c.put_report-report.result c.conclude.result told.2.1 c.conclude.ensures.status told.2.2 (sym c.code.ensures ∙ e)) [
            | inl p ↦
                let h = c.put_report-report.ensures.stopped p.0 in
                (h.0, h.1 ∙ ap g.K.Sink.faults c.new-out.ensures.sink, subst (λ b. Keeps (g.K.Sink.taken h.0) b) (sym (ap (λ (w : Written). w.sink.taken) p.1)) h.2)
            | inr p ↦
                let h = c.conclude.ensures.stopped p.0 p.1 in
                (h.0, h.1 ∙ p.2 ∙ ap g.K.Sink.faults c.new-out.ensures.sink, h.2)
          ]);
      sink_kept = λ other. subst (λ k. g.K.Sink.faults k ≡ g.K.Sink.faults c.args.sink.now) (search rules) (ends_kept ends other);
      source_kept = λ not_read not_written. elim c.put_report-report.ensures.source_kept [
        | inl faulty ↦ elim (answered_status ReadFault c.conclude.ensures.status faulty) [ inl e ↦ absurd (not_read (c.code.ensures ∙ e)) | inr e ↦ absurd (not_written (c.code.ensures ∙ e)) ]
        | inr kept ↦ kept
      ];
      unread = c.put_report-report.ensures.unread;
      taken = c.put_report-report.ensures.taken;
      read_to_end = λ h. elim h [
        | inl e ↦ IfSome_then (read_limit words) (read Complete (answered_at Complete c.conclude.ensures.status (sym c.code.ensures ∙ e) (λ x. cc) (λ x. cc))) (λ limit r. r.0 (inl refl))
        | inr e ↦ IfSome_then (read_limit words) (read Stopped (answered_at Stopped c.conclude.ensures.status (sym c.code.ensures ∙ e) (λ x. cc) (λ x. cc))) (λ limit r. r.0 (inr refl))
      ];
      refused_at_end = λ e. IfSome_then (read_limit words) (read Refused (answered_at Refused c.conclude.ensures.status (sym c.code.ensures ∙ e) (λ x. cc) (λ x. cc))) (λ limit r. r.1 refl);
    }
