use Rattle.std.proofs.Common.{◌≡◌, ◌∷◌, [], flat_map}
use Rattle.nichols_top.specs.Table.{times_due}
use Rattle.nichols_top.specs.Written.{writer_seen}
use Rattle.nichols_top.proofs.Each.{pieces_from}
use Rattle.nichols_top.proofs.Taking.{HasTaken}
use Rattle.nichols_top.proofs.table.put_row.Given as goal

abbrev pub invariant-loop-k : goal.invariant-loop-k
invariant-loop-k g l = record {
  same_sink : l.out.sink.ghost_name ≡ l.fn.out.sink.ghost_name;
  taken : HasTaken (flat_map (λ v. times_due l.graded.braid l.order l.word v ∷ []) l.others) (pieces_from (λ v. times_due l.graded.braid l.order l.word v ∷ []) l.others l.k)
      (writer_seen g.K.Sink.taken g.K.Sink.faults l.fn.out) (writer_seen g.K.Sink.taken g.K.Sink.faults l.out);
}
