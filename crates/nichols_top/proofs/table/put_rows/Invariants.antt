use Rattle.std.proofs.Common.{◌≡◌, flat_map, map}
use Rattle.nichols_top.specs.Table.{times_due}
use Rattle.nichols_top.specs.Written.{writer_seen}
use Rattle.nichols_top.proofs.Each.{pieces_from}
use Rattle.nichols_top.proofs.Taking.{HasTaken}
use Rattle.nichols_top.proofs.table.put_rows.Given as goal

abbrev pub invariant-loop-word : goal.invariant-loop-word
invariant-loop-word g l = record {
  same_sink : l.out.sink.ghost_name ≡ l.fn.out.sink.ghost_name;
  taken : HasTaken (flat_map (λ u. map (times_due l.graded.braid l.order u) l.words) l.words) (pieces_from (λ u. map (times_due l.graded.braid l.order u) l.words) l.words l.word-index)
      (writer_seen g.K.Sink.taken g.K.Sink.faults l.fn.out) (writer_seen g.K.Sink.taken g.K.Sink.faults l.out);
}
