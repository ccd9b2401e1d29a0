use Rattle.std.proofs.Common.{◌≡◌, ◌-◌, map}
use Rattle.std.specs.List.{range_with_len}
use Rattle.nichols_top.specs.Algebra.{degree_due}
use Rattle.nichols_top.specs.Written.{writer_seen, Takes}
use Rattle.nichols_top.proofs.algebra.put_degrees.Given as goal

abbrev pub invariant-loop-m : goal.invariant-loop-m
invariant-loop-m g l = record {
  same_sink : l.out.sink.ghost_name ≡ l.fn.out.sink.ghost_name;
  taken : Takes (map (degree_due l.graded.braid l.order l.brief) (range_with_len l.from (l.m - l.from))) (writer_seen g.K.Sink.taken g.K.Sink.faults l.fn.out) (writer_seen g.K.Sink.taken g.K.Sink.faults l.out);
}
