use Rattle.std.proofs.Common.{◌≡◌, ◌-◌, suc, false}
use Rattle.nichols_crew.specs.Counting.{HasCounted, block_count}
use Rattle.nichols_top.specs.Algebra.{scope_of, pieces_due}
use Rattle.nichols_top.specs.Written.{writer_seen}
use Rattle.nichols_top.proofs.Finishing.{IsAlgebra, count, rest_from}
use Rattle.nichols_top.proofs.Taking.{HasTaken}
use Rattle.nichols_top.proofs.algebra.put_pieces.Given as goal

abbrev pub invariant-degrees : goal.invariant-degrees
invariant-degrees g l = record {
  same_sink : l.out.sink.ghost_name ≡ l.fn.out.sink.ghost_name;
  algebra : IsAlgebra l.fn.braid (scope_of l.fn.options) l.graded;
  going : l.graded.ended ≡ false;
  counted : HasCounted (block_count l.fn.braid 1 l.graded.last) (g.G.Gate.count l.fn.gate) (g.G.Gate.count l.gate);
  taken : HasTaken (pieces_due l.fn.braid l.fn.order (scope_of l.fn.options)) (rest_from l.fn.braid l.fn.order (scope_of l.fn.options) (suc l.graded.last)) (writer_seen g.K.Sink.taken g.K.Sink.faults l.fn.out) (writer_seen g.K.Sink.taken g.K.Sink.faults l.out);
}

abbrev pub decreases-degrees : goal.decreases-degrees
decreases-degrees g l = count l.fn.braid (scope_of l.fn.options) - l.graded.last
