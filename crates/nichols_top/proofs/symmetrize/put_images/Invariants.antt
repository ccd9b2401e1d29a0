use Rattle.std.proofs.Common.{◌≡◌, ◌+◌}
use Rattle.nichols_top.specs.Report.{numbered_pieces}
use Rattle.nichols_top.specs.Symmetrize.{image_due}
use Rattle.nichols_top.specs.Written.{writer_seen}
use Rattle.nichols_top.proofs.Numbered.{numbered_from}
use Rattle.nichols_top.proofs.Taking.{HasTaken}
use Rattle.nichols_top.proofs.symmetrize.put_images.Given as goal

abbrev pub invariant-loop-expression : goal.invariant-loop-expression
invariant-loop-expression g l = record {
  same_sink : l.out.sink.ghost_name ≡ l.fn.out.sink.ghost_name;
  number : l.number ≡ 1 + l.expression-index;
  taken : HasTaken (numbered_pieces (image_due l.braid l.order) 1 l.expressions) (numbered_from (image_due l.braid l.order) 1 l.expressions l.expression-index) (writer_seen g.K.Sink.taken g.K.Sink.faults l.fn.out) (writer_seen g.K.Sink.taken g.K.Sink.faults l.out);
}
