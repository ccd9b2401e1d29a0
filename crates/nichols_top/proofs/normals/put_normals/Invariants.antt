use Rattle.std.proofs.Common.{◌≡◌, ◌+◌}
use Rattle.nichols_top.specs.NormalLine.{normal_piece}
use Rattle.nichols_top.specs.Report.{numbered_pieces}
use Rattle.nichols_top.specs.Written.{writer_seen}
use Rattle.nichols_top.proofs.Numbered.{numbered_from}
use Rattle.nichols_top.proofs.Taking.{HasTaken}
use Rattle.nichols_top.proofs.normals.put_normals.Given as goal

abbrev pub invariant-loop-normal : goal.invariant-loop-normal
invariant-loop-normal g l = record {
  same_sink : l.out.sink.ghost_name ≡ l.fn.out.sink.ghost_name;
  number : l.number ≡ 1 + l.normal-index;
  taken : HasTaken (numbered_pieces (normal_piece l.told l.field l.order) 1 l.normals) (numbered_from (normal_piece l.told l.field l.order) 1 l.normals l.normal-index)
      (writer_seen g.K.Sink.taken g.K.Sink.faults l.fn.out) (writer_seen g.K.Sink.taken g.K.Sink.faults l.out);
}
