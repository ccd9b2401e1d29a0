use Rattle.std.proofs.Common.{◌≡◌, [], length}
use Rattle.nichols_io.specs.Bytes.{TellsAlike}
use Rattle.nichols_io.proofs.BytesLemmas.{IsUnderWay}
use Rattle.nichols_io.proofs.writing.put_all.Given as goal

abbrev pub invariant-loop-rest : goal.invariant-loop-rest
invariant-loop-rest g l = record {
  bytes : IsUnderWay (g.K.Sink.taken l.fn.sink) (g.K.Sink.taken l.sink) l.fn.piece l.rest;
  steady : g.K.Sink.faults l.sink ≡ g.K.Sink.faults l.fn.sink;
  told : TellsAlike (g.K.Sink.taken l.fn.sink) (g.K.Sink.taken l.sink);
  untouched : l.fn.piece ≡ [] → l.sink ≡ l.fn.sink;
}

abbrev pub decreases-loop-rest : goal.decreases-loop-rest
decreases-loop-rest g l = length l.rest
