use Rattle.std.proofs.Common.{arith}
use Rattle.nichols_io.proofs.MemoryLemmas.{KeepsRest-front}
use Rattle.nichols_io.proofs.memory_source.MemorySourceSource.read.Goals as goal

pub returns-clause-rest : goal.returns-clause-rest
returns-clause-rest c = KeepsRest-front c.read.result c.args.buf.now c.read.new.buf c.min-most.result _ _ (omega arith) c.read.ensures.bytes c.read.ensures.rest
