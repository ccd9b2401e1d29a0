use Rattle.std.proofs.Common.{refl}
use Rattle.nichols_top.specs.Conclusion.{answered, failed}
use Rattle.nichols_top.proofs.writer.Writer.conclude.Goals as goal

pub returns-in-Ok-clause-status : goal.returns-in-Ok-clause-status
returns-in-Ok-clause-status g c = rw c.in-Ok.is (answered c.in-Ok.status refl)

pub returns-in-Fault-clause-status : goal.returns-in-Fault-clause-status
returns-in-Fault-clause-status g c = rw (c.in-Err.is, c.in-Fault.is) (failed refl)

pub returns-in-Memory-clause-status : goal.returns-in-Memory-clause-status
returns-in-Memory-clause-status g c = rw (c.in-Err.is, c.in-Memory.is) c.put_memory.ensures.status
