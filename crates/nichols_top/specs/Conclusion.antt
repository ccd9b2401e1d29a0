-- How a report is ended.
use Rattle.std.specs.Prelude.{◌≡◌, Result, Ok, Err}
use Rattle.nichols_text.specs.Lines.{memory_text}
use Rattle.nichols_top.specs.Written.{Written, Took, Failed}
use Rattle.nichols_top.specs.declared.status.Status.{Status}
use Rattle.nichols_top.specs.declared.status.Status.TheVariants as status
use Rattle.nichols_top.specs.declared.writer.Break.{Break}
use Rattle.nichols_top.specs.declared.writer.Break.TheVariants.{Fault, Memory}

-- the status that is answered for a report as it was written; where there was no memory the memory line follows, which names
-- the last degree that was printed
pub data Concludes (before after : Written) : Result Status Break → Status → Type 0 where
  answered : (s : Status) → after ≡ before → Concludes before after (Ok s) s
  failed : after ≡ before → Concludes before after (Err Fault) status.WriteFault
  no_memory : Took (memory_text before.last) before.sink after.sink → Concludes before after (Err Memory) status.Memory
  line_failed : Failed (memory_text before.last) before.sink after.sink → Concludes before after (Err Memory) status.WriteFault
