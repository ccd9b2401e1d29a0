-- How a run may end.
use Rattle.std.specs.Prelude.{◌≡◌, ◌⊎◌, ⊤, ℕ, ◌<◌, List, ◌++◌, length, take, Option, None, Some}
use Rattle.std.specs.Io.KnownBytes.{IsAtEnd}
use Rattle.nichols_io.specs.Bytes.{IsLonger}
use Rattle.nichols_text.specs.Lines.{read_fault_text, memory_text}
use Rattle.nichols_top.specs.Report.{Report, line_report, text_of, last_degree}
use Rattle.nichols_top.specs.Status.{code}
use Rattle.nichols_top.specs.Written.{Seen, Took, Failed}
use Rattle.nichols_top.specs.declared.status.Status.{Status}
use Rattle.nichols_top.specs.declared.status.Status.TheVariants.{Complete, Refused, Stopped, ReadFault, WriteFault, Memory}

-- the document that a source has left, where it tells its bytes
abbrev pub IsLeft : Option (List ℕ) → List ℕ → Type 0
IsLeft None document = ⊤
IsLeft (Some left) document = left ≡ document

-- the first k pieces, and then the memory line, which names the last degree among them
unfoldable pub memory_due : Report → ℕ → List ℕ
memory_due report k = text_of (take k report.pieces) ++ memory_text (last_degree (take k report.pieces))

-- a text that a run may owe its sink: the report, the line of a source that failed, or what is due for want of memory
pub data IsOwed (report : Report) (source_rose : Type 0) : List ℕ → Type 0 where
  all_pieces : IsOwed report source_rose (text_of report.pieces)
  fault_line : source_rose → IsOwed report source_rose read_fault_text
  some_pieces : (k : ℕ) → k < length report.pieces → IsOwed report source_rose (memory_due report k)

-- the status, with what the sink took in the call, and the rise of a count that it needs
pub data EndsAs (report : Report) (source_rose : Type 0) (before after : Seen) : ℕ → Type 0 where
  whole : Took (text_of report.pieces) before after → EndsAs report source_rose before after (code report.status)
  read_fault : source_rose → Took read_fault_text before after → EndsAs report source_rose before after (code ReadFault)
  write_fault : (owed : List ℕ) → IsOwed report source_rose owed → Failed owed before after → EndsAs report source_rose before after (code WriteFault)
  memory : (k : ℕ) → k < length report.pieces → Took (memory_due report k) before after → EndsAs report source_rose before after (code Memory)

-- the whole report was taken and its status is answered, or there was no memory
abbrev pub IsComplete : Report → Seen → Seen → ℕ → Type 0
IsComplete report before after status = (status ≡ code Memory) ⊎ ((status ≡ code report.status) × Took (text_of report.pieces) before after)

-- the report that a run writes: the one that is due, or the line of a source that failed
pub data IsChosen (due : Report) (source_rose : Type 0) : Report → Type 0 where
  due_report : IsChosen due source_rose due
  fault_report : source_rose → IsChosen due source_rose (line_report read_fault_text ReadFault)

-- what was read for a status: the whole document where the report was written whole, and for a refusal the whole document, or
-- it was longer than the limit
abbrev pub IsReadFor : Option (List ℕ) → Option (List ℕ) → ℕ → Status → Type 0
IsReadFor before after limit status = ((status ≡ Complete) ⊎ (status ≡ Stopped) → IsAtEnd after) × (status ≡ Refused → IsAtEnd after ⊎ IsLonger before limit)
