-- What was written to a sink.
use Rattle.std.specs.Prelude.{◌≡◌, ℕ, ◌<◌, List, length, take, Option, Result, MatchResult}
use Rattle.std.specs.Option.{option_or}
use Rattle.std.specs.Io.KnownBytes.{Appends, Keeps}
use Rattle.nichols_io.specs.Bytes.{AppendsProperPrefix}
use Rattle.nichols_io.specs.Counts.{Rose}
use Rattle.nichols_top.specs.Report.{Piece, Report, text_of, last_degree}
use Rattle.nichols_top.specs.declared.status.Status.{Status}
use Rattle.nichols_top.specs.declared.writer.Break.{Break}
use Rattle.nichols_top.specs.declared.writer.Break.TheVariants.{Fault, Memory}
use Rattle.nichols_top.specs.declared.writer.Writer.{Writer}

-- what is seen of a sink: the bytes that it took, where it tells them, and its count of faults
pub record Seen : Type 0 where
  pub taken : Option (List ℕ)
  pub faults : ℕ

abbrev pub sink_seen : {X : Type 0} → (X → Option (List ℕ)) → (X → ℕ) → X → Seen
sink_seen taken faults sink = record { taken = taken sink; faults = faults sink }

-- a text was taken whole, and no write failed
pub record Took (text : List ℕ) (before after : Seen) : Type 0 where
  pub bytes : Appends before.taken after.taken text
  pub kept : after.faults ≡ before.faults

-- a write failed in a text, of which a proper prefix was taken
pub record Failed (text : List ℕ) (before after : Seen) : Type 0 where
  pub bytes : AppendsProperPrefix before.taken after.taken text
  pub rose : Rose before.faults after.faults

-- nothing was taken after a write that failed: `last` is the sink before it, with the count from before and all that was taken
abbrev pub IsStopped : {X : Type 0} → (X → Option (List ℕ)) → (X → ℕ) → X → X → Type 0
IsStopped {X} taken faults before after = (last : X) × (faults last ≡ faults before) × Keeps (taken last) (taken after)

-- what is seen of a writer: its sink, and the degree of the last piece taken that prints one
pub record Written : Type 0 where
  pub sink : Seen
  pub last : Option ℕ

abbrev pub writer_seen : {X : Type 0} → (X → Option (List ℕ)) → (X → ℕ) → Writer X → Written
writer_seen taken faults writer = record { sink = sink_seen taken faults writer.sink.now; last = writer.last }

-- pieces were taken whole
pub record Takes (pieces : List Piece) (before after : Written) : Type 0 where
  pub sink : Took (text_of pieces) before.sink after.sink
  pub last : after.last ≡ option_or (last_degree pieces) before.last

-- pieces break off: the sink failed in them, or the first k were taken and there was no memory for the next
pub data BreaksIn (pieces : List Piece) (before after : Written) : Break → Type 0 where
  fault : Failed (text_of pieces) before.sink after.sink → BreaksIn pieces before after Fault
  no_memory : (k : ℕ) → k < length pieces → Takes (take k pieces) before after → BreaksIn pieces before after Memory

-- pieces were taken whole, or break off
abbrev pub Puts : {X : Type 0} → List Piece → Written → Written → Result X Break → Type 0
Puts pieces before after result = MatchResult result (λ _. Takes pieces before after) (BreaksIn pieces before after)

-- the pieces of a report were taken whole and its status is answered, or they break off
abbrev pub Writes : Report → Written → Written → Result Status Break → Type 0
Writes report before after result = MatchResult result (λ status. (status ≡ report.status) × Takes report.pieces before after) (BreaksIn report.pieces before after)
