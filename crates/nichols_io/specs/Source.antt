-- What a read says of the buffer and of the bytes left before and after it.
use Rattle.std.specs.Prelude.{ℕ, ◌<◌, ◌≤◌, List, length, take, ⊤, Option}
use Rattle.std.specs.Io.KnownBytes.{Keeps, Consumes, IsAtEnd}
use Rattle.nichols_io.specs.declared.sources.Got.{Got}
use Rattle.nichols_io.specs.declared.sources.Got.TheVariants.{Bytes, End, Failed}

-- the first k bytes of the buffer are the first k that were left; or nothing is left; or all stays
abbrev pub Reads : Got → List ℕ → Option (List ℕ) → Option (List ℕ) → Type 0
Reads (Bytes k) buffer before after = (0 < k) × (k ≤ length buffer) × Consumes before after (take k buffer)
Reads End buffer before after = Keeps before after × IsAtEnd after
Reads Failed buffer before after = Keeps before after

-- a fact for a read that failed
abbrev pub OnReadFailed : Got → Type 0 → Type 0
OnReadFailed (Bytes k) P = ⊤
OnReadFailed End P = ⊤
OnReadFailed Failed P = P

-- a fact of the count of bytes that came
abbrev pub IfBytes : Got → (ℕ → Type 0) → Type 0
IfBytes (Bytes k) P = P k
IfBytes End P = ⊤
IfBytes Failed P = ⊤

-- a fact for a read that didn't fail
abbrev pub UnlessFailed : Got → Type 0 → Type 0
UnlessFailed (Bytes k) P = P
UnlessFailed End P = P
UnlessFailed Failed P = ⊤
