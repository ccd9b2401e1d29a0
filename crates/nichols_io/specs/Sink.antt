-- What a write says of the piece and of the bytes taken before and after it.
use Rattle.std.specs.Prelude.{ℕ, ◌<◌, ◌≤◌, List, length, take, ⊤, Option}
use Rattle.std.specs.Io.KnownBytes.{Keeps, Appends}
use Rattle.nichols_io.specs.declared.sinks.Put.{Put}
use Rattle.nichols_io.specs.declared.sinks.Put.TheVariants.{Took, Failed}

-- the bytes taken grew by the first k of the piece; or all stays
abbrev pub Writes : Put → List ℕ → Option (List ℕ) → Option (List ℕ) → Type 0
Writes (Took k) piece before after = (0 < k) × (k ≤ length piece) × Appends before after (take k piece)
Writes Failed piece before after = Keeps before after

-- a fact for a write that failed
abbrev pub OnWriteFailed : Put → Type 0 → Type 0
OnWriteFailed (Took k) P = ⊤
OnWriteFailed Failed P = P

-- a fact of the count of bytes taken
abbrev pub IfTook : Put → (ℕ → Type 0) → Type 0
IfTook (Took k) P = P k
IfTook Failed P = ⊤
