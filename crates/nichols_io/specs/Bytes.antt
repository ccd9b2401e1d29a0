-- What a reading or a writing does to the bytes that an object tells, where it tells them.
use Rattle.std.specs.Prelude.{◌≡◌, ℕ, ◌<◌, ◌≤◌, List, length, take, ⊤, Option, None, Some}
use Rattle.std.specs.Io.KnownBytes.{Consumes, Appends}

-- what tells its bytes goes on telling them, and what doesn't never will
abbrev pub TellsAlike : Option (List ℕ) → Option (List ℕ) → Type 0
TellsAlike None None = ⊤
TellsAlike None (Some new) = ⊥
TellsAlike (Some old) None = ⊥
TellsAlike (Some old) (Some new) = ⊤

-- the first n bytes were taken away
abbrev pub ConsumesExactly : Option (List ℕ) → Option (List ℕ) → ℕ → Type 0
ConsumesExactly before after n = (bytes : List ℕ) × Consumes before after bytes × (length bytes ≡ n)

-- some first bytes were taken away, at most n
abbrev pub ConsumesAtMost : Option (List ℕ) → Option (List ℕ) → ℕ → Type 0
ConsumesAtMost before after n = (bytes : List ℕ) × Consumes before after bytes × (length bytes ≤ n)

-- the bytes grew by a prefix of the piece, and not by the whole
abbrev pub AppendsProperPrefix : Option (List ℕ) → Option (List ℕ) → List ℕ → Type 0
AppendsProperPrefix before after piece = (k : ℕ) × (k < length piece) × Appends before after (take k piece)

-- more than n bytes were left
abbrev pub IsLonger : Option (List ℕ) → ℕ → Type 0
IsLonger None n = ⊤
IsLonger (Some bytes) n = n < length bytes
