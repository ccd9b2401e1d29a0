-- What contracts see of the sources and sinks in memory.
use Rattle.std.specs.Prelude.{◌≡◌, ℕ, List, drop}
use Rattle.nichols_io.specs.declared.sources.Got.{Got}
use Rattle.nichols_io.specs.declared.sources.Got.TheVariants.{Bytes, End, Failed}

-- a source that fails at the calls with these numbers
pub record MemorySourceState : Type 0 where
  pub left : List ℕ
  -- the most bytes that one read gives
  pub chunk : ℕ
  pub failing : List ℕ
  pub calls : ℕ
  pub faults : ℕ

-- a sink that fails at the calls with these numbers, and where it has no room
pub record MemorySinkState : Type 0 where
  pub taken : List ℕ
  -- for how many bytes room is left
  pub room : ℕ
  -- the most bytes that one write takes
  pub most : ℕ
  pub failing : List ℕ
  pub calls : ℕ
  pub faults : ℕ

-- a read changes no byte of the buffer beyond those that it gives
abbrev pub KeepsRest : Got → List ℕ → List ℕ → Type 0
KeepsRest (Bytes k) before after = drop k after ≡ drop k before
KeepsRest End before after = after ≡ before
KeepsRest Failed before after = after ≡ before
