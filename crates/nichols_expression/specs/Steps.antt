-- How the steps of the program stand to those of the reader.
use Rattle.std.specs.Prelude.{◌≡◌, ◌≤◌, ℕ, ◌+◌, Bool, false, List, [], ◌∷◌, length, drop, nat_eq, Result}
use Rattle.std.specs.Char.{is_ascii_digit}
use Rattle.nichols_expression.specs.Reader.{FaultAt, Step, got, fault}
use Rattle.nichols_expression.specs.declared.faults.ExpressionFault.{ExpressionFault}
use Rattle.nichols_expression.specs.declared.faults.ExpressionFault.TheVariants.{At, Memory}
use Rattle.nichols_expression.specs.declared.placed_fault.PlacedFault.{PlacedFault}

-- whether the text goes on with this byte
abbrev pub starts_with : ℕ → List ℕ → Bool
starts_with byte [] = false
starts_with byte (first ∷ rest) = nat_eq first byte

-- whether the text goes on with a digit
abbrev pub starts_with_digit : List ℕ → Bool
starts_with_digit [] = false
starts_with_digit (first ∷ rest) = is_ascii_digit first

-- the step reads x, from a place of the text on to another; both count the bytes before them
abbrev pub IsReadTo : {X : Type 0} → List ℕ → ℕ → Step X → X → ℕ → Type 0
IsReadTo text from step x end = (from ≤ end) × (end ≤ length text) × (step ≡ got x (drop end text))

-- the reading stops so, where `at` bytes of the text are behind
abbrev pub IsStoppedBy : {X : Type 0} → List ℕ → Result X FaultAt → PlacedFault → Type 0
IsStoppedBy text read stop = (at : ℕ) × (at ≤ length text) × (stop.place ≡ at + 1) × (read ≡ fault stop.cause (drop at text))

-- the same of a fault that may be want of memory, of which nothing is said
abbrev pub IsFaultOf : {X : Type 0} → List ℕ → Result X FaultAt → ExpressionFault → Type 0
IsFaultOf text read (At place cause) = (at : ℕ) × (at ≤ length text) × (place ≡ at + 1) × (read ≡ fault cause (drop at text))
IsFaultOf text read Memory = Unit {0}
