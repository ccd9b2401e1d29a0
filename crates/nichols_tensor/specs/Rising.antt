-- Lists that rise in an order.
use Rattle.std.specs.Prelude.{List, [], ◌∷◌}

-- the entry stands before the first of the list, if there is one
abbrev pub IsBeforeFirst : {X : Type 0} → (X → X → Type 0) → X → List X → Type 0
IsBeforeFirst IsBefore x [] = Unit {0}
IsBeforeFirst IsBefore x (y ∷ ys) = IsBefore x y

-- each entry stands before the next
abbrev pub IsRisingBy : {X : Type 0} → (X → X → Type 0) → List X → Type 0
IsRisingBy IsBefore [] = Unit {0}
IsRisingBy IsBefore (x ∷ xs) = IsBeforeFirst IsBefore x xs × IsRisingBy IsBefore xs
