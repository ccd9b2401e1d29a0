-- Lists of blocks, and of edges with values.
use Rattle.std.specs.Prelude.{ℕ, zero, suc, Bool, not, ◌==◌, if◌then◌else◌, List, [], ◌∷◌, filter, count_by, Option, Some, None}
use Rattle.std.specs.List.{list_any}
use Rattle.nichols_value.specs.declared.value.BlockValue.{BlockValue}

-- whether the number stands in the list
abbrev pub is_in : ℕ → List ℕ → Bool
is_in b xs = list_any (λ x. b == x) xs

-- how often the number stands in the list
abbrev pub times_in : ℕ → List ℕ → ℕ
times_in b xs = count_by (λ x. b == x) xs

-- the list without the number
abbrev pub without : ℕ → List ℕ → List ℕ
without b xs = filter (λ x. not (b == x)) xs

-- the numbers below n
abbrev pub below : ℕ → List ℕ
below zero = []
below (suc n) = n ∷ below n

-- the value that stands beside the number
abbrev pub noted_value : ℕ → List (ℕ × BlockValue) → Option BlockValue
noted_value k [] = None
noted_value k (x ∷ xs) = if k == x.0 then Some x.1 else noted_value k xs
