-- The end of the algebra: its degrees are finished one after the other, up to the first empty one, or to where a reason
-- stops the next.
use Rattle.std.specs.Prelude.{ℕ, zero, suc, Bool, List, [], ◌∷◌, length, nat_eq, if◌then◌else◌, Option, None, is_some}
use Rattle.std.specs.List.{list_any}
use Rattle.nichols_braid.specs.declared.TheConstants.{MOST_DEGREES}
use Rattle.nichols_braid.specs.Braid.{BraidValue}
use Rattle.nichols_braid.specs.Kernel.{Vanishing}
use Rattle.nichols_braid.specs.Least.{basis}

-- the dimension of degree m: the number of its least words
abbrev pub dimension : Vanishing → BraidValue → ℕ → ℕ
dimension vanishes braid m = length (basis vanishes braid m)

-- whether degree m has no least word
abbrev pub is_empty_degree : Vanishing → BraidValue → ℕ → Bool
is_empty_degree vanishes braid m = nat_eq (dimension vanishes braid m) 0

-- `stops m` is the reason why degree m isn't made, where there is one: a degree limit, say, or too many candidates

-- the degrees that are finished from degree m on, where so many are left up to the greatest
unfoldable pub finished_from : {X : Type 0} → Vanishing → BraidValue → (ℕ → Option X) → ℕ → ℕ → List ℕ
finished_from vanishes braid stops zero m = []
finished_from vanishes braid stops (suc left) m =
    if is_some (stops m) then []
    else m ∷ (if is_empty_degree vanishes braid m then [] else finished_from vanishes braid stops left (suc m))

-- the finished degrees
unfoldable pub degrees_finished : {X : Type 0} → Vanishing → BraidValue → (ℕ → Option X) → List ℕ
degrees_finished vanishes braid stops = finished_from vanishes braid stops (suc MOST_DEGREES) 0

-- whether the algebra is closed: some finished degree is empty, which is then the last
unfoldable pub is_closed : {X : Type 0} → Vanishing → BraidValue → (ℕ → Option X) → Bool
is_closed vanishes braid stops = list_any (is_empty_degree vanishes braid) (degrees_finished vanishes braid stops)

-- what stops the degree after the last finished one, where the algebra isn't closed
unfoldable pub stop_of : {X : Type 0} → Vanishing → BraidValue → (ℕ → Option X) → Option X
stop_of vanishes braid stops = if is_closed vanishes braid stops then None else stops (length (degrees_finished vanishes braid stops))
