-- What the laws of the end of the algebra say, for every test of which combinations are zero in the algebra, and for reasons
-- of any type X that stop its degrees.
use Rattle.std.specs.Prelude.{◌≡◌, ℕ, ◌<◌, ◌≤◌, true, false, ◌↔◌, ◌⊎◌, length, Option, None, Some}
use Rattle.std.specs.List.{range_with_len, Contains}
use Rattle.nichols_braid.specs.declared.TheConstants.{MOST_DEGREES}
use Rattle.nichols_braid.specs.Braid.{BraidValue}
use Rattle.nichols_braid.specs.Kernel.{Vanishing}
use Rattle.nichols_braid.specs.End.{is_empty_degree, degrees_finished, is_closed, stop_of}

-- no degree up to m is stopped
abbrev pub AreFreeUpTo : {X : Type 0} → (ℕ → Option X) → ℕ → Type 0
AreFreeUpTo stops m = (j : ℕ) → j ≤ m → stops j ≡ None

-- a degree is finished exactly where it is within the greatest, nothing stops it or a degree below it, and no degree below it
-- is empty; the finished degrees are the first numbers from 0 on, in order
abbrev pub FinishedDegrees : Type 0 → Type 0
FinishedDegrees X =
    (vanishes : Vanishing) (braid : BraidValue) (stops : ℕ → Option X) →
    ((m : ℕ) → Contains (degrees_finished vanishes braid stops) m ↔ ((m ≤ MOST_DEGREES) × AreFreeUpTo stops m × ((j : ℕ) → j < m → is_empty_degree vanishes braid j ≡ false)))
    × (degrees_finished vanishes braid stops ≡ range_with_len 0 (length (degrees_finished vanishes braid stops)))

-- the algebra is closed exactly where some degree is empty that nothing stops, nor any degree below it
abbrev pub ClosedWhereADegreeIsEmpty : Type 0 → Type 0
ClosedWhereADegreeIsEmpty X =
    (vanishes : Vanishing) (braid : BraidValue) (stops : ℕ → Option X) →
    (is_closed vanishes braid stops ≡ true) ↔ ((m : ℕ) × (m ≤ MOST_DEGREES) × AreFreeUpTo stops m × (is_empty_degree vanishes braid m ≡ true))

-- m is the first degree that isn't finished, and s is what stops it
pub record IsStoppedAt {X : Type 0} (vanishes : Vanishing) (braid : BraidValue) (stops : ℕ → Option X) (m : ℕ) (s : X) : Type 0 where
  pub below : (j : ℕ) → j < m → Contains (degrees_finished vanishes braid stops) j
  pub unfinished : Contains (degrees_finished vanishes braid stops) m → ⊥
  pub stop : stops m ≡ Some s

-- where each degree above the greatest is stopped, the algebra is closed or its stop is known; the stop is s exactly where
-- the algebra isn't closed, and s stops the first degree that isn't finished
abbrev pub AnEndIsReached : Type 0 → Type 0
AnEndIsReached X =
    (vanishes : Vanishing) (braid : BraidValue) (stops : ℕ → Option X) →
    (((m : ℕ) → MOST_DEGREES < m → (s : X) × (stops m ≡ Some s)) → (is_closed vanishes braid stops ≡ true) ⊎ ((s : X) × (stop_of vanishes braid stops ≡ Some s)))
    × ((s : X) → (stop_of vanishes braid stops ≡ Some s) ↔ ((is_closed vanishes braid stops ≡ false) × ((m : ℕ) × IsStoppedAt vanishes braid stops m s)))
