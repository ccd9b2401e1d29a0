-- The two readings of what is zero in the algebra.
use Rattle.std.specs.Prelude.{◌≡◌, ◌⊎◌}
use Rattle.nichols_braid.specs.Braid.{BraidValue}
use Rattle.nichols_braid.specs.Kernel.{Vanishing, is_in_kernel, is_killed}
use Rattle.nichols_braid.specs.LeastLaws.{AgreeOnDegrees, AreReadAlike}

-- the test is that of the symmetrizer, or that of the skew derivations
abbrev pub IsReading : Vanishing → Type 0
IsReading vanishes = (vanishes ≡ is_in_kernel) ⊎ (vanishes ≡ is_killed)

-- both readings agree on the combinations of each degree, and give the same least words, bases, normal forms, candidates and relations
pub record HasOneReading (braid : BraidValue) : Type 0 where
  pub agree : AgreeOnDegrees is_in_kernel is_killed braid
  pub alike : AreReadAlike is_in_kernel is_killed braid
