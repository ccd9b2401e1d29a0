-- Combinations whose words have several lengths: the algebra is graded, so each part of one length counts by itself.
use Rattle.std.specs.Prelude.{ℕ, Bool}
use Rattle.std.specs.List.{list_all}
use Rattle.nichols_tensor.specs.Combination.{Combination}
use Rattle.nichols_tensor.specs.Parts.{part_of_degree, degrees_of}
use Rattle.nichols_braid.specs.Braid.{BraidValue}
use Rattle.nichols_braid.specs.Kernel.{Vanishing, IsKilled}

-- whether each part of one length is zero in the algebra
unfoldable pub vanishes_by_parts : Vanishing → BraidValue → Combination → Bool
vanishes_by_parts vanishes braid f = list_all (λ m. vanishes braid m (part_of_degree m f)) (degrees_of f)

-- the derivations kill each part of one length
abbrev pub IsKilledByParts : BraidValue → Combination → Type 0
IsKilledByParts braid f = (m : ℕ) → IsKilled braid m (part_of_degree m f)
