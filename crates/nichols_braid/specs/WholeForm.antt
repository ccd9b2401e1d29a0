-- Normal forms of combinations whose words have several lengths.
use Rattle.std.specs.List.{flat_map}
use Rattle.nichols_tensor.specs.Combination.{Combination}
use Rattle.nichols_tensor.specs.Parts.{part_of_degree, degrees_of}
use Rattle.nichols_braid.specs.Braid.{BraidValue}
use Rattle.nichols_braid.specs.Kernel.{Vanishing}
use Rattle.nichols_braid.specs.Least.{normal_form}

-- the normal forms of the parts of one length, one length after the other
unfoldable pub normal_form_by_parts : Vanishing → BraidValue → Combination → Combination
normal_form_by_parts vanishes braid f = flat_map (λ m. normal_form vanishes braid m (part_of_degree m f)) (degrees_of f)
