-- The image of an expression, as it is computed.
use Rattle.std.proofs.Common.{◌≡◌}
use Rattle.nichols_tensor.specs.Combination.{Combination, AllElements, HasSameValues}
use Rattle.nichols_tensor.specs.InOrder.{in_order}
use Rattle.nichols_tensor.specs.WordOrder.{IsOrdered}
use Rattle.nichols_tensor.proofs.Building.{elements-linear_map}
use Rattle.nichols_tensor.proofs.InOrder.{in_order_unique}
use Rattle.nichols_braid.specs.Braid.{BraidValue, IsBraid}
use Rattle.nichols_braid.specs.Symmetrizer.{lifts, symmetrizer_image}

pub image_is : (braid : BraidValue) (f image : Combination) → IsBraid braid → HasSameValues braid.field image (symmetrizer_image braid f) → IsOrdered image → AllElements braid.field image → image ≡ in_order braid.field (symmetrizer_image braid f)
image_is braid f image is same ordered elements = in_order_unique braid.field is.field (symmetrizer_image braid f) image (elements-linear_map braid.field is.field (lifts braid) f) elements ordered same
