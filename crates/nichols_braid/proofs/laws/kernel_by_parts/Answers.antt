use Rattle.nichols_braid.proofs.WholeKernel.{kernel_by_parts}
use Rattle.nichols_braid.proofs.laws.kernel_by_parts.Goals as goal

pub returns : goal.returns
returns c = kernel_by_parts
