use Rattle.nichols_braid.proofs.BraidLaws.{kernel_is_linear}
use Rattle.nichols_braid.proofs.laws.kernel_is_linear.Goals as goal

pub returns : goal.returns
returns c = kernel_is_linear
