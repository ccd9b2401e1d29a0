use Rattle.nichols_braid.proofs.ProductLaws.{kernel_splits_by_product}
use Rattle.nichols_braid.proofs.laws.products.kernel_splits_by_product.Goals as goal

pub returns : goal.returns
returns c = kernel_splits_by_product
