use Rattle.nichols_braid.proofs.OrderProducts.{products_are_relabelled, words_are_relabelled}
use Rattle.nichols_braid.proofs.laws.order.products_are_relabelled.Goals as goal

pub returns : goal.returns
returns c = record { products = products_are_relabelled; words = words_are_relabelled }
