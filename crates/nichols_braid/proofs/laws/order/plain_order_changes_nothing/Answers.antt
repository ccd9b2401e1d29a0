use Rattle.nichols_braid.proofs.OrderProducts.{plain_order_changes_nothing}
use Rattle.nichols_braid.proofs.laws.order.plain_order_changes_nothing.Goals as goal

pub returns : goal.returns
returns c = plain_order_changes_nothing
