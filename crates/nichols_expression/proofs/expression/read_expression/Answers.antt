use Rattle.std.proofs.Common.{◌≡◌, sym, subst}
use Rattle.nichols_tensor.specs.Words.{IsOver}
use Rattle.nichols_tensor.specs.InOrder.{in_order}
use Rattle.nichols_braid.specs.Order.{in_ranks}
use Rattle.nichols_expression.proofs.Values.{over_read}
use Rattle.nichols_expression.proofs.expression.read_expression.Goals as goal
use Rattle.std.proofs.Common.{rules}

pub returns-clause-letters : goal.returns-clause-letters
returns-clause-letters c =
    let over : IsOver c.args.braid.now.letters (in_order c.args.braid.now.field (in_ranks c.args.order.now c.in_ok-terms.terms.items)) =
    over_read c.args.braid.now.field c.args.braid.now.letters c.args.order.now c.requires c.list-list.ensures.order c.args.text.now c.in_ok-terms.terms.items (search rules) in
    let same : c.in_ok-sum.sum ≡ in_order c.args.braid.now.field (in_ranks c.args.order.now c.in_ok-terms.terms.items) = search rules in
    subst (IsOver c.args.braid.now.letters) (sym same) over
