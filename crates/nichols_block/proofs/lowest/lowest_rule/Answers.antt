use Rattle.std.proofs.Common.{rules, ◌∙◌, ap}
use Rattle.nichols_block.proofs.FirstRule.{lowest_is_rule, lowest_shape, lowest_upper}
use Rattle.nichols_block.proofs.lowest.lowest_rule.Goals as goal

pub new-requires-2-clause-shape : goal.new-requires-2-clause-shape
new-requires-2-clause-shape c =
    lowest_shape c.letters-letters.result _ c.in_ok-basis.basis c.in_ok-below.below.items c.in_ok-right.right.items c.new.result.items c.identity.ensures.value (search rules) c.in_ok-below.ensures c.in_ok-right.ensures
    c.new.ensures.items

pub new-requires-2-clause-upper : goal.new-requires-2-clause-upper
new-requires-2-clause-upper c =
    lowest_upper c.letters-letters.result c.in_ok-basis.basis c.in_ok-below.below.items c.in_ok-derivs.derivs.items c.in_ok-left.left.items (search rules) c.in_ok-below.ensures c.in_ok-derivs.ensures c.in_ok-left.ensures

pub returns : goal.returns
returns c =
    c.new-2.ensures
    ∙ lowest_is_rule c.args.braid.now c.field-field.ensures.braid c.letters-letters.result (record { degree = 0; product = c.identity.result }) c.in_ok-basis.basis c.in_ok-below.below.items c.in_ok-right.right.items c.new.result.items
    c.in_ok-derivs.derivs.items c.in_ok-left.left.items c.letters-letters.ensures (ap (λ g. record { degree = 0; product = g }) c.identity.ensures.value) (search rules) c.in_ok-below.ensures c.in_ok-right.ensures
    c.new.ensures.items c.in_ok-derivs.ensures c.in_ok-left.ensures
