use Rattle.std.proofs.Common.{◌∙◌, sym}
use Rattle.nichols_block.proofs.AllLeast.{all_are_least}
use Rattle.nichols_block.proofs.rule.least_derivatives.Goals as goal

pub returns-then-least-places : goal.returns-then-least-places
returns-then-least-places c =
    all_are_least c.args.braid.now c.args.key.now.degree c.args.key.now.product c.args.derivs.items c.args.places.now c.requires.derivs c.requires.places (sym c.requires.least ∙ c.if-least-places.true)
