use Rattle.std.proofs.Common.{◌∙◌}
use Rattle.std.proofs.lemmas.Result.{IfOk-weaker}
use Rattle.nichols_block.proofs.LowerRules.{basis_of_rule}
use Rattle.nichols_block.proofs.rule.shared_below.Goals as goal

pub returns-in-Some : goal.returns-in-Some
returns-in-Some c =
    IfOk-weaker c.shared_basis.result _ _
    (λ w e. e ∙ basis_of_rule c.args.braid.now c.args.key.now.degree c.args.key.now.product c.args.letter c.in-Some.rule.now c.requires.block.some c.in-Some.ensures) c.shared_basis.ensures
