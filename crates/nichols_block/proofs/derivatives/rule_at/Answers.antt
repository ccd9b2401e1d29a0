use Rattle.std.proofs.Common.{◌≡◌, ◌-◌, ℕ, get_or, subst}
use Rattle.nichols_block.proofs.RulesBelow.{rule_found}
use Rattle.nichols_block.proofs.derivatives.rule_at.Goals as goal

pub returns : goal.returns
returns c =
    rule_found c.args.braid.now c.args.key.now.degree c.args.key.now.product c.args.rules.now c.requires.rules c.args.letter c.requires.letter c.index-rules-from.result
    (subst (λ (b : ℕ). c.index-rules-from.result ≡ get_or c.args.rules.now (b - 1) c.index-rules-from.result) c.from.ensures c.index-rules-from.is)
