use Rattle.std.proofs.Common.{◌∙◌, sym, subst}
use Rattle.nichols_tensor.specs.WordOrder.{IsRising}
use Rattle.nichols_block.proofs.LowerRules.{basis_of_rule}
use Rattle.nichols_block.proofs.lower.words_below.Goals as goal

pub returns-in-Some : goal.returns-in-Some
returns-in-Some c = record {
  same = c.basis.ensures.same ∙ basis_of_rule c.args.braid.now c.args.key.now.degree c.args.key.now.product c.args.letter c.in-Some.rule.now c.requires.block.some c.in-Some.ensures;
  rising = subst IsRising (sym c.basis.ensures.same) c.basis.ensures.rising;
}
