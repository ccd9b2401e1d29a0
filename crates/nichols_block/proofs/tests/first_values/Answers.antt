use Rattle.std.proofs.Common.{rules, ◌≡◌, ◌+◌, [], ◌∷◌, ◌++◌, subst, sym}
use Rattle.nichols_block.specs.Tested.{AreRightFor}
use Rattle.nichols_block.proofs.TestedValues.{first_count, first_right, right_more, right_none}
use Rattle.nichols_block.proofs.tests.first_values.Goals as goal

pub returns : goal.returns
returns c =
    let items : c.push.new.self.items ≡ [] ++ c.of.result ∷ [] = search rules in
    subst (λ n. AreRightFor c.args.braid.now c.args._limit 0 c.args.first.now n c.push.new.self.items) (sym (first_count c.args.braid.now c.args.first.now c.requires.first))
    (right_more c.args.braid.now c.args._limit 0 c.args.first.now 0 [] c.push.new.self.items c.of.result (right_none c.args.braid.now c.args._limit 0 c.args.first.now)
    (first_right c.args.braid.now c.args._limit c.args.first.now c.in_ok-rule.rule _ c.requires.some_rows c.requires.first c.in_ok-rule.ensures c.of.ensures) items)
