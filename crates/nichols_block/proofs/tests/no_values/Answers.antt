use Rattle.std.proofs.Common.{rules, ◌≡◌, ◌+◌, [], ◌∷◌, ◌++◌, inr, refl, subst, sym}
use Rattle.nichols_value.specs.declared.shared.Shared.TheVariants as shared
use Rattle.nichols_block.specs.Tested.{AreRightFor}
use Rattle.nichols_block.proofs.TestedValues.{first_count, right_more, right_none}
use Rattle.nichols_block.proofs.tests.no_values.Goals as goal

pub returns : goal.returns
returns c =
    let items : c.push.new.self.items ≡ [] ++ shared.Starved ∷ [] = search rules in
    subst (λ n. AreRightFor c.args._braid.now c.args._limit 0 c.args.first.now n c.push.new.self.items) (sym (first_count c.args._braid.now c.args.first.now c.requires))
    (right_more c.args._braid.now c.args._limit 0 c.args.first.now 0 [] c.push.new.self.items shared.Starved (right_none c.args._braid.now c.args._limit 0 c.args.first.now) (inr refl) items)
