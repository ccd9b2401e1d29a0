use Rattle.std.proofs.Common.{arith, ◌≡◌, Some, subst, sym}
use Rattle.nichols_tensor.specs.Positions.{word_at}
use Rattle.nichols_value.specs.Kept.{AreEnds, AreEndsOf}
use Rattle.nichols_value.specs.Rule.{PlainRule}
use Rattle.nichols_value.specs.declared.rule.BlockRule.TheInside.{Inside}
use Rattle.nichols_value.specs.declared.rule.Upper.{Upper}
use Rattle.nichols_value.specs.contracts.rule.BlockRule.{the_invariant, the_view}
use Rattle.nichols_value.proofs.KeptEnds.{ends_at, ends_count}
use Rattle.nichols_value.proofs.rule.BlockRule.ends.Goals as goal

kept : (inside : Inside) (upper : Upper) (now : PlainRule) → the_view inside ≡ now → the_invariant inside → inside.upper ≡ Some upper → AreEnds now.key.product now.below now.basis upper.ends.items
kept inside upper now view holds is = let shape = rw is at holds.1 in rw (← view) shape.1

pub index-requires : goal.index-requires
index-requires c =
    let count = ends_count c.args.self.now.key.product c.args.self.now.below c.args.self.now.basis c.in-Some.upper.ends.items (kept c.self.inside c.in-Some.upper c.args.self.now c.self.view_is c.self.invariant c.in-Some.is) in
    omega (arith, count, c.requires.place)

pub returns : goal.returns
returns c =
    subst (AreEndsOf c.args.self.now.key.product c.args.self.now.below (word_at c.args.self.now.basis c.args.k)) (sym c.index.ensures)
    (ends_at c.args.self.now.key.product c.args.self.now.below c.args.self.now.basis c.in-Some.upper.ends.items c.args.k c.index.result.now
    (kept c.self.inside c.in-Some.upper c.args.self.now c.self.view_is c.self.invariant c.in-Some.is) c.requires.place)
