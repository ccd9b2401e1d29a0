use Rattle.std.proofs.Common.{◌∙◌, sym, ap, subst}
use Rattle.nichols_braid.specs.Lift.{IsDescentAt, exchanged_at}
use Rattle.nichols_lift.proofs.Perms.{exchanged_array}
use Rattle.nichols_lift.proofs.perm.Perm.exchange.Goals as goal

pub invariant_of-self : goal.invariant_of-self
invariant_of-self c = (exchanged_array c.self.inside.len c.args.place c.self.inside.ends _ c.self.invariant (subst (IsDescentAt c.args.place) (sym c.self.view_is) c.requires) c.swap.ensures.after).1

pub returns : goal.returns
returns c = (exchanged_array c.self.inside.len c.args.place c.self.inside.ends _ c.self.invariant (subst (IsDescentAt c.args.place) (sym c.self.view_is) c.requires) c.swap.ensures.after).0 ∙ ap (exchanged_at c.args.place) c.self.view_is
