use Rattle.std.proofs.Common.{◌≡◌, sym, ◌∙◌, ap, subst}
use Rattle.std.specs.Prelude.{IfOk}
use Rattle.nichols_braid.specs.Kernel.{is_in_kernel, is_killed}
use Rattle.nichols_braid.specs.Least.{relations}
use Rattle.nichols_lift.proofs.Readings.{one_reading}
use Rattle.nichols_graded.proofs.graded.Graded.relations.Goals as goal

pub returns : goal.returns
returns c =
    let braid : c.self.inside.levels.braid ≡ c.args.self.now.braid = ap (λ g. g.braid) c.self.view_is in
    let alike : relations is_killed c.self.inside.levels.braid c.args.m ≡ relations is_in_kernel c.args.self.now.braid c.args.m =
    sym ((one_reading c.self.inside.levels.braid c.self.invariant.0.braid).alike.relation_lists c.args.m) ∙ ap (λ b. relations is_in_kernel b c.args.m) braid in
    subst (λ rs. IfOk c.degree_relations.result (λ r. r.items ≡ rs)) alike c.degree_relations.ensures
