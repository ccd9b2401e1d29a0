use Rattle.std.proofs.Common.{sym, subst}
use Rattle.std.specs.List.{AllByRecursion}
use Rattle.std.proofs.lemmas.Result.{IfOk-weaker}
use Rattle.nichols_cover.specs.Level.{IsQuadraticRelation}
use Rattle.nichols_top.proofs.Covers.{relations_are_quadratic}
use Rattle.nichols_top.proofs.cover.quadratic_relations.Goals as goal

pub returns-clause-quadratic : goal.returns-clause-quadratic
returns-clause-quadratic c =
    IfOk-weaker c.relations.result _ _
    (λ r e. subst (AllByRecursion (IsQuadraticRelation c.args.graded.now.braid.field c.args.graded.now.braid.letters)) (sym e) (relations_are_quadratic c.args.graded.now.braid c.levels.ensures.graded.braid)) c.relations.ensures
