use Rattle.std.specs.List.{AllByRecursion}
use Rattle.nichols_cover.specs.Level.{IsQuadraticRelation}
use Rattle.nichols_cover.proofs.tests.relations.Given as goal

abbrev pub invariant-loop-rule : goal.invariant-loop-rule
invariant-loop-rule l = AllByRecursion (IsQuadraticRelation l.field l.letters) l.found.items
