use Rattle.nichols_tensor.specs.Combination.{AllElements}
use Rattle.nichols_tensor.specs.Words.{HasDegree, IsOver}
use Rattle.nichols_cover.proofs.tests.relation.Given as goal

abbrev pub invariant-loop-term : goal.invariant-loop-term
invariant-loop-term l = record {
  degree : HasDegree 2 l.form;
  letters : IsOver l.letters l.form;
  elements : AllElements l.field l.form;
}
