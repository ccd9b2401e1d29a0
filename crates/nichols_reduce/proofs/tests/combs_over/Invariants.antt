use Rattle.std.specs.List.{AllByRecursion}
use Rattle.nichols_tensor.specs.Combination.{AllElements}
use Rattle.nichols_tensor.specs.Words.{IsOver}
use Rattle.nichols_reduce.proofs.tests.combs_over.Given as goal

abbrev pub invariant-loop-listed : goal.invariant-loop-listed
invariant-loop-listed l = record {
  letters : AllByRecursion (IsOver l.braid.letters) l.combs.items;
  elements : AllByRecursion (AllElements l.braid.field) l.combs.items;
}
