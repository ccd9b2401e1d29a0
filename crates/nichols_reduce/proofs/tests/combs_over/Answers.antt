use Rattle.std.proofs.Common.{◌∷◌, [], subst, sym}
use Rattle.std.specs.List.{AllByRecursion}
use Rattle.nichols_tensor.specs.Combination.{AllElements}
use Rattle.nichols_tensor.specs.Words.{IsOver}
use Rattle.nichols_tensor.proofs.Over.{all-append}
use Rattle.nichols_reduce.proofs.tests.combs_over.Goals as goal

pub loop-listed-preserved : goal.loop-listed-preserved
loop-listed-preserved c = record {
  letters =
      subst (AllByRecursion (IsOver c.args.braid.now.letters)) (sym c.in_ok-push.ensures.items)
      (all-append (IsOver c.args.braid.now.letters) c.loop-listed.combs.items (c.in_ok-comb_over.field-0 ∷ []) c.loop-listed.invariant.letters (c.in_ok-comb_over.ensures.letters, tt));
  elements =
      subst (AllByRecursion (AllElements c.args.braid.now.field)) (sym c.in_ok-push.ensures.items)
      (all-append (AllElements c.args.braid.now.field) c.loop-listed.combs.items (c.in_ok-comb_over.field-0 ∷ []) c.loop-listed.invariant.elements (c.in_ok-comb_over.ensures.elements, tt));
}
