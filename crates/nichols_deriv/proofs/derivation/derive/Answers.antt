use Rattle.std.proofs.Common.{subst}
use Rattle.nichols_tensor.specs.Combination.{AllElements}
use Rattle.nichols_deriv.proofs.Derivatives.{derived_more, derived_end, over_as_derived, degree_as_derived}
use Rattle.nichols_deriv.proofs.derivation.derive.Goals as goal

pub loop-term-preserved : goal.loop-term-preserved
loop-term-preserved c = record {
  value =
      derived_more c.args.braid.now c.field-field.ensures.braid.field c.args.a c.terms-term-items.result.now c.loop-term.term-index c.term-item.result c.loop-term-test.true c.term-item.is
      c.loop-term.terms.items c.put_derivative.new.out.items c.loop-term.invariant.value c.in_ok-put_derivative.ensures.value;
  elements = c.in_ok-put_derivative.ensures.elements;
}

pub returns-clause-value : goal.returns-clause-value
returns-clause-value c =
    derived_end c.args.braid.now c.args.a c.field-field.result c.in_ok-derivative.derivative c.as_mut_slice.result.now c.loop-term.terms.items c.args.comb.now c.terms-term-items.result.now c.loop-term.term-index
    c.field-field.ensures.field c.as_mut_slice.ensures.value c.terms-term-items.ensures.same c.loop-term-test.false c.in_ok-derivative.ensures.value c.loop-term.invariant.value

pub returns-clause-letters : goal.returns-clause-letters
returns-clause-letters c =
    over_as_derived c.args.braid.now c.field-field.ensures.braid c.args.a c.requires.letter c.args.comb.now c.in_ok-derivative.derivative c.requires.letters
    (subst (λ k. AllElements k c.in_ok-derivative.derivative) c.field-field.ensures.field c.in_ok-derivative.ensures.elements) c.in_ok-derivative.ensures.shape (returns-clause-value c)

pub returns-clause-degree : goal.returns-clause-degree
returns-clause-degree c =
    degree_as_derived c.args.braid.now c.field-field.ensures.braid c.args.a c.args.comb.now c.in_ok-derivative.derivative
    (subst (λ k. AllElements k c.in_ok-derivative.derivative) c.field-field.ensures.field c.in_ok-derivative.ensures.elements) c.in_ok-derivative.ensures.shape (returns-clause-value c)
