use Rattle.std.proofs.Common.{◌≡◌, ◌∙◌, length, ap, sym, subst}
use Rattle.nichols_tensor.specs.Combination.{AllElements, value_at, scalar_multiple, without_zeros}
use Rattle.nichols_tensor.specs.WordOrder.{IsOrdered}
use Rattle.nichols_tensor.specs.Words.{IsOver, IsWordOver, HasDegree}
use Rattle.nichols_tensor.proofs.Building.{nonzero-scalar_multiple, without_zeros-nonzero, value_at-multiple, ordered-multiple, elements-multiple, all-multiple}
use Rattle.nichols_words.proofs.comb.Comb.scale.Goals.{In_ok-terms}
use Rattle.nichols_words.proofs.comb.Comb.scale.Goals as goal

terms_are : (c : In_ok-terms) → c.in_ok-terms.terms.items ≡ without_zeros (scalar_multiple c.args.field c.args.by c.args.self.now)
terms_are c = c.in_ok-terms.ensures ∙ ap (λ f. without_zeros (scalar_multiple c.args.field c.args.by f)) c.terms.ensures.same

ordered : (c : In_ok-terms) → IsOrdered c.in_ok-terms.terms.items
ordered c = subst IsOrdered (sym (terms_are c)) (ordered-multiple c.args.field c.args.by c.args.self.now c.terms.ensures.shape.rising)

pub invariant_of-result : goal.invariant_of-result
invariant_of-result c = ordered c

pub returns-clause-each_stays : goal.returns-clause-each_stays
returns-clause-each_stays c =
    λ nonzero. terms_are c ∙ without_zeros-nonzero (scalar_multiple c.args.field c.args.by c.args.self.now)
    (nonzero-scalar_multiple c.args.field c.modulus-modulus.ensures.field c.args.by c.args.self.now c.requires.factor nonzero c.requires.coefficients c.terms.ensures.shape.nonzero)

pub returns-clause-value : goal.returns-clause-value
returns-clause-value c =
    λ w. ap (λ f. value_at c.args.field f w) (terms_are c) ∙ value_at-multiple c.args.field c.modulus-modulus.ensures.field c.args.by c.args.self.now w

pub returns-clause-shape : goal.returns-clause-shape
returns-clause-shape c = ordered c

pub returns-clause-elements : goal.returns-clause-elements
returns-clause-elements c =
    subst (AllElements c.args.field) (sym (terms_are c)) (elements-multiple c.args.field c.modulus-modulus.ensures.field c.args.by c.args.self.now)

pub returns-clause-letters : goal.returns-clause-letters
returns-clause-letters c = λ n over. subst (IsOver n) (sym (terms_are c)) (all-multiple (IsWordOver n) c.args.field c.args.by c.args.self.now over)

pub returns-clause-degree : goal.returns-clause-degree
returns-clause-degree c =
    λ m has. subst (HasDegree m) (sym (terms_are c)) (all-multiple (λ w. length w ≡ m) c.args.field c.args.by c.args.self.now has)
