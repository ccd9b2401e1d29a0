use Rattle.std.proofs.Common.{rules, ◌∙◌, ap}
use Rattle.nichols_tensor.specs.Combination.{value_at}
use Rattle.nichols_tensor.proofs.InOrder.{in_order_unique}
use Rattle.nichols_tensor.proofs.Permuted.{elements-permutation, value_at-permutation}
use Rattle.nichols_words.proofs.Sums.{among_same}
use Rattle.nichols_words.proofs.comb.Comb.sum_of.Goals as goal

pub collected-requires-clause-elements : goal.collected-requires-clause-elements
collected-requires-clause-elements c = elements-permutation c.args.field c.args.terms.now _ c.sort_by_word.ensures.permutation c.requires

pub returns-clause-value : goal.returns-clause-value
returns-clause-value c w =
    ap (λ f. value_at c.args.field f w) c.from_terms.ensures ∙ c.in_ok-sum.ensures.value w
    ∙ value_at-permutation c.args.field c.modulus-modulus.ensures.field c.args.terms.now _ c.sort_by_word.ensures.permutation c.requires w

pub returns-clause-in_order : goal.returns-clause-in_order
returns-clause-in_order c = in_order_unique c.args.field c.modulus-modulus.ensures.field c.args.terms.now c.from_terms.result c.requires (search rules) (search rules) (returns-clause-value c)

pub returns-clause-words : goal.returns-clause-words
returns-clause-words c = among_same c.args.field c.modulus-modulus.ensures.field c.from_terms.result c.args.terms.now (search rules) (search rules) (returns-clause-value c)
