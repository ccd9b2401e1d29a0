use Rattle.std.proofs.Common.{◌<◌, ◌≤◌, length, ◌∙◌, subst, arith}
use Rattle.std.specs.List.Sorted.{IsPermutation}
use Rattle.std.proofs.lemmas.List.{with_items_is}
use Rattle.nichols_braid.specs.Products.{products}
use Rattle.nichols_graded.proofs.DegreeLists.{sorted_relations, relations_more}
use Rattle.nichols_graded.proofs.merged.degree_relations.Goals as goal

pub loop-k-preserved : goal.loop-k-preserved
loop-k-preserved c =
    let less : c.loop-k.k < length (products c.args.levels.now.braid c.args.m) = subst (λ gs. c.loop-k.k < length gs) c.products.ensures (omega (arith, c.len-k-end.ensures.value)) in
    relations_more c.args.levels.now.braid c.args.m c.loop-k.k c.loop-k.relations.items c.put_relations.new.relations.items c.rule.result.now less c.loop-k.invariant c.rule.ensures.rule c.in_ok-put_relations.ensures

pub returns : goal.returns
returns c =
    let past : length (products c.args.levels.now.braid c.args.m) ≤ c.loop-k.k = subst (λ gs. length gs ≤ c.loop-k.k) c.products.ensures (omega (arith, c.len-k-end.ensures.value)) in
    with_items_is c.loop-k.relations c.sort_by_candidate.new.relations (c.sort_by_candidate.ensures.len ∙ c.as_mut_slice.ensures.len)
    ∙ sorted_relations c.args.levels.now.braid c.args.m c.loop-k.k c.loop-k.relations.items c.sort_by_candidate.new.relations past c.loop-k.invariant
    (subst (λ rs. IsPermutation rs c.sort_by_candidate.new.relations) c.as_mut_slice.ensures.value c.sort_by_candidate.ensures.permutation) c.sort_by_candidate.ensures.sorted
