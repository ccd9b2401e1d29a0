use Rattle.std.proofs.Common.{◌<◌, ◌≤◌, length, ◌∙◌, subst, arith}
use Rattle.std.specs.List.Sorted.{IsPermutation}
use Rattle.std.proofs.lemmas.List.{with_items_is}
use Rattle.nichols_braid.specs.Products.{products}
use Rattle.nichols_graded.proofs.DegreeLists.{sorted_words, words_more}
use Rattle.nichols_graded.proofs.merged.least_words.Goals as goal

pub loop-k-preserved : goal.loop-k-preserved
loop-k-preserved c =
    let less : c.loop-k.k < length (products c.args.levels.now.braid c.args.m) = subst (λ gs. c.loop-k.k < length gs) c.products.ensures (omega (arith, c.len-k-end.ensures.value)) in
    words_more c.args.levels.now.braid c.args.m c.loop-k.k c.loop-k.words.items c.extend_from_slice.new.self.items c.basis.result.now c.rule.result.now less c.loop-k.invariant c.rule.ensures.rule c.basis.ensures.same c.in_ok-extend_from_slice.ensures.items

pub returns : goal.returns
returns c =
    let past : length (products c.args.levels.now.braid c.args.m) ≤ c.loop-k.k = subst (λ gs. length gs ≤ c.loop-k.k) c.products.ensures (omega (arith, c.len-k-end.ensures.value)) in
    with_items_is c.loop-k.words c.sort_unstable.new.self (c.sort_unstable.ensures.len ∙ c.as_mut_slice.ensures.len)
    ∙ sorted_words c.args.levels.now.braid c.args.m c.loop-k.k c.loop-k.words.items c.sort_unstable.new.self past c.loop-k.invariant (subst (λ ws. IsPermutation ws c.sort_unstable.new.self) c.as_mut_slice.ensures.value c.sort_unstable.ensures.permutation) c.sort_unstable.ensures.sorted
