use Rattle.std.proofs.Common.{rules, ◌≡◌, ap}
use Rattle.std.specs.Ordering.{is_lt}
use Rattle.std.proofs.lemmas.List.Sorted.{ranks_by, answers_always}
use Rattle.nichols_tensor.specs.Relation.{PlainRelation}
use Rattle.nichols_tensor.specs.WordOrder.{word_cmp}
use Rattle.nichols_tensor.proofs.Order.{word_cmp_total}
use Rattle.nichols_graded.proofs.merged.sort_by_candidate.Goals as goal

pub returns-clause-sorted : goal.returns-clause-sorted
returns-clause-sorted c =
    c.sort_unstable_by.ensures.sorted (λ (x y : PlainRelation). is_lt (word_cmp x.candidate y.candidate)) (ranks_by word_cmp_total (λ (r : PlainRelation). r.candidate))
    (answers_always _ (λ a r. is_lt r ≡ is_lt (word_cmp a.0.now.candidate a.1.0.now.candidate)) _ (λ f a r q k. let e : r ≡ word_cmp a.0.now.candidate a.1.0.now.candidate = search rules in ap is_lt e))
