use Rattle.std.proofs.Common.{rules, ◌≡◌, ap}
use Rattle.std.specs.Ordering.{is_lt}
use Rattle.std.proofs.lemmas.List.Sorted.{ranks_by, answers_always}
use Rattle.nichols_tensor.specs.WordOrder.{word_cmp}
use Rattle.nichols_tensor.proofs.Order.{word_cmp_total}
use Rattle.nichols_block.specs.declared.words.Listed.{Listed}
use Rattle.nichols_block.proofs.words.sort_by_word.Goals as goal

pub returns-clause-sorted : goal.returns-clause-sorted
returns-clause-sorted c =
    c.in_ok-sort_by.ensures.sorted (λ (x y : Listed). is_lt (word_cmp x.word y.word)) (ranks_by word_cmp_total (λ (t : Listed). t.word))
    (answers_always _ (λ a r. is_lt r ≡ is_lt (word_cmp a.0.now.word a.1.0.now.word)) _ (λ f a r q k. let e : r ≡ word_cmp a.0.now.word a.1.0.now.word = search rules in ap is_lt e))
