use Rattle.std.proofs.Common.{◌≡◌, ap, arith, suc, ◌∙◌}
use Rattle.std.specs.List.{range_with_len}
use Rattle.nichols_times.specs.Products.{words_of}
use Rattle.nichols_times.proofs.LeastWords.{least_more}
use Rattle.nichols_times.proofs.words.least_words.Goals as goal

pub loop-m-preserved : goal.loop-m-preserved
loop-m-preserved c = least_more c.args.graded.now.braid c.loop-m.m c.loop-m.words.items c.in_ok-basis.basis.items c.append.new.self.items c.loop-m.invariant c.in_ok-basis.ensures c.in_ok-append.ensures.items

pub returns : goal.returns
returns c =
    let all : c.loop-m.m ≡ suc c.args.graded.now.last = omega arith in
    c.loop-m.invariant ∙ ap (λ n. words_of c.args.graded.now.braid (range_with_len 0 n)) all
