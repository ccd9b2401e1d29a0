use Rattle.std.proofs.Common.{◌∙◌, ◌+◌, sym, arith}
use Rattle.nichols_block.proofs.ListedWords.{lower_words_short}
use Rattle.nichols_block.proofs.GatheredWords.{right_entries_start, right_entries_more}
use Rattle.nichols_block.proofs.words.right_words.Goals as goal

pub loop-b-init : goal.loop-b-init
loop-b-init c = c.new-listed.ensures.items ∙ sym (right_entries_start c.args.braid.now c.args.key.now.degree c.args.key.now.product)

pub put_followed-requires-clause-short : goal.put_followed-requires-clause-short
put_followed-requires-clause-short c = lower_words_short c.args.braid.now c.args.key.now.degree c.args.key.now.product (c.loop-b.b + 1) c.words_below.result.now (omega (arith, c.requires.block.most)) c.words_below.ensures.same

pub loop-b-preserved : goal.loop-b-preserved
loop-b-preserved c =
    right_entries_more c.args.braid.now c.args.key.now.degree c.args.key.now.product c.loop-b.b (c.loop-b.b + 1) c.words_below.result.now c.loop-b.listed.items c.put_followed.new.listed.items (omega arith) c.words_below.ensures.same c.loop-b.invariant
    c.in_ok-put_followed.ensures
