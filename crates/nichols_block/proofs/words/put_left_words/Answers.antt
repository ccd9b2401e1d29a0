use Rattle.std.proofs.Common.{◌+◌, arith}
use Rattle.nichols_block.proofs.ListedWords.{left_words_short}
use Rattle.nichols_block.proofs.GatheredWords.{left_entries_start, left_entries_more}
use Rattle.nichols_block.proofs.words.put_left_words.Goals as goal

pub loop-a-init : goal.loop-a-init
loop-a-init c = left_entries_start c.args.braid.now c.args.key.now.degree c.args.key.now.product c.args.listed.now.items

pub put_preceded-requires-clause-short : goal.put_preceded-requires-clause-short
put_preceded-requires-clause-short c =
    left_words_short c.args.braid.now c.args.key.now.degree c.args.key.now.product (c.loop-a.a + 1) c.left_words_below.result.now (omega (arith, c.requires.block.most)) c.left_words_below.ensures.same

pub loop-a-preserved : goal.loop-a-preserved
loop-a-preserved c =
    left_entries_more c.args.braid.now c.args.key.now.degree c.args.key.now.product c.loop-a.a (c.loop-a.a + 1) c.left_words_below.result.now c.args.listed.now.items c.loop-a.listed.items c.put_preceded.new.listed.items (omega arith)
    c.left_words_below.ensures.same c.loop-a.invariant c.in_ok-put_preceded.ensures
