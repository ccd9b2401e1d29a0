use Rattle.std.proofs.Common.{◌∷◌, ◌++◌, [], ◌∙◌, ap, rules}
use Rattle.nichols_block.specs.declared.words.Listed.{Listed}
use Rattle.nichols_block.specs.Words.{right_entry}
use Rattle.nichols_block.proofs.GatheredWords.{put_start, put_more}
use Rattle.nichols_block.proofs.words.put_followed.Goals as goal

pub loop-k-init : goal.loop-k-init
loop-k-init c = put_start (right_entry c.args.letter) c.args.listed.now.items c.reserve.new.self.items c.reserve.ensures.items

pub loop-k-preserved : goal.loop-k-preserved
loop-k-preserved c =
    put_more (right_entry c.args.letter) c.args.words.now c.loop-k.k c.index-words-k.result c.args.listed.now.items c.loop-k.listed.items c.push.new.self.items c.loop-k-test.true c.index-words-k.is c.loop-k.invariant
    (c.in_ok-push.ensures.items ∙ ap (λ (l : Listed). c.loop-k.listed.items ++ l ∷ []) (search rules))
