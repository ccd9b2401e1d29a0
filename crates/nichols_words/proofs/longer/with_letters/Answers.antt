use Rattle.nichols_tensor.proofs.Pushed.{with_letters_more}
use Rattle.nichols_words.proofs.longer.with_letters.Goals as goal

pub loop-word-preserved : goal.loop-word-preserved
loop-word-preserved c = with_letters_more c.args.letters c.args.words.now c.loop-word.word-index c.word-item.result c.loop-word.longer.items c.put_followed.new.longer.items c.loop-word-test.true c.word-item.is c.loop-word.invariant c.in_ok-put_followed.ensures
