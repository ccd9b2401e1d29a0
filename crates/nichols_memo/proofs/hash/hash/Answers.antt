use Rattle.std.proofs.Common.{arith}
use Rattle.nichols_memo.proofs.Hashing.{no_letters, next_hash}
use Rattle.nichols_memo.proofs.hash.hash.Goals as goal

pub loop-letter-init : goal.loop-letter-init
loop-letter-init c = no_letters

pub loop-letter-preserved : goal.loop-letter-preserved
loop-letter-preserved c = next_hash c.letters-letter-items.result.now c.loop-letter.letter-index c.loop-letter.h c.from.result 0 (omega arith) c.from.ensures c.loop-letter.invariant
