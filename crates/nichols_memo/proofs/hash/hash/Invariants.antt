use Rattle.std.proofs.Common.{◌≡◌, take}
use Rattle.nichols_memo.specs.Hash.{hash_of}
use Rattle.nichols_memo.proofs.hash.hash.Given as goal

abbrev pub invariant-loop-letter : goal.invariant-loop-letter
invariant-loop-letter l = l.h ≡ hash_of (take l.letter-index l.letter-items)
