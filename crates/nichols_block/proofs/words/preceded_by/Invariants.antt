use Rattle.std.proofs.Common.{◌≡◌, ◌∷◌, take}
use Rattle.nichols_block.proofs.words.preceded_by.Given as goal

abbrev pub invariant-loop-x : goal.invariant-loop-x
invariant-loop-x l = l.longer ≡ l.letter ∷ take l.x-index l.x-items
