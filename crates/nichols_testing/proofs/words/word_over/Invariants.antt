use Rattle.nichols_tensor.specs.Words.{IsWordOver}
use Rattle.nichols_testing.proofs.words.word_over.Given as goal

abbrev pub invariant-loop-letter : goal.invariant-loop-letter
invariant-loop-letter l = IsWordOver l.braid.letters l.found
