use Rattle.std.proofs.Common.{◌≡◌, take}
use Rattle.nichols_tensor.specs.Words.{with_letters}
use Rattle.nichols_words.proofs.longer.with_letters.Given as goal

abbrev pub invariant-loop-word : goal.invariant-loop-word
invariant-loop-word l = l.longer.items ≡ with_letters l.letters (take l.word-index l.words)
