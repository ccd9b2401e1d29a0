use Rattle.std.proofs.Common.{◌≡◌, ◌++◌, ◌∷◌, [], map}
use Rattle.nichols_tensor.specs.Words.{up_to}
use Rattle.nichols_words.proofs.longer.put_followed.Given as goal

abbrev pub invariant-loop-i : goal.invariant-loop-i
invariant-loop-i l = l.longer.items ≡ l.initial.longer.items ++ map (λ b. l.word ++ b ∷ []) (up_to l.i)
