use Rattle.std.proofs.Common.{arith}
use Rattle.nichols_words.proofs.Push.{inline-push}
use Rattle.nichols_words.proofs.word.Word.push.Goals as goal

pub invariant_of-self : goal.invariant_of-self
invariant_of-self c = inline-push _ _ _ c.self.invariant (omega arith) c.requires
