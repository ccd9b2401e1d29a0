use Rattle.nichols_reduce.proofs.ElementForms.{HasRead}
use Rattle.nichols_reduce.proofs.letters.follow.Given as goal

abbrev pub invariant-loop-k : goal.invariant-loop-k
invariant-loop-k l = HasRead l.levels.braid l.m l.product l.fn.form.items l.letters l.k l.longer l.form.items
