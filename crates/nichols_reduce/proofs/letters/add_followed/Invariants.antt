use Rattle.std.proofs.Common.{take}
use Rattle.nichols_value.specs.Rule.{below_in}
use Rattle.nichols_reduce.specs.Sums.{HasGrownBy, combination_of}
use Rattle.nichols_reduce.specs.Forms.{followed_by_letter}
use Rattle.nichols_reduce.proofs.letters.add_followed.Given as goal

abbrev pub invariant-loop-k : goal.invariant-loop-k
invariant-loop-k l =
    HasGrownBy l.braid.field l.rule.basis l.fn.sums (followed_by_letter l.braid l.rule.key.degree (take l.k (combination_of l.braid.field (below_in l.rule l.b) l.form)) l.b) l.sums
