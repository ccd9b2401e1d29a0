use Rattle.std.proofs.Common.{◌≤◌, suc, length, arith}
use Rattle.nichols_reduce.proofs.WholeLevels.{all_rules, whole_more}
use Rattle.nichols_reduce.proofs.tests.next_values.Goals as goal

pub returns-clause-rules : goal.returns-clause-rules
returns-clause-rules c =
    let past : length c.args.next.now ≤ c.loop-k.k = omega (arith, c.len-k-end.ensures.value) in
    all_rules c.args.levels.now.braid (suc c.args.levels.now.last) c.loop-k.k c.args.next.now c.loop-k.values.items c.requires.products past c.loop-k.invariant

pub returns-clause-whole : goal.returns-clause-whole
returns-clause-whole c =
    let past : length c.args.next.now ≤ c.loop-k.k = omega (arith, c.len-k-end.ensures.value) in
    whole_more c.args.levels.now.braid c.args.levels.now.last c.loop-k.k c.args.next.now c.loop-k.values.items c.requires.products past c.requires.whole c.loop-k.invariant
