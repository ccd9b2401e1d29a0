use Rattle.std.proofs.Common.{◌<◌, ◌≤◌, arith, nat_lt, ◌∙◌, ap}
use Rattle.nichols_tensor.specs.Parts.{longest}
use Rattle.nichols_reduce.proofs.LastDegree.{beyond_long, beyond_short}
use Rattle.nichols_reduce.proofs.parts.is_beyond.Goals as goal

pub returns-then-longest-last : goal.returns-then-longest-last
returns-then-longest-last c =
    let less : c.args.levels.now.last < longest c.args.terms.now = omega (arith, c.if-longest-last.true, c.longest.ensures, c.last.ensures.value) in
    beyond_long c.args.levels.now.braid c.args.levels.now.last c.args.terms.now c.closed.result less c.closed.ensures

pub returns-else-longest-last : goal.returns-else-longest-last
returns-else-longest-last c =
    let more : c.longest.result ≤ c.args.levels.now.last = omega (arith, c.if-longest-last.false, c.last.ensures.value) in
    ap (λ n. nat_lt n c.longest.result) c.last.ensures.value ∙ beyond_short c.args.levels.now.braid c.args.levels.now.last c.longest.result c.args.terms.now c.longest.ensures more
