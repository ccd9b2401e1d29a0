use Rattle.std.proofs.Common.{◌<◌, length, arith}
use Rattle.nichols_graded.proofs.Division.{lowered_next, enough_next}
use Rattle.nichols_graded.proofs.factors.lower.Goals as goal

pub loop-coefficient-preserved : goal.loop-coefficient-preserved
loop-coefficient-preserved c =
    let h = c.loop-coefficient.invariant in
    let less : c.loop-coefficient.coefficient-index < length c.args.coefficients.now = omega arith in
    record {
      enough = enough_next c.loop-coefficient.coefficient-index c.args.by c.args.coefficients.now c.loop-coefficient.coefficient-items less h.lowered h.enough c.if-coefficient-by.false;
      lowered = lowered_next c.loop-coefficient.coefficient-index c.args.by c.args.coefficients.now c.loop-coefficient.coefficient-items less h.lowered;
    }
