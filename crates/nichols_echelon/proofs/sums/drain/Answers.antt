use Rattle.std.proofs.Common.{arith}
use Rattle.nichols_echelon.proofs.Draining.{drained_row, drained_zero}
use Rattle.nichols_echelon.proofs.sums.drain.Goals as goal

pub returns-clause-row : goal.returns-clause-row
returns-clause-row c =
    drained_row c.args.field c.modulus-modulus.ensures.field c.args.values.now c.loop-word.values c.loop-word.marks c.loop-word.rows.begun c.loop-word.word
    (omega (arith, c.loop-word.auto.marks, c.loop-word.auto.word-end, c.loop-word-test.false)) c.loop-word.invariant.sums

pub returns-clause-zero : goal.returns-clause-zero
returns-clause-zero c =
    drained_zero c.args.field c.modulus-modulus.ensures.field c.args.values.now c.loop-word.values c.loop-word.marks c.loop-word.rows.begun c.loop-word.word
    (omega (arith, c.loop-word.auto.marks, c.loop-word-test.false)) c.loop-word.invariant.sums
