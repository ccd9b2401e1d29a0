use Rattle.std.proofs.Common.{◌∙◌, sym, arith, get_or-set_same}
use Rattle.nichols_echelon.proofs.Draining.{without_bit}
use Rattle.nichols_echelon.proofs.Taking.{highest, highest_falls, taking_more_at, taken_at, unmarked_at, word_clear}
use Rattle.nichols_echelon.proofs.sums.take_in.Goals as goal

pub returns-then-coefficient-ne0-clause-marked : goal.returns-then-coefficient-ne0-clause-marked
returns-then-coefficient-ne0-clause-marked c =
    unmarked_at c.loop-left.values c.loop-left.marks c.args.word c.loop-left.left c.loop-left.invariant.same (omega (arith, c.requires.word, c.loop-left.auto.marks))
    (omega (arith, c.loop-left-test.true)) c.loop-left.auto.left-fits.fits c.loop-left.invariant.taking.marked

pub returns-then-coefficient-ne0-clause-cell : goal.returns-then-coefficient-ne0-clause-cell
returns-then-coefficient-ne0-clause-cell c =
    taken_at c.args.field c.modulus-modulus.ensures.field c.args.values.now c.loop-left.values c.loop-left.marks c.args.word c.loop-left.left c.settle-coefficient.result
    c.loop-left.invariant.same (omega (arith, c.requires.word, c.loop-left.auto.marks)) (omega (arith, c.loop-left-test.true)) c.loop-left.auto.left-fits.fits
    c.settle-coefficient.ensures.value c.if-coefficient-ne0.true c.loop-left.invariant.taking

pub loop-left-smaller : goal.loop-left-smaller
loop-left-smaller c = highest_falls c.loop-left.left (omega (arith, c.loop-left-test.true)) c.loop-left.auto.left-fits.fits

pub loop-left-preserved : goal.loop-left-preserved
loop-left-preserved c = record {
  taking =
      taking_more_at c.args.field c.modulus-modulus.ensures.field c.args.values.now c.loop-left.values c.loop-left.marks c.args.word c.loop-left.left c.settle-coefficient.result
      c.loop-left.invariant.same (omega (arith, c.requires.word, c.loop-left.auto.marks)) (omega (arith, c.loop-left-test.true)) c.loop-left.auto.left-fits.fits
      c.settle-coefficient.ensures.value c.if-coefficient-ne0.false c.loop-left.invariant.taking;
  same = sym (get_or-set_same c.loop-left.marks c.args.word (without_bit c.loop-left.left (highest c.loop-left.left)) 0 (omega (arith, c.requires.word, c.loop-left.auto.marks)));
}

pub returns-clause-cell : goal.returns-clause-cell
returns-clause-cell c = (
  c.loop-left.invariant.taking.same,
  word_clear c.args.field c.modulus-modulus.ensures.field c.args.values.now c.loop-left.values c.loop-left.marks c.args.word
      (sym c.loop-left.invariant.same ∙ c.loop-left-test.false) c.loop-left.invariant.taking,
)
