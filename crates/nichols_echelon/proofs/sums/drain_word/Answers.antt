use Rattle.std.proofs.Common.{◌∙◌, ◌+◌, ◌*◌, ℕ, List, arith, subst, sym, set, w64}
use Rattle.std.specs.Int.{trailing_zeros}
use Rattle.nichols_echelon.specs.Cells.{Cell}
use Rattle.nichols_echelon.proofs.Draining.{InWord, word_more, word_end, word_falls, without_bit}
use Rattle.nichols_echelon.proofs.sums.drain_word.Goals as goal

pub loop-left-smaller : goal.loop-left-smaller
loop-left-smaller c = word_falls c.loop-left.left (omega (arith, c.loop-left-test.true)) c.loop-left.auto.left-fits.fits

pub loop-left-preserved : goal.loop-left-preserved
loop-left-preserved c =
    let place : ℕ = 64 * c.args.word + trailing_zeros w64 c.loop-left.left in
    record {
      word =
          subst (λ (cells : List Cell). InWord c.args.field c.args.values.now c.args.rows.now.begun c.args.word (set c.loop-left.values place 0) cells (without_bit c.loop-left.left (trailing_zeros w64 c.loop-left.left)))
          (sym c.in_ok-push_entry.ensures.ok)
          (word_more c.args.field c.modulus-modulus.ensures.field c.args.values.now c.args.rows.now.begun c.args.word c.loop-left.values c.loop-left.rows.begun c.loop-left.left c.settle-coefficient.result
          (omega (arith, c.loop-left-test.true)) c.loop-left.auto.left-fits.fits (omega (arith, c.requires.inside, c.loop-left.auto.values)) c.settle-coefficient.ensures.value c.loop-left.invariant.word);
      rows = c.in_ok-push_entry.ensures.rows ∙ c.loop-left.invariant.rows;
    }

pub returns-clause-state : goal.returns-clause-state
returns-clause-state c =
    word_end c.args.field c.args.values.now c.args.rows.now.begun c.args.word c.loop-left.values c.loop-left.rows.begun
    (subst (λ (n : ℕ). InWord c.args.field c.args.values.now c.args.rows.now.begun c.args.word c.loop-left.values c.loop-left.rows.begun n) c.loop-left-test.false c.loop-left.invariant.word)
