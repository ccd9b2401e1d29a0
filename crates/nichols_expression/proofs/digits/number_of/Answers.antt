use Rattle.std.proofs.Common.{◌≡◌, arith, ◌∙◌, ap, ◌+◌, ◌*◌, take, length}
use Rattle.std.specs.Str.Parse.{digits_value}
use Rattle.std.proofs.Math.Seq.{take-length}
use Rattle.nichols_expression.proofs.Numbers.{number_step}
use Rattle.nichols_expression.proofs.digits.number_of.Goals as goal

pub overflow_mul-value : goal.overflow_mul-value
overflow_mul-value c =
    let step = number_step c.args.run.now c.loop-byte.byte-index c.requires.digits c.requires.short c.loop-byte-test.true in
    omega (arith, c.loop-byte.invariant, step.value, step.fits)

pub overflow_sub-byte : goal.overflow_sub-byte
overflow_sub-byte c = (number_step c.args.run.now c.loop-byte.byte-index c.requires.digits c.requires.short c.loop-byte-test.true).digit

pub overflow_add-value : goal.overflow_add-value
overflow_add-value c =
    let step = number_step c.args.run.now c.loop-byte.byte-index c.requires.digits c.requires.short c.loop-byte-test.true in
    omega (arith, c.loop-byte.invariant, step.value, step.fits, c.from.ensures)

pub loop-byte-preserved : goal.loop-byte-preserved
loop-byte-preserved c =
    let step = number_step c.args.run.now c.loop-byte.byte-index c.requires.digits c.requires.short c.loop-byte-test.true in
    ap (λ v. v * 10 + c.from.result) c.loop-byte.invariant ∙ ap (λ d. digits_value 10 (take c.loop-byte.byte-index c.args.run.now) * 10 + d) c.from.ensures ∙ step.value

pub returns : goal.returns
returns c =
    let whole : c.loop-byte.byte-index ≡ length c.args.run.now = omega (arith, c.loop-byte.auto.byte-index-end, c.loop-byte-test.false) in
    record { value = c.loop-byte.invariant ∙ ap (digits_value 10) (ap (λ k. take k c.args.run.now) whole ∙ take-length c.args.run.now) }
