use Rattle.std.proofs.Common.{◌≡◌, ◌^◌, ◌<◌, ◌≤◌, ◌+◌, ◌-◌, ◌*◌, ◌∙◌, ap, sym, arith, get_or, take}
use Rattle.nichols_command.specs.declared.limits.TheConstants.{DIGITS_MOST}
use Rattle.nichols_command.specs.Numbers.{digits_value}
use Rattle.nichols_command.proofs.Digits.{digit_at, ten_more, ten_fits, value_more, value_none}
use Rattle.nichols_command.proofs.numbers.digits_value.Goals as goal

pub overflow_mul-n : goal.overflow_mul-n
overflow_mul-n c = let small : c.loop-c.n < 10 ^ (DIGITS_MOST - 1) = ten_fits c.loop-c.c-index c.loop-c.n c.loop-c.invariant.bound (omega arith) in omega arith

pub overflow_add-n : goal.overflow_add-n
overflow_add-n c =
    let small : c.loop-c.n < 10 ^ (DIGITS_MOST - 1) = ten_fits c.loop-c.c-index c.loop-c.n c.loop-c.invariant.bound (omega arith) in
    let digit : (48 ≤ get_or c.args.text.now c.loop-c.c-index 0) × (get_or c.args.text.now c.loop-c.c-index 0 ≤ 57) = digit_at c.args.text.now c.loop-c.c-index c.loop-c-test.true c.requires.digits in
    let value : c.from.result ≡ get_or c.args.text.now c.loop-c.c-index 0 - 48 = c.from.ensures in
    omega arith

pub loop-c-init : goal.loop-c-init
loop-c-init c = record { value = sym value_none; bound = omega arith }

pub loop-c-preserved : goal.loop-c-preserved
loop-c-preserved c =
    let digit : (48 ≤ get_or c.args.text.now c.loop-c.c-index 0) × (get_or c.args.text.now c.loop-c.c-index 0 ≤ 57) = digit_at c.args.text.now c.loop-c.c-index c.loop-c-test.true c.requires.digits in
    let value : c.from.result ≡ get_or c.args.text.now c.loop-c.c-index 0 - 48 = c.from.ensures in
    record {
      value = ap (λ n. n * 10 + c.from.result) c.loop-c.invariant.value ∙ ap (λ d. digits_value (take c.loop-c.c-index c.args.text.now) * 10 + d) value ∙ sym (value_more c.args.text.now c.loop-c.c-index c.loop-c-test.true);
      bound = ten_more c.loop-c.c-index c.loop-c.n c.from.result c.loop-c.invariant.bound (omega arith);
    }
