use Rattle.std.proofs.Common.{◌+◌, ◌<◌, List, ℕ, length, drop, sym, ◌∙◌, ap, subst, arith}
use Rattle.std.specs.Result.{MatchResult}
use Rattle.nichols_expression.specs.Bytes.{empty_byte}
use Rattle.nichols_expression.specs.Reader.{Step, got}
use Rattle.nichols_expression.specs.Steps.{IsReadTo, IsStoppedBy}
use Rattle.nichols_expression.specs.declared.faults.Cause.TheVariants.{Early, Byte}
use Rattle.nichols_expression.proofs.Complete.{word_of_digit}
use Rattle.nichols_expression.proofs.Scanning.{byte_at, digit_begun}
use Rattle.nichols_expression.proofs.Stops.{stopped}
use Rattle.nichols_expression.proofs.WordSteps.{word_is_empty, word_is_missing, word_is_none}
use Rattle.nichols_expression.proofs.words.read_word.Goals as goal

pub returns-then-has_digit : goal.returns-then-has_digit
returns-then-has_digit c =
    let digit = digit_begun (drop c.args.from c.args.text.now) (sym c.has_digit.ensures ∙ c.if-has_digit.true) in
    subst (λ (step : Step (List ℕ)). MatchResult c.read_letters.result (λ r. IsReadTo c.args.text.now c.args.from step r.0 r.1) (IsStoppedBy c.args.text.now step))
    (sym (word_of_digit c.args.letters (drop c.args.from c.args.text.now) digit)) c.read_letters.ensures

pub returns-then-has_byte : goal.returns-then-has_byte
returns-then-has_byte c =
    let test = sym c.has_byte.ensures ∙ c.if-has_byte.true in (
      omega arith,
      (byte_at c.args.text.now c.args.from empty_byte test).next,
      word_is_empty c.args.letters c.args.text.now c.args.from test ∙ ap (λ (w : List ℕ). got w (drop (c.args.from + 1) c.args.text.now)) (sym c.empty.ensures),
    )

pub returns-then-from-text : goal.returns-then-from-text
returns-then-from-text c =
    stopped c.args.text.now _ c.behind.result c.args.from Early c.requires.within c.behind.ensures.place c.behind.ensures.cause
    (word_is_missing c.args.letters c.args.text.now c.args.from (omega (arith, c.if-from-text.true)))

pub returns : goal.returns
returns c =
    let more : c.args.from < length c.args.text.now = omega (arith, c.requires.within, c.if-from-text.false) in
    stopped c.args.text.now _ c.behind-2.result c.args.from Byte c.requires.within c.behind-2.ensures.place c.behind-2.ensures.cause
    (word_is_none c.args.letters c.args.text.now c.args.from more (sym c.has_digit.ensures ∙ c.if-has_digit.false) (sym c.has_byte.ensures ∙ c.if-has_byte.false))
