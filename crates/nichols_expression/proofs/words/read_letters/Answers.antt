use Rattle.std.proofs.Common.{◌+◌, List, ℕ, length, drop, refl, sym, ◌∙◌, ap, arith}
use Rattle.nichols_tensor.specs.declared.TheConstants.{WORD_LIMIT}
use Rattle.nichols_expression.specs.Bytes.{dot}
use Rattle.nichols_expression.specs.Reader.{got}
use Rattle.nichols_expression.specs.declared.faults.Cause.TheVariants.{Early, Byte, Letter, LongWord}
use Rattle.nichols_expression.proofs.Scanning.{byte_at}
use Rattle.nichols_expression.proofs.Stops.{stopped}
use Rattle.nichols_expression.proofs.LetterTurns.{LetterTaken, left_of, full_word, turn-no_letter, turn-full, turn-ends, turn-early, turn-byte, turn-goes_on}
use Rattle.nichols_expression.proofs.words.read_letters.Goals as goal

pub returns-in_default : goal.returns-in_default
returns-in_default c =
    stopped c.args.text.now _ c.behind.result c.loop-letter.at Letter c.loop-letter.invariant.within c.behind.ensures.place c.behind.ensures.cause
    (c.loop-letter.invariant.same ∙ turn-no_letter c.args.letters (drop c.loop-letter.at c.args.text.now) c.loop-letter.word c.in_default.ensures)

pub returns-then-not-push : goal.returns-then-not-push
returns-then-not-push c =
    stopped c.args.text.now _ c.behind-then-not-push.result c.loop-letter.at LongWord c.loop-letter.invariant.within c.behind-then-not-push.ensures.place c.behind-then-not-push.ensures.cause
    (c.loop-letter.invariant.same ∙ turn-full c.args.letters (drop c.loop-letter.at c.args.text.now) c.loop-letter.word c.in-Some.ensures.0
    (full_word (length c.loop-letter.word) WORD_LIMIT c.if-not-push.ensures.room.1))

pub returns-then-not-has_byte : goal.returns-then-not-has_byte
returns-then-not-has_byte c =
    let taken : LetterTaken c.args.letters c.args.text.now c.loop-letter.word c.loop-letter.at c.in-Some.letter c.in-Some.end =
    record { test = c.in-Some.ensures.0; value = c.in-Some.ensures.1; within = c.in-Some.ensures.3; left = c.in-Some.ensures.4; room = c.if-not-push.ensures.room.0 refl } in (
      omega (arith, c.loop-letter.invariant.behind, c.in-Some.ensures.2),
      c.in-Some.ensures.3,
      c.loop-letter.invariant.same ∙ turn-ends c.args.letters c.args.text.now c.loop-letter.word c.loop-letter.at c.in-Some.letter c.in-Some.end taken (sym c.has_byte.ensures ∙ c.if-not-has_byte.true)
          ∙ ap (λ (w : List ℕ). got w (drop c.in-Some.end c.args.text.now)) (sym c.if-not-push.ensures.pushed),
    )

pub returns-then-at-text : goal.returns-then-at-text
returns-then-at-text c =
    let taken : LetterTaken c.args.letters c.args.text.now c.loop-letter.word c.loop-letter.at c.in-Some.letter c.in-Some.end =
    record { test = c.in-Some.ensures.0; value = c.in-Some.ensures.1; within = c.in-Some.ensures.3; left = c.in-Some.ensures.4; room = c.if-not-push.ensures.room.0 refl } in
    let dotted = sym c.has_byte.ensures ∙ c.if-not-has_byte.false in
    stopped c.args.text.now _ c.behind-then-at-text.result (c.in-Some.end + 1) Early (byte_at c.args.text.now c.in-Some.end dot dotted).next c.behind-then-at-text.ensures.place c.behind-then-at-text.ensures.cause
    (c.loop-letter.invariant.same ∙ turn-early c.args.letters c.args.text.now c.loop-letter.word c.loop-letter.at c.in-Some.letter c.in-Some.end taken dotted (omega (arith, c.if-at-text.true)))

pub returns-then-not-has_digit : goal.returns-then-not-has_digit
returns-then-not-has_digit c =
    let taken : LetterTaken c.args.letters c.args.text.now c.loop-letter.word c.loop-letter.at c.in-Some.letter c.in-Some.end =
    record { test = c.in-Some.ensures.0; value = c.in-Some.ensures.1; within = c.in-Some.ensures.3; left = c.in-Some.ensures.4; room = c.if-not-push.ensures.room.0 refl } in
    let dotted = sym c.has_byte.ensures ∙ c.if-not-has_byte.false in
    let within = (byte_at c.args.text.now c.in-Some.end dot dotted).next in
    stopped c.args.text.now _ c.behind-then-not-has_digit.result (c.in-Some.end + 1) Byte within c.behind-then-not-has_digit.ensures.place c.behind-then-not-has_digit.ensures.cause
    (c.loop-letter.invariant.same ∙ turn-byte c.args.letters c.args.text.now c.loop-letter.word c.loop-letter.at c.in-Some.letter c.in-Some.end taken dotted
    (omega (arith, within, c.if-at-text.false)) (sym c.has_digit.ensures ∙ c.if-not-has_digit.true))

pub loop-letter-preserved : goal.loop-letter-preserved
loop-letter-preserved c =
    let taken : LetterTaken c.args.letters c.args.text.now c.loop-letter.word c.loop-letter.at c.in-Some.letter c.in-Some.end =
    record { test = c.in-Some.ensures.0; value = c.in-Some.ensures.1; within = c.in-Some.ensures.3; left = c.in-Some.ensures.4; room = c.if-not-push.ensures.room.0 refl } in
    let dotted = sym c.has_byte.ensures ∙ c.if-not-has_byte.false in
    record {
      behind = omega (arith, c.loop-letter.invariant.behind, c.in-Some.ensures.2);
      within = (byte_at c.args.text.now c.in-Some.end dot dotted).next;
      same = c.loop-letter.invariant.same
          ∙ turn-goes_on c.args.letters c.args.text.now c.loop-letter.word c.loop-letter.at c.in-Some.letter c.in-Some.end taken dotted (sym c.has_digit.ensures ∙ c.if-not-has_digit.false)
          ∙ ap (λ (w : List ℕ). left_of c.args.letters w (drop (c.in-Some.end + 1) c.args.text.now)) (sym c.if-not-push.ensures.pushed);
    }
