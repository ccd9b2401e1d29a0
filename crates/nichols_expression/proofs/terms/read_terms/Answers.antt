use Rattle.std.proofs.Common.{◌≡◌, ◌<◌, ◌∷◌, [], ◌++◌, Ok, length, drop, sym, ◌∙◌, ap, arith}
use Rattle.nichols_tensor.specs.Combination.{Term, Combination}
use Rattle.std.proofs.lemmas.List.{length-append}
use Rattle.nichols_expression.specs.declared.TheConstants.{TERM_LIMIT}
use Rattle.nichols_expression.specs.Reader.{terms_at}
use Rattle.nichols_expression.specs.Steps.{IsFaultOf}
use Rattle.nichols_expression.specs.declared.faults.Cause.TheVariants.{Early, Byte, Terms}
use Rattle.nichols_expression.proofs.Stops.{stopped, stop_moved, fault_of, answered}
use Rattle.nichols_expression.proofs.TermSteps.{term_from}
use Rattle.nichols_expression.proofs.TermTurns.{left_terms, turn-early, turn-full, turn-stops, turn-ends, turn-no_sign, turn-goes_on}
use Rattle.nichols_expression.proofs.terms.read_terms.Goals as goal

pub returns-then-at-text : goal.returns-then-at-text
returns-then-at-text c =
    fault_of c.args.text.now (terms_at c.args.field c.args.letters TERM_LIMIT c.args.sign (drop c.args.from c.args.text.now)) c.behind.result c.into.result c.into.ensures
    (stopped c.args.text.now _ c.behind.result c.loop-at.at Early c.loop-at.invariant.within c.behind.ensures.place c.behind.ensures.cause
    (c.loop-at.invariant.same ∙ turn-early c.args.field c.args.letters c.loop-at.terms.items c.loop-at.sign c.args.text.now c.loop-at.at (omega (arith, c.if-at-text.true))))

pub returns-then-is_full : goal.returns-then-is_full
returns-then-is_full c =
    let more : c.loop-at.at < length c.args.text.now = omega (arith, c.loop-at.invariant.within, c.if-at-text.false) in
    fault_of c.args.text.now (terms_at c.args.field c.args.letters TERM_LIMIT c.args.sign (drop c.args.from c.args.text.now)) c.behind-then-is_full.result c.into-then-is_full.result c.into-then-is_full.ensures
    (stopped c.args.text.now _ c.behind-then-is_full.result c.loop-at.at Terms c.loop-at.invariant.within c.behind-then-is_full.ensures.place c.behind-then-is_full.ensures.cause
    (c.loop-at.invariant.same ∙ turn-full c.args.field c.args.letters c.loop-at.terms.items c.loop-at.sign c.args.text.now c.loop-at.at more (omega (arith, c.if-is_full.true, c.len-is_full.ensures))))

pub returns-in_err-term : goal.returns-in_err-term
returns-in_err-term c =
    let more : c.loop-at.at < length c.args.text.now = omega (arith, c.loop-at.invariant.within, c.if-at-text.false) in
    let room : length c.loop-at.terms.items < TERM_LIMIT = omega (arith, c.loop-at.invariant.few, c.if-is_full.false, c.len-is_full.ensures) in
    let stop = c.in_err-term.field-0.0 in
    let read = terms_at c.args.field c.args.letters TERM_LIMIT c.args.sign (drop c.args.from c.args.text.now) in
    answered _ (IsFaultOf c.args.text.now read) _ c.from_residual.result c.from_residual.ensures.0 c.from_residual.ensures.1
    (λ e gives. fault_of c.args.text.now read stop e gives
    (stop_moved c.args.text.now (term_from c.args.field c.args.letters c.args.text.now c.loop-at.at) read stop
    (λ cause left h. c.loop-at.invariant.same ∙ turn-stops c.args.field c.args.letters c.loop-at.terms.items c.loop-at.sign c.args.text.now c.loop-at.at cause left more room h)
    c.in_err-term.ensures))

pub returns-then-behind-text : goal.returns-then-behind-text
returns-then-behind-text c =
    let more : c.loop-at.at < length c.args.text.now = omega (arith, c.loop-at.invariant.within, c.if-at-text.false) in
    let room : length c.loop-at.terms.items < TERM_LIMIT = omega (arith, c.loop-at.invariant.few, c.if-is_full.false, c.len-is_full.ensures) in
    c.loop-at.invariant.same
    ∙ turn-ends c.args.field c.args.letters c.loop-at.terms.items c.loop-at.sign c.args.text.now c.loop-at.at c.in_ok-term.end c.behind_spaces-behind.result c.in_ok-term.term more room
    c.in_ok-term.ensures.0.2 c.behind_spaces-behind.ensures.left (omega (arith, c.if-behind-text.true))
    ∙ ap (λ (t : Term). Ok (c.loop-at.terms.items ++ t ∷ [])) (sym c.signed.ensures)
    ∙ ap (λ (f : Combination). Ok f) (sym c.in_ok-push.ensures.items)

pub returns-in_default : goal.returns-in_default
returns-in_default c =
    let more : c.loop-at.at < length c.args.text.now = omega (arith, c.loop-at.invariant.within, c.if-at-text.false) in
    let room : length c.loop-at.terms.items < TERM_LIMIT = omega (arith, c.loop-at.invariant.few, c.if-is_full.false, c.len-is_full.ensures) in
    let further : c.behind_spaces-behind.result < length c.args.text.now = omega (arith, c.behind_spaces-behind.ensures.within, c.if-behind-text.false) in
    fault_of c.args.text.now (terms_at c.args.field c.args.letters TERM_LIMIT c.args.sign (drop c.args.from c.args.text.now)) c.behind-in_default.result c.into-in_default.result c.into-in_default.ensures
    (stopped c.args.text.now _ c.behind-in_default.result c.behind_spaces-behind.result Byte c.behind_spaces-behind.ensures.within c.behind-in_default.ensures.place c.behind-in_default.ensures.cause
    (c.loop-at.invariant.same
    ∙ turn-no_sign c.args.field c.args.letters c.loop-at.terms.items c.loop-at.sign c.args.text.now c.loop-at.at c.in_ok-term.end c.behind_spaces-behind.result c.in_ok-term.term more room
    c.in_ok-term.ensures.0.2 c.behind_spaces-behind.ensures.left further (sym c.sign_of.ensures ∙ c.in_default.is)))

pub loop-at-preserved : goal.loop-at-preserved
loop-at-preserved c =
    let more : c.loop-at.at < length c.args.text.now = omega (arith, c.loop-at.invariant.within, c.if-at-text.false) in
    let room : length c.loop-at.terms.items < TERM_LIMIT = omega (arith, c.loop-at.invariant.few, c.if-is_full.false, c.len-is_full.ensures) in
    let further : c.behind_spaces-behind.result < length c.args.text.now = omega (arith, c.behind_spaces-behind.ensures.within, c.if-behind-text.false) in
    let pushed : length c.push.new.self.items ≡ length (c.loop-at.terms.items ++ c.signed.result ∷ []) = ap length c.in_ok-push.ensures.items in
    record {
      within = c.behind_spaces-at.ensures.within;
      few = omega (arith, room, pushed, length-append c.loop-at.terms.items (c.signed.result ∷ []));
      same = c.loop-at.invariant.same
          ∙ turn-goes_on c.args.field c.args.letters c.loop-at.terms.items c.loop-at.sign c.in-Some.next c.args.text.now c.loop-at.at c.in_ok-term.end c.behind_spaces-behind.result c.behind_spaces-at.result c.in_ok-term.term more room
          c.in_ok-term.ensures.0.2 c.behind_spaces-behind.ensures.left further (sym c.sign_of.ensures ∙ c.in-Some.is) c.behind_spaces-at.ensures.left
          ∙ ap (λ (t : Term). left_terms c.args.field c.args.letters (c.loop-at.terms.items ++ t ∷ []) c.in-Some.next (drop c.behind_spaces-at.result c.args.text.now)) (sym c.signed.ensures)
          ∙ ap (λ (f : Combination). left_terms c.args.field c.args.letters f c.in-Some.next (drop c.behind_spaces-at.result c.args.text.now)) (sym c.in_ok-push.ensures.items);
    }
