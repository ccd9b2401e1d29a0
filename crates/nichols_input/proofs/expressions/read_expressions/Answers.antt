use Rattle.std.proofs.Common.{◌≡◌, ◌++◌, ◌∷◌, [], ◌+◌, rules, length, map, Err}
use Rattle.std.specs.Prelude.{IfSome}
use Rattle.nichols_input.specs.Document.{values_from}
use Rattle.nichols_input.specs.Refusal.{refusal_of}
use Rattle.nichols_input.proofs.Values.{read_before, turn_read, turn_refused, turns_end}
use Rattle.nichols_tensor.specs.Combination.{AllElements}
use Rattle.nichols_tensor.specs.Words.{IsOver}
use Rattle.nichols_tensor.proofs.Over.{all-append}
use Rattle.nichols_input.proofs.expressions.read_expressions.Goals as goal

pub loop-text-preserved : goal.loop-text-preserved
loop-text-preserved c =
    let pushed : c.push.new.self.items ≡ c.loop-text.values.items ++ c.in_ok-read_numbered.field-0 ∷ [] = search rules in
    let counted : c.len.result ≡ length c.loop-text.values.items = search rules in
    let turned : read_before (λ text. text.now) c.args.braid.now c.args.order.now c.args.texts.now (c.loop-text.values.items ++ c.in_ok-read_numbered.field-0 ∷ []) (c.loop-text.text-index + 1) ≡ values_from c.args.braid.now c.args.order.now 1 (map (λ text. text.now) c.args.texts.now) =
    (turn_read (λ text. text.now) c.args.braid.now c.args.order.now c.args.texts.now _ c.loop-text.values.items c.loop-text.text-index _ c.len.result c.in_ok-read_numbered.field-0 counted c.loop-text-test.true c.in_ok-read_numbered.ensures.value c.loop-text.invariant.0) in
    rw pushed (
      turned,
      search rules,
      all-append (IsOver c.args.braid.now.letters) c.loop-text.values.items (c.in_ok-read_numbered.field-0 ∷ []) c.loop-text.invariant.2 (c.in_ok-read_numbered.ensures.letters, tt),
      all-append (AllElements c.args.braid.now.field) c.loop-text.values.items (c.in_ok-read_numbered.field-0 ∷ []) c.loop-text.invariant.3 (c.in_ok-read_numbered.ensures.elements, tt),
    )

pub returns-clause-values : goal.returns-clause-values
returns-clause-values c = turns_end (λ text. text.now) c.args.braid.now c.args.order.now c.args.texts.now _ c.loop-text.values.items c.loop-text.text-index c.loop-text-test.false c.loop-text.invariant.0

pub returns-in_err-read_numbered-clause-values : goal.returns-in_err-read_numbered-clause-values
returns-in_err-read_numbered-clause-values c =
    let counted : c.len.result ≡ length c.loop-text.values.items = search rules in
    let refused : IfSome (refusal_of c.in_err-read_numbered.field-0.0) (λ refusal. values_from c.args.braid.now c.args.order.now 1 (map (λ text. text.now) c.args.texts.now) ≡ Err refusal) =
    turn_refused (λ text. text.now) c.args.braid.now c.args.order.now c.args.texts.now _ c.loop-text.values.items c.loop-text.text-index _ c.len.result (refusal_of c.in_err-read_numbered.field-0.0) counted c.loop-text-test.true c.in_err-read_numbered.ensures.value c.loop-text.invariant.0 in
    search (rules, refused)
