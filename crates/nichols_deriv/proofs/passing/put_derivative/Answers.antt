use Rattle.std.proofs.Common.{◌≡◌, ◌-◌, ◌∙◌, ap, ap₂, sym, subst, refl, take, set, get_or, arith}
use Rattle.nichols_field.specs.Field.{times}
use Rattle.nichols_tensor.specs.Combination.{Term}
use Rattle.nichols_braid.specs.Braid.{scalar}
use Rattle.nichols_deriv.proofs.Passed.{IsPassing, passing_start, passing-other, passing-here, passed_all, stepped, stepped_some, stepped_none}
use Rattle.nichols_deriv.proofs.passing.put_derivative.Goals.{then-a-letter+in_ok-push, else-a-letter}
use Rattle.nichols_deriv.proofs.passing.put_derivative.Goals as goal

pub loop-left-init : goal.loop-left-init
loop-left-init c =
    let t : Term = record { word = c.term.inside.word; coefficient = c.term.inside.coefficient } in
    let passed : c.prefix-passed.result ≡ take (c.len-left.result - 1) t.word = c.prefix-passed.ensures ∙ ap (λ n. take n t.word) c.saturating_sub.ensures in
    subst (λ (u : Term). IsPassing c.args.braid.now c.args.a u.coefficient u.word c.args.out.now.items c.len-left.result c.prefix-passed.result t.coefficient c.args.out.now.items) c.term.view_is
    (subst (λ p. IsPassing c.args.braid.now c.args.a t.coefficient t.word c.args.out.now.items c.len-left.result p t.coefficient c.args.out.now.items) (sym passed)
    (passing_start c.args.braid.now c.field-field.ensures.braid.field c.args.a t.coefficient t.word c.args.out.now.items c.len-left.result c.len-left.ensures.value (subst (λ (u : Term). Rattle.nichols_field.specs.Field.IsElement c.args.braid.now.field u.coefficient) (sym c.term.view_is) c.requires.coefficient) c.requires.elements))

pub loop-left-preserved-then-left-gt0 : goal.loop-left-preserved-then-left-gt0
loop-left-preserved-then-left-gt0 c =
    let letter : c.letter-letter.result ≡ get_or c.args.term.now.word (c.loop-left.left - 1) 0 = c.letter-letter.ensures.value ∙ ap (λ (u : Term). get_or u.word (c.loop-left.left - 1) 0) c.term.view_is in
    let next : c.set.new.self ≡ stepped c.args.braid.now c.args.a (c.loop-left.left - 1) c.loop-left.passed c.letter-letter.result =
    c.set.ensures ∙ ap (λ x. set c.loop-left.passed (c.loop-left.left - 1 - 1) x) c.act.ensures.value ∙ stepped_some c.args.braid.now c.args.a (c.loop-left.left - 1) c.loop-left.passed c.letter-letter.result c.if-left-gt0.true in
    let product : c.mul-scalar.result ≡ times c.args.braid.now.field c.loop-left.scalar (scalar c.args.braid.now c.args.a c.letter-letter.result) =
    c.mul-scalar.ensures.product ∙ ap₂ (λ k q. times k c.loop-left.scalar q) c.field-field.ensures.field c.scalar.ensures.value in
    elim c.if-a-letter.branch [
      | then-a-letter+in_ok-push w ↦
          rw (w.out-is, w.in_ok-push.ensures.items)
          (passing-here c.args.braid.now c.field-field.ensures.braid.field c.args.a c.args.term.now.coefficient c.args.term.now.word c.args.out.now.items c.loop-left.left (c.loop-left.left - 1) c.loop-left.passed c.loop-left.scalar c.loop-left.out.items c.loop-left-test.true refl c.loop-left.invariant
          c.letter-letter.result letter w.if-a-letter.true c.set.new.self c.mul-scalar.result next product)
      | else-a-letter w ↦
          rw w.out-is
          (passing-other c.args.braid.now c.field-field.ensures.braid.field c.args.a c.args.term.now.coefficient c.args.term.now.word c.args.out.now.items c.loop-left.left (c.loop-left.left - 1) c.loop-left.passed c.loop-left.scalar c.loop-left.out.items c.loop-left-test.true refl c.loop-left.invariant
          c.letter-letter.result letter w.if-a-letter.false c.set.new.self c.mul-scalar.result next product)
    ]

pub loop-left-preserved : goal.loop-left-preserved
loop-left-preserved c =
    let letter : c.letter-letter.result ≡ get_or c.args.term.now.word (c.loop-left.left - 1) 0 = c.letter-letter.ensures.value ∙ ap (λ (u : Term). get_or u.word (c.loop-left.left - 1) 0) c.term.view_is in
    let next : c.loop-left.passed ≡ stepped c.args.braid.now c.args.a (c.loop-left.left - 1) c.loop-left.passed c.letter-letter.result =
    stepped_none c.args.braid.now c.args.a (c.loop-left.left - 1) c.loop-left.passed c.letter-letter.result c.if-left-gt0.false in
    let product : c.mul-scalar.result ≡ times c.args.braid.now.field c.loop-left.scalar (scalar c.args.braid.now c.args.a c.letter-letter.result) =
    c.mul-scalar.ensures.product ∙ ap₂ (λ k q. times k c.loop-left.scalar q) c.field-field.ensures.field c.scalar.ensures.value in
    elim c.if-a-letter.branch [
      | then-a-letter+in_ok-push w ↦
          rw (w.out-is, w.in_ok-push.ensures.items)
          (passing-here c.args.braid.now c.field-field.ensures.braid.field c.args.a c.args.term.now.coefficient c.args.term.now.word c.args.out.now.items c.loop-left.left (c.loop-left.left - 1) c.loop-left.passed c.loop-left.scalar c.loop-left.out.items c.loop-left-test.true refl c.loop-left.invariant
          c.letter-letter.result letter w.if-a-letter.true c.loop-left.passed c.mul-scalar.result next product)
      | else-a-letter w ↦
          rw w.out-is
          (passing-other c.args.braid.now c.field-field.ensures.braid.field c.args.a c.args.term.now.coefficient c.args.term.now.word c.args.out.now.items c.loop-left.left (c.loop-left.left - 1) c.loop-left.passed c.loop-left.scalar c.loop-left.out.items c.loop-left-test.true refl c.loop-left.invariant
          c.letter-letter.result letter w.if-a-letter.false c.loop-left.passed c.mul-scalar.result next product)
    ]

pub returns-clause-value : goal.returns-clause-value
returns-clause-value c =
    passed_all c.args.braid.now c.args.a c.args.term.now.coefficient c.args.term.now.word c.args.out.now.items c.loop-left.left c.loop-left.passed c.loop-left.scalar c.loop-left.out.items (omega (arith, c.loop-left-test.false)) c.loop-left.invariant
