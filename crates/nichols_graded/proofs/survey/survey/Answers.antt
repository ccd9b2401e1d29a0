use Rattle.std.proofs.Common.{◌≡◌, ◌+◌, suc, Vec, Global, length, get_or, ap, ◌∙◌, sym, subst, arith, inr}
use mathlib.Core.Logic.{dite}
use native.Mathlib.Decide.{ℕ_discrete}
use Rattle.nichols_value.specs.declared.shared.Shared.{Shared}
use Rattle.nichols_graded.specs.Ahead.{AreRulesOf, end_after}
use Rattle.nichols_graded.proofs.FinishedDegrees.{never_starved}
use Rattle.nichols_graded.proofs.SurveyLaws.{more_rules, rules_at, some_is_not_none, same_end}
use Rattle.nichols_graded.proofs.survey.survey.Goals.{then-is_some-via-then-is_some, then-is_some-via-else-is_some+then-i-values}
use Rattle.nichols_graded.proofs.survey.survey.Goals as goal

pub end_after-end-requires-clause-rules : goal.end_after-end-requires-clause-rules
end_after-end-requires-clause-rules c =
    let b = c.args.braid.now in
    let i = c.loop-i.i in
    let items : c.as_slice-in-loop-i.result.now ≡ (get_or c.args.values.now i c.index-values-i-in-loop-i.result).items = c.as_slice-in-loop-i.ensures.value ∙ ap (λ (x : Vec Shared Global). x.items) c.index-values-i-in-loop-i.is in
    subst (AreRulesOf b (c.args.first + i)) (sym items) (rules_at b c.args.limits.1 c.args.first (length c.args.values.now) i c.args.values.now c.index-values-i.result c.as_slice.result.now c.are_rules.result c.requires.right c.loop-i-test.true c.loop-i-test.true c.index-values-i.is c.as_slice.ensures.value c.are_rules.ensures c.if-not-are_rules.false c.index-values-i-in-loop-i.result)

pub returns-then-is_some : goal.returns-then-is_some
returns-then-is_some c =
    let b = c.args.braid.now in
    let i = c.loop-i.i in
    let inside = c.loop-i-test.true in
    let ends : c.end_after-end.result ≡ end_after b c.args.limits.0 c.args.limits.1 (c.args.first + i) = c.end_after-end.ensures.end in
    let next : i + 1 ≡ suc i = omega arith in
    record {
      most = omega (arith, inside);
      rules = more_rules b c.args.first i c.args.values.now c.loop-i.invariant.rules (rules_at b c.args.limits.1 c.args.first (length c.args.values.now) i c.args.values.now c.index-values-i.result c.as_slice.result.now c.are_rules.result c.requires.right c.loop-i-test.true c.loop-i-test.true c.index-values-i.is c.as_slice.ensures.value c.are_rules.ensures c.if-not-are_rules.false);
      going = λ j less. c.loop-i.invariant.going j (omega (arith, less));
      full = λ none.
          elim c.then-is_some.branch [
            | then-is_some-via-then-is_some w ↦ absurd (some_is_not_none c.end_after-end.result none (sym c.is_some.ensures ∙ w.if-is_some.true))
            | then-is_some-via-else-is_some+then-i-values w ↦ w.if-i-values.true
          ];
      short = λ e. absurd (never_starved b c.args.limits.0 c.args.limits.1 (c.args.first + i) (sym ends ∙ e));
      starved = λ e. absurd (never_starved b c.args.limits.0 c.args.limits.1 (c.args.first + i) (sym ends ∙ e));
      before = λ e. absurd (never_starved b c.args.limits.0 c.args.limits.1 (c.args.first + i) (sym ends ∙ e));
      told = inr (i, next, ends);
    }

pub loop-i-preserved : goal.loop-i-preserved
loop-i-preserved c =
    let b = c.args.braid.now in
    let i = c.loop-i.i in
    let inside = c.loop-i-test.true in
    let more = c.if-i-values.false in
    let ends : c.end_after-end.result ≡ end_after b c.args.limits.0 c.args.limits.1 (c.args.first + i) = c.end_after-end.ensures.end in
    record {
      rules = more_rules b c.args.first i c.args.values.now c.loop-i.invariant.rules (rules_at b c.args.limits.1 c.args.first (length c.args.values.now) i c.args.values.now c.index-values-i.result c.as_slice.result.now c.are_rules.result c.requires.right c.loop-i-test.true c.loop-i-test.true c.index-values-i.is c.as_slice.ensures.value c.are_rules.ensures c.if-not-are_rules.false);
      going = λ j less.
          dite (ℕ_discrete j i) (λ same. ap (λ k. end_after b c.args.limits.0 c.args.limits.1 (c.args.first + k)) same ∙ sym ends ∙ same_end c.end_after-end.result (sym c.is_some.ensures ∙ c.if-is_some.false))
          (λ other. c.loop-i.invariant.going j (omega (arith, less, other)));
      left = omega (arith, inside, more);
      room = c.end_after-end.ensures.room;
    }
