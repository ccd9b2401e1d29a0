use Rattle.std.proofs.Common.{◌≡◌, length, sym, ◌∙◌, subst}
use Rattle.std.specs.Prelude.{Err, IfOk, Ok, Result}
use Rattle.std.specs.declared.alloc.AllocError.{AllocError}
use Rattle.nichols_layout.specs.Values.{AreRight}
use Rattle.nichols_shelf.specs.Closed.{last_view, plan_in}
use Rattle.nichols_shelf.specs.Plan.{PlanValue}
use Rattle.nichols_crew.specs.Hands.{AreAnswered}
use Rattle.nichols_crew.specs.Wave.{IsWave}
use Rattle.nichols_crew.specs.declared.ended.Wave.{Wave}
use Rattle.nichols_crew.proofs.WholeWaves.{are_right, is_wave, plan}
use Rattle.nichols_crew.proofs.waving.wave.Goals as goal

pub through_shelf-requires-clause-wave : goal.through_shelf-requires-clause-wave
through_shelf-requires-clause-wave g c κs within =
    let b = c.args.levels.now.braid in
    let last = c.args.levels.now.last in
    let laid = c.in_ok-layout.ensures in
    let r = c.requires in
    subst (λ (p : PlanValue). IsWave b last p) (sym c.in_ok-shelf.ensures.plan)
    (is_wave b last (length c.args.above.now) c.args.rows_limit c.in_ok-layout.keys.items c.in_ok-layout.layout laid.keys laid.layout r.room r.some_rows r.few_rows r.within)

pub returns-clause-values : goal.returns-clause-values
returns-clause-values g c = at c.through_shelf.result c.through_shelf.ensures.plan c.through_shelf.ensures.answered
  where
    made : PlanValue
    made = plan c.args.levels.now.braid c.in_ok-layout.layout c.in_ok-layout.keys.items c.args.rows_limit

    at : (o : Result Wave AllocError) → IfOk o (λ w. plan_in w.closed ≡ c.in_ok-shelf.shelf.plan) → IfOk o (λ w. AreAnswered c.in_ok-shelf.shelf.plan (last_view w.closed) w.values.items)
        → IfOk o (λ w. AreRight c.args.levels.now.braid c.args.rows_limit (plan_in w.closed).keys w.values.items)
    at (Err e) plan answered = tt
    at (Ok w) plan answered =
        let same = plan ∙ c.in_ok-shelf.ensures.plan in
        let laid = c.in_ok-layout.ensures in
        let values : AreAnswered made (last_view w.closed) w.values.items = subst (λ (p : PlanValue). AreAnswered p (last_view w.closed) w.values.items) c.in_ok-shelf.ensures.plan answered in
        subst (λ (p : PlanValue). AreRight c.args.levels.now.braid c.args.rows_limit p.keys w.values.items) (sym same)
        (are_right c.args.levels.now.braid c.args.levels.now.last (length c.args.above.now) c.args.rows_limit c.in_ok-layout.keys.items c.in_ok-layout.layout laid.keys laid.layout (last_view w.closed) w.values.items values)
