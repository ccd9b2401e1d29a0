use Rattle.std.proofs.Common.{◌≡◌, suc, ◌+◌, Some, sym, ◌∙◌, ap, arith}
use Rattle.nichols_graded.specs.declared.ends.Stop.TheVariants.{Wide}
use Rattle.nichols_graded.proofs.EndLaws.{stop_by_limit, stop_by_products}
use Rattle.nichols_graded.proofs.DegreeStops.{stop_is}
use Rattle.nichols_graded.proofs.Listed.{open_one}
use Rattle.nichols_graded.proofs.ahead.look_ahead.Goals as goal

pub returns-then-degree_limit-above : goal.returns-then-degree_limit-above
returns-then-degree_limit-above c =
    let t = c.if-degree_limit-above.true in
    stop_by_limit c.args.braid.now c.args.degree_limit c.args.rows_limit (suc c.args.degree) (omega (arith, t))

pub returns-in-Err-Wide : goal.returns-in-Err-Wide
returns-in-Err-Wide c =
    let t = c.if-degree_limit-above.false in
    let same : suc c.args.degree ≡ c.args.degree + 1 = omega arith in
    stop_by_products c.args.braid.now c.args.degree_limit c.args.rows_limit (suc c.args.degree) (omega (arith, t)) (c.in-Err-Wide.ensures c.args.degree c.requires.products c.in-Err-Wide.field-0-is) ∙ ap (λ n. Some (Wide n)) same

pub returns-in-Some : goal.returns-in-Some
returns-in-Some c =
    let t = c.if-degree_limit-above.false in
    let next = c.in-Ok.ensures c.args.degree c.requires.products in
    sym (c.in-Some.ensures ∙ stop_is c.args.braid.now c.field-braid.ensures.braid c.args.degree_limit c.args.rows_limit c.args.degree c.in-Ok.next (omega (arith, t)) next.0 next.1)

pub returns-in_ok-vec-in-None : goal.returns-in_ok-vec-in-None
returns-in_ok-vec-in-None c =
    let t = c.if-degree_limit-above.false in
    let next = c.in-Ok.ensures c.args.degree c.requires.products in (
      sym (c.in-None.ensures ∙ stop_is c.args.braid.now c.field-braid.ensures.braid c.args.degree_limit c.args.rows_limit c.args.degree c.in-Ok.next (omega (arith, t)) next.0 next.1),
      open_one c.args.braid.now c.args.degree_limit (suc c.args.degree) c.in_ok-vec-in-None.field-0.items c.in-Ok.next c.in_ok-vec-in-None.ensures.items (omega (arith, t)) next.0 next.1,
    )
