use Rattle.std.proofs.Common.{◌∙◌, sym, subst, refl, arith}
use Rattle.nichols_braid.specs.Braid.{IsBraid}
use Rattle.nichols_graded.proofs.FinishedDegrees.{graded_start, same_ahead}
use Rattle.nichols_graded.proofs.graded.Graded.start.Goals as goal

pub invariant_of-result : goal.invariant_of-result
invariant_of-result c =
    let l = c.reserve.new.self in
    let braid = c.in_ok-reserve.ensures.braid ∙ c.in_ok-levels.ensures.braid in
    let last = c.in_ok-reserve.ensures.last ∙ c.in_ok-levels.ensures.last in
    let room = c.in_ok-reserve.ensures.room in (
      graded_start l.braid (subst IsBraid (sym braid) c.field-field.ensures.braid) c.args.degree_limit c.args.rows_limit c.args.window l.last c.requires.degrees c.requires.some_rows c.requires.few_rows c.requires.some_window c.requires.few_window last,
      λ going. same_ahead l.braid l.braid c.args.degree_limit c.args.rows_limit 0 l.last c.in_ok-ahead.ahead refl (sym last) c.in_ok-ahead.ensures,
      omega (arith, room),
    )
