use Rattle.std.proofs.Common.{length, sym, ap, ◌∙◌, subst}
use Rattle.nichols_core.specs.Layout.{LayoutValue, IsLayout}
use Rattle.nichols_core.specs.Runs.{start}
use Rattle.nichols_core.specs.States.{AreOver, marks_value}
use Rattle.nichols_core.proofs.StatesKept.{start_is_state}
use Rattle.nichols_core.proofs.state.State.start.Goals as goal

pub invariant_of-result : goal.invariant_of-result
invariant_of-result c =
    let same = c.in_ok-kept.ensures in
    start_is_state c.in_ok-kept.kept c.args.workers (marks_value c.in_ok-marks.marks) (subst IsLayout c.kept.view_is c.kept.invariant)
    (subst (λ (l : LayoutValue). AreOver l c.args.workers (marks_value c.in_ok-marks.marks)) (sym same) c.in_ok-marks.ensures.over)
    (c.in_ok-marks.ensures.start ∙ ap (λ (l : LayoutValue). start (length l.degrees)) (sym same))
