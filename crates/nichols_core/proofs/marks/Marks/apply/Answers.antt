use Rattle.std.proofs.Common.{sym, subst}
use Rattle.nichols_core.specs.declared.event.Event.{Event}
use Rattle.nichols_core.specs.States.{Applies, marks_value}
use Rattle.nichols_core.proofs.marks.Marks.apply.Goals as goal

pub returns-in-Take : goal.returns-in-Take
returns-in-Take c =
    subst (λ (e : Event). Applies c.args.layout.now.edges e (marks_value c.args.self.now) (marks_value c.take.new.self) c.take.result) (sym c.in-Take.is)
    (c.take.ensures c.args.layout.now.edges)

pub returns-in-Release : goal.returns-in-Release
returns-in-Release c =
    subst (λ (e : Event). Applies c.args.layout.now.edges e (marks_value c.args.self.now) (marks_value c.release.new.self) c.release.result) (sym c.in-Release.is)
    (c.release.ensures c.args.layout.now.edges)
