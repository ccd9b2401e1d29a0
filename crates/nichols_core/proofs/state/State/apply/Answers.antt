use Rattle.std.proofs.Common.{◌≡◌, List, sym, ap, ◌∙◌, subst}
use Rattle.nichols_core.specs.declared.edge.Edge.{Edge}
use Rattle.nichols_core.specs.declared.state.State.TheInside.{Inside}
use Rattle.nichols_core.specs.Layout.{LayoutValue}
use Rattle.nichols_core.specs.States.{StateValue, IsInRange, Applies, marks_value}
use Rattle.nichols_core.proofs.StatesKept.{have_place_of, state_kept}
use Rattle.nichols_core.proofs.state.State.apply.Goals as goal

-- the state that the fields are
value : Inside → StateValue
value s = record { layout = s.layout; workers = s.workers; marks = marks_value s.marks }

pub apply-requires-clause-place : goal.apply-requires-clause-place
unfolding value
apply-requires-clause-place c =
    have_place_of (value c.self.inside) c.args.event c.self.invariant
    (subst (λ (s : StateValue). IsInRange s c.args.event) (sym c.self.view_is) c.requires.in_range)

pub invariant_of-self : goal.invariant_of-self
unfolding value
invariant_of-self c =
    let same : c.args.layout.now.edges ≡ c.self.inside.layout.edges = ap (λ (l : LayoutValue). l.edges) c.requires.layout ∙ ap (λ (s : StateValue). s.layout.edges) (sym c.self.view_is) in
    state_kept (value c.self.inside) c.args.event (marks_value c.apply.new.self) c.apply.result c.self.invariant
    (subst (λ (es : List Edge). Applies es c.args.event (marks_value c.self.inside.marks) (marks_value c.apply.new.self) c.apply.result) same c.apply.ensures)
