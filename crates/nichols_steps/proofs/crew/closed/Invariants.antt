use Rattle.std.proofs.Common.{◌≡◌, ◌+◌, All, length}
use Rattle.nichols_shelf.specs.Passes.{IsOf, view_of}
use Rattle.nichols_shelf.specs.Settled.{HoldsNothing, ResumesNothing}
use Rattle.nichols_steps.proofs.crew.closed.Given as goal

abbrev pub invariant-loop-other : goal.invariant-loop-other
invariant-loop-other l = record {
  of_shelf : IsOf l.pairs.shelf l.pass;
  worker : (view_of l.pass).worker ≡ 0;
  joined : (view_of l.pass).joined ≡ l.next;
  passes : (view_of l.pass).passes ≡ l.next + length l.other-iterator.rest.items;
  holds : HoldsNothing (view_of l.pass);
  resumes : ResumesNothing (view_of l.pass);
  others : All (λ w. IsOf l.pairs.shelf w.hand.pass) l.other-iterator.rest.items;
}
