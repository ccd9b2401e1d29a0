use Rattle.std.proofs.Common.{◌≡◌, ◌+◌, length, ◌≤◌, vec_len, vec_capacity}
use Rattle.nichols_shelf.specs.Passes.{IsOf, plan_of, view_of}
use Rattle.nichols_shelf.specs.Settled.{HoldsNothing, OwesNothing, ResumesNothing}
use Rattle.nichols_crew.specs.Hands.{all_made, AreHands, IsKeptIfOnce}
use Rattle.nichols_crew.proofs.gathering.gather.Given as goal

abbrev pub invariant-loop-other : goal.invariant-loop-other
invariant-loop-other l = record {
  of : IsOf l.fn.shelf l.pass;
  worker : (view_of l.pass).worker ≡ 0;
  count : (view_of l.pass).joined + length l.other-iterator.rest.items ≡ (view_of l.pass).passes;
  holds : HoldsNothing (view_of l.pass);
  resumes : ResumesNothing (view_of l.pass);
  owes : OwesNothing (view_of l.pass);
  others : AreHands l.fn.shelf (view_of l.pass).joined l.other-iterator.rest.items;
  kept : IsKeptIfOnce (plan_of l.fn.shelf) (view_of l.pass) (all_made l.lists.items);
  room : vec_len l.lists + length l.other-iterator.rest.items ≤ vec_capacity l.lists;
}
