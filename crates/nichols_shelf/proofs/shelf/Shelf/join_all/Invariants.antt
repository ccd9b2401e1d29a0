use Rattle.std.proofs.Common.{◌≡◌, ◌+◌, length}
use Rattle.nichols_shelf.specs.Passes.{IsOf, view_of}
use Rattle.nichols_shelf.specs.Joining.{AreNumbered, joined_views}
use Rattle.nichols_shelf.proofs.shelf.Shelf.join_all.Given as goal

abbrev pub invariant-loop-other : goal.invariant-loop-other
invariant-loop-other l = record {
  of : IsOf l.self l.pass;
  worker : (view_of l.pass).worker ≡ 0;
  numbered : AreNumbered l.self (view_of l.pass).joined l.other-iterator.rest.items;
  joined : (view_of l.pass).joined + length l.other-iterator.rest.items ≡ (view_of l.initial.pass).joined + length l.fn.others.items;
  passes : (view_of l.pass).passes ≡ (view_of l.initial.pass).passes;
  held : (view_of l.pass).held ≡ (view_of l.initial.pass).held;
  resumed : (view_of l.pass).resumed ≡ (view_of l.initial.pass).resumed;
  view : joined_views (view_of l.pass) l.other-iterator.rest.items ≡ joined_views (view_of l.initial.pass) l.fn.others.items;
}
