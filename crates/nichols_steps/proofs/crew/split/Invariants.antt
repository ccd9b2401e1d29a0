use Rattle.std.proofs.Common.{◌≡◌, ◌+◌, All, vec_len}
use Rattle.nichols_shelf.specs.Passes.{IsOf, view_of}
use Rattle.nichols_shelf.specs.Played.{IsFresh}
use Rattle.nichols_steps.specs.Crew.{IsZeroth}
use Rattle.nichols_steps.proofs.crew.split.Given as goal

abbrev pub invariant-loop-worker : goal.invariant-loop-worker
invariant-loop-worker l = record {
  zero : IsZeroth l.pairs.shelf (vec_len l.others) l.pass;
  fresh : IsFresh (view_of l.pass);
  count : 1 + vec_len l.others ≡ l._worker;
  others : All (λ w. IsOf l.pairs.shelf w.hand.pass) l.others.items;
}
