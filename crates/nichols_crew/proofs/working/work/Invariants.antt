use Rattle.std.proofs.Common.{◌+◌, ◌-◌, ◌≤◌, vec_capacity}
use Rattle.nichols_shelf.specs.Passes.{IsOf, plan_of, view_of}
use Rattle.nichols_shelf.specs.Places.{blocks}
use Rattle.nichols_shelf.specs.Played.{KeepsNumbers}
use Rattle.nichols_shelf.specs.Settled.{HoldsNothing, ResumesNothing}
use Rattle.nichols_crew.specs.Kept.{IsKept, most_takes, remaining}
use Rattle.nichols_crew.proofs.working.work.Given as goal

abbrev pub decreases-loop-alloc : goal.decreases-loop-alloc
decreases-loop-alloc g l = remaining (plan_of l.shelf) l.made.items (view_of l.pass) + (most_takes (plan_of l.shelf) - l.counts.strangers) + (256 - l.counts.scans)

abbrev pub invariant-loop-alloc : goal.invariant-loop-alloc
invariant-loop-alloc g l = record {
  of : IsOf l.shelf l.pass;
  numbers : KeepsNumbers (view_of l.initial.pass) (view_of l.pass);
  holds : HoldsNothing (view_of l.pass);
  resumes : ResumesNothing (view_of l.pass);
  kept : IsKept (plan_of l.shelf) (view_of l.pass) l.made.items;
  room : blocks (plan_of l.shelf) ≤ vec_capacity l.made;
  strangers : l.counts.strangers ≤ most_takes (plan_of l.shelf);
  scans : l.counts.scans ≤ 256;
}
