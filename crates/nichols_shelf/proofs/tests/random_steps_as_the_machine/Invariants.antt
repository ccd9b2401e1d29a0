use Rattle.std.proofs.Common.{◌≡◌, length}
use Rattle.nichols_shelf.specs.Passes.{IsOf, plan_of, view_of}
use Rattle.nichols_shelf.specs.Played.{KeepsNumbers}
use Rattle.nichols_shelf.proofs.tests.random_steps_as_the_machine.Given as goal

abbrev pub invariant-loop : goal.invariant-loop
invariant-loop g l =
    IsOf l.shelf l.zero.pass × IsOf l.shelf l.one.pass
    × KeepsNumbers (view_of l.initial.zero.pass) (view_of l.zero.pass) × KeepsNumbers (view_of l.initial.one.pass) (view_of l.one.pass)
    × (l.pure.layout ≡ (plan_of l.shelf).layout) × (length l.pure.layout.degrees ≡ 9)
