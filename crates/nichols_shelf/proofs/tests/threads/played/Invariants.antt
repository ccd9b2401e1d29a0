use Rattle.nichols_shelf.specs.Passes.{IsOf, view_of}
use Rattle.nichols_shelf.specs.Played.{KeepsNumbers}
use Rattle.nichols_shelf.proofs.tests.threads.played.Given as goal

abbrev pub invariant-loop : goal.invariant-loop
invariant-loop l = IsOf l.shelf l.player.pass × KeepsNumbers (view_of l.initial.player.pass) (view_of l.player.pass)
