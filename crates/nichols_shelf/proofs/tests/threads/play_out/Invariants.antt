use Rattle.nichols_shelf.specs.Played.{StaysOf}
use Rattle.nichols_shelf.proofs.tests.threads.play_out.Given as goal

abbrev pub invariant-loop : goal.invariant-loop
invariant-loop l =
    StaysOf l.shelf l.initial.zero.pass l.zero.pass × StaysOf l.shelf l.initial.one.pass l.one.pass
    × StaysOf l.shelf l.initial.two.pass l.two.pass × StaysOf l.shelf l.initial.three.pass l.three.pass
