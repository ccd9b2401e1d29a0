use Rattle.std.proofs.Common.{◌≡◌}
use Rattle.nichols_shelf.proofs.tests.threads.run_out.Given as goal

abbrev pub invariant-loop : goal.invariant-loop
invariant-loop l = l.pure.layout ≡ l.initial.pure.layout
