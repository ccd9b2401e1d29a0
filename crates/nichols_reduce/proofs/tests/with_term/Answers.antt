use Rattle.std.proofs.Common.{rules}
use Rattle.nichols_reduce.proofs.tests.with_term.Goals as goal

pub returns-clause-letters : goal.returns-clause-letters
returns-clause-letters c =
    c.in_ok-longer.ensures.letters c.args.braid.now.letters c.requires.letters (c.in_ok-single.ensures.letters c.args.braid.now.letters (search rules))
