use Rattle.std.proofs.Common.{◌≡◌, ◌++◌, drop}
use Rattle.nichols_block.specs.Gathered.{gathered_from}
use Rattle.nichols_block.proofs.words.gathered.Given as goal

-- what was put out, and then what is still to be gathered, are all
abbrev pub invariant-loop-entry : goal.invariant-loop-entry
invariant-loop-entry l = l.out.items ++ gathered_from l.last (drop l.entry-index l.rest) ≡ gathered_from l.initial.last l.rest
