use Rattle.std.proofs.Common.{◌≡◌, ◌++◌, take}
use Rattle.nichols_graded.proofs.merged.put_relations.Given as goal

abbrev pub invariant-loop-k : goal.invariant-loop-k
invariant-loop-k l = l.relations.items ≡ l.fn.relations.items ++ take l.k l.rule.table
