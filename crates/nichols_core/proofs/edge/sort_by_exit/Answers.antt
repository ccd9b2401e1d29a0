use Rattle.std.proofs.Common.{rules}
use Rattle.std.proofs.lemmas.List.Sorted.{IsNonDecreasingBy-from_sort_by_key}
use Rattle.nichols_core.specs.Layout.{exit_place}
use Rattle.nichols_core.proofs.edge.sort_by_exit.Goals as goal

pub returns-clause-sorted : goal.returns-clause-sorted
returns-clause-sorted c = IsNonDecreasingBy-from_sort_by_key exit_place _ c.sort_unstable_by_key.ensures.sorted (λ a r q k. search rules)
