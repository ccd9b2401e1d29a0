use Rattle.std.proofs.Common.{◌≡◌, ◌<◌, ◌+◌, ◌≤◌, ℕ, Vec, Global, None, slice_index_or, length, vec_capacity}
use Rattle.nichols_braid.specs.declared.TheConstants.{MOST_PRODUCTS}
use Rattle.nichols_value.specs.declared.shared.Shared.{Shared}
use Rattle.nichols_graded.specs.Ahead.{AreRulesOf, end_after}
use Rattle.nichols_graded.proofs.survey.survey.Given as goal

abbrev pub invariant-loop-i : goal.invariant-loop-i
invariant-loop-i l = record {
  rules : (j : ℕ) (d : Vec Shared Global) → j < l.i → AreRulesOf l.braid (l.first + j) (slice_index_or l.values j d).items;
  going : (j : ℕ) → j < l.i → end_after l.braid l.limits.0 l.limits.1 (l.first + j) ≡ None;
  left : l.i < length l.values;
  room : MOST_PRODUCTS ≤ vec_capacity l.sizes;
}
