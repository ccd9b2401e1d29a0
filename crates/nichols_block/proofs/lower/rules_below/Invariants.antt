use Rattle.std.proofs.Common.{◌≡◌, ◌≤◌, ◌-◌, [], ℕ, None, length, slice_index_or}
use Rattle.std.specs.Prelude.{MatchOption}
use Rattle.nichols_braid.specs.Product.{product_before}
use Rattle.nichols_value.specs.Block.{lower_basis}
use Rattle.nichols_value.specs.Rule.{rule_of}
use Rattle.nichols_block.proofs.lower.rules_below.Given as goal

abbrev pub invariant-loop-b : goal.invariant-loop-b
invariant-loop-b l = record {
  count : length l.rules.items ≡ l.b;
  each : (c : ℕ) → 1 ≤ c → c ≤ l.b → MatchOption (slice_index_or l.rules.items (c - 1) None) (lower_basis l.braid l.key.degree l.key.product c ≡ []) (λ s. s.now ≡ rule_of l.braid (l.key.degree - 1) (product_before l.braid c l.key.product));
}
