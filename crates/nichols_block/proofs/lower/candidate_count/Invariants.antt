use Rattle.std.proofs.Common.{◌≡◌, ◌*◌, ◌≤◌, length}
use Rattle.std.specs.List.{sum_by}
use Rattle.nichols_tensor.specs.Words.{up_to}
use Rattle.nichols_braid.specs.declared.TheConstants.{MOST_ROWS}
use Rattle.nichols_value.specs.Block.{lower_basis}
use Rattle.nichols_block.proofs.lower.candidate_count.Given as goal

-- the words of the letters before are counted
abbrev pub invariant-loop-b : goal.invariant-loop-b
invariant-loop-b l = record {
  counted : l.count ≡ sum_by (λ b. length (lower_basis l.braid l.key.degree l.key.product b)) (up_to l.b);
  few : l.count ≤ l.b * MOST_ROWS;
}
