use Rattle.std.proofs.Common.{◌≤◌, drop, length}
use Rattle.nichols_echelon.specs.Sums.{IsZero}
use Rattle.nichols_value.specs.Block.{block_basis}
use Rattle.nichols_block.specs.Pass.{IsPassing}
use Rattle.nichols_block.proofs.Passes.{words_in}
use Rattle.nichols_block.proofs.forms.block_forms.Given as goal

abbrev pub invariant-loop-k : goal.invariant-loop-k
invariant-loop-k l = record {
  zero : IsZero l.braid.field l.sums;
  width : length (block_basis l.braid l.key.degree l.key.product) ≤ length l.sums;
  passing : IsPassing l.braid l.key.degree l.key.product l.places (drop l.k (words_in l.listed)) l.forms.right.items l.forms.left.items l.forms.spots.items l.numbers.columns.items l.numbers.least;
}
