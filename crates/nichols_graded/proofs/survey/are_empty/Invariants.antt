use Rattle.std.proofs.Common.{◌≡◌, ◌<◌, ℕ, []}
use Rattle.nichols_tensor.specs.Positions.{word_at}
use Rattle.nichols_braid.specs.Products.{products}
use Rattle.nichols_value.specs.Block.{block_basis}
use Rattle.nichols_graded.proofs.survey.are_empty.Given as goal

abbrev pub invariant-loop-k : goal.invariant-loop-k
invariant-loop-k l = (i : ℕ) → i < l.k → block_basis l.braid l._degree (word_at (products l.braid l._degree) i) ≡ []
