use Rattle.std.proofs.Common.{◌≡◌, ℕ, ◌-◌, ◌<◌, length}
use Rattle.std.specs.Prelude.{slice_index}
use Rattle.nichols_braid.proofs.InlineProducts.{IsPadded}
use Rattle.nichols_braid.proofs.product.Product.times.Given as goal

abbrev pub invariant-loop-j : goal.invariant-loop-j
invariant-loop-j l = IsPadded (length l.row) l.images × ((k : ℕ) → k < l.j → slice_index l.images k ≡ slice_index l.own (slice_index l.row k - 1))
