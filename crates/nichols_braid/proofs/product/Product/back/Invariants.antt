use Rattle.std.proofs.Common.{◌≡◌, ℕ, ◌-◌, ◌<◌, length}
use Rattle.std.specs.Prelude.{slice_index}
use Rattle.nichols_braid.proofs.InlineProducts.{IsPadded}
use Rattle.nichols_braid.proofs.product.Product.back.Given as goal

abbrev pub invariant-loop-j : goal.invariant-loop-j
invariant-loop-j l = IsPadded (length l.row) l.images × ((k : ℕ) → k < l.j → slice_index l.images (slice_index l.row k - 1) ≡ slice_index l.own k)
