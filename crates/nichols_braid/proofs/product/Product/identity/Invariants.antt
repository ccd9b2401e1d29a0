use Rattle.std.proofs.Common.{◌≡◌, ℕ, suc, ◌<◌}
use Rattle.std.specs.Prelude.{slice_index}
use Rattle.nichols_braid.proofs.InlineProducts.{IsPadded}
use Rattle.nichols_braid.proofs.product.Product.identity.Given as goal

abbrev pub invariant-loop-j : goal.invariant-loop-j
invariant-loop-j l = IsPadded l.letters l.images × ((k : ℕ) → k < l.j → slice_index l.images k ≡ suc k)
