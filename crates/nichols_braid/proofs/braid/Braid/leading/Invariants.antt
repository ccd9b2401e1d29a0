use Rattle.std.proofs.Common.{◌≡◌, ℕ, ◌<◌, ◌≤◌, false, [], ◌∷◌}
use Rattle.nichols_braid.specs.Product.{product_of, has_product}
use Rattle.nichols_braid.proofs.braid.Braid.leading.Given as goal

abbrev pub invariant-loop-b : goal.invariant-loop-b
invariant-loop-b l = (d : ℕ) → 1 ≤ d → d < l.b → has_product l.self (product_of l.self (l.a ∷ [])) (d ∷ []) ≡ false
