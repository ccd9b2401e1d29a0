use Rattle.std.proofs.Common.{◌≡◌, ℕ, ◌<◌, length, List, subst}
use Rattle.nichols_tensor.specs.Positions.{word_at}
use Rattle.nichols_braid.proofs.Indexed.{once_indexed}
use Rattle.nichols_braid.proofs.products.Products.len.Goals as goal

pub returns-clause-once : goal.returns-clause-once
returns-clause-once c =
    subst (λ (gs : List (List ℕ)). (i j : ℕ) → i < length gs → j < length gs → word_at gs i ≡ word_at gs j → i ≡ j) c.self.view_is (once_indexed c.self.inside.items.items c.self.inside.places c.self.invariant)
