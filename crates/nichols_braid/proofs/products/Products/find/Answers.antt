use Rattle.std.proofs.Common.{◌≡◌, ℕ, ◌<◌, length, List, ◌∙◌, subst}
use Rattle.std.specs.Prelude.{MatchOption}
use Rattle.std.specs.List.{Contains}
use Rattle.nichols_tensor.specs.Positions.{word_at}
use Rattle.nichols_braid.proofs.Indexed.{look_up}
use Rattle.nichols_braid.proofs.products.Products.find.Goals as goal

pub returns : goal.returns
returns c =
    subst (λ (gs : List (List ℕ)). MatchOption c.copied.result (Contains gs c.args.product.now → ⊥) (λ k. (k < length gs) × (word_at gs k ≡ c.args.product.now))) c.self.view_is
    (look_up c.self.inside.items.items c.self.inside.places c.args.product.now c.copied.result c.self.invariant (c.copied.ensures ∙ c.get.ensures.value))
