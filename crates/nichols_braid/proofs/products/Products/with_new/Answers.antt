use Rattle.std.proofs.Common.{ℕ, ◌<◌, cond, Some, List, length, sym, ◌∙◌, ap, subst}
use Rattle.std.specs.BTreeMap.{get, is_at}
use Rattle.std.specs.Cmp.Lexicographic.{slice_cmp}
use Rattle.std.specs.List.{Contains}
use Rattle.std.specs.Ordering.{nat_cmp}
use Rattle.nichols_braid.specs.ProductIndex.{IsIndexed}
use Rattle.nichols_braid.specs.declared.TheConstants.{MOST_PRODUCTS}
use Rattle.nichols_braid.proofs.Indexed.{indexed-push}
use Rattle.nichols_braid.proofs.products.Products.with_new.Goals as goal

pub invariant_of-result : goal.invariant_of-result
invariant_of-result c =
    subst (λ (gs : List (List ℕ)). IsIndexed gs c.insert.new.self) (sym c.in_ok-push.ensures.items)
    (indexed-push c.self.inside.items.items c.self.inside.places c.insert.new.self c.args.product c.self.invariant
    (subst (λ (gs : List (List ℕ)). length gs < MOST_PRODUCTS) (sym c.self.view_is) c.requires.room) (subst (λ (gs : List (List ℕ)). Contains gs c.args.product → ⊥) (sym c.self.view_is) c.requires.new)
    (λ q. c.in_ok-_none.ensures.updates.0 q ∙ ap (λ n. cond (is_at (slice_cmp nat_cmp c.args.product) q) (Some n) (get (slice_cmp nat_cmp) c.self.inside.places q)) (c.len.ensures ∙ c.self.inside.items.ok.0)))
