use Rattle.std.proofs.Common.{◌≡◌, ℕ, ◌+◌, List, [], ◌∷◌, ◌++◌, length, length-append, sym, ◌∙◌, ap, arith, subst}
use Rattle.std.specs.List.{Contains}
use Rattle.nichols_braid.specs.Products.{each_once}
use Rattle.nichols_braid.proofs.EachOnce.{each_once-known, each_once-new, from_each_once, in_each_once}
use Rattle.nichols_braid.proofs.Indexed.{found_in, not_found_in}
use Rattle.nichols_braid.proofs.products.Products.with.Goals as goal

pub returns-then-is_some : goal.returns-then-is_some
returns-then-is_some c = λ gs e.
    e ∙ sym (each_once-known gs c.args.product (from_each_once gs c.args.product (subst (λ l. Contains l c.args.product) e (found_in c.args.self c.args.product c.find.result c.find.ensures (sym c.is_some.ensures ∙ c.if-is_some.true)))))

-- a product that isn't found is new to any list with these entries
goes_on : (gs ps : List (List ℕ)) (g : List ℕ) → ps ≡ each_once gs → (Contains ps g → ⊥) → each_once (gs ++ g ∷ []) ≡ ps ++ g ∷ []
goes_on gs ps g e other = each_once-new gs g (λ i. other (subst (λ l. Contains l g) (sym e) (in_each_once gs g i))) ∙ ap (λ l. l ++ g ∷ []) (sym e)

pub returns-then-len-eq-MOST_PRODUCTS : goal.returns-then-len-eq-MOST_PRODUCTS
returns-then-len-eq-MOST_PRODUCTS c = λ gs e wide.
    let more : length (each_once (gs ++ c.args.product ∷ [])) ≡ length c.args.self + 1 =
    ap length (goes_on gs c.args.self c.args.product e (not_found_in c.args.self c.args.product c.find.result c.find.ensures (sym c.is_some.ensures ∙ c.if-is_some.false))) ∙ length-append c.args.self (c.args.product ∷ []) in
    omega (arith, more, c.len.ensures.value, c.if-len-eq-MOST_PRODUCTS.true)

pub returns : goal.returns
returns c = λ gs e.
    c.in_ok-with_new.ensures ∙ sym (goes_on gs c.args.self c.args.product e (not_found_in c.args.self c.args.product c.find.result c.find.ensures (sym c.is_some.ensures ∙ c.if-is_some.false)))
