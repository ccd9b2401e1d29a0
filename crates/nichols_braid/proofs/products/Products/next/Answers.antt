use Rattle.std.proofs.Common.{◌<◌, length, take, sym, ◌∙◌, ap, arith, subst}
use Rattle.std.specs.List.{flat_map, Contains}
use Rattle.std.proofs.lemmas.List.{take_all}
use Rattle.std.proofs.lemmas.Result.{err_from_is_err_and}
use Rattle.nichols_tensor.specs.Positions.{word_at}
use Rattle.nichols_tensor.proofs.Rising.{word_at_is_in}
use Rattle.nichols_braid.specs.Products.{each_once}
use Rattle.nichols_braid.specs.declared.TheConstants.{MOST_PRODUCTS}
use Rattle.nichols_braid.proofs.EachOnce.{once_of_none}
use Rattle.nichols_braid.proofs.NextProducts.{followed, products_next, products_size, products_more, wide_products}
use Rattle.nichols_braid.proofs.products.Products.next.Goals as goal

pub loop-k-init : goal.loop-k-init
loop-k-init c = c.none-out.ensures ∙ sym once_of_none

pub with_followed-requires : goal.with_followed-requires
with_followed-requires c =
    let (m, e) = c.requires in
    ap length c.at.ensures ∙ products_size c.args.braid.now m (word_at c.args.self.now c.loop-k.k) (subst (λ l. Contains l (word_at c.args.self.now c.loop-k.k)) e (word_at_is_in c.args.self.now c.loop-k.k (rw (← c.len-k-end.ensures.value) c.loop-k-test.true)))

pub returns-in_err-out : goal.returns-in_err-out
returns-in_err-out c =
    let p = err_from_is_err_and c.from_residual.result c.from_residual.ensures.1 in
    rw (p.1, p.2)
    (λ m e wide. subst (λ l. MOST_PRODUCTS < length l) (ap (λ l. each_once (flat_map (followed c.args.braid.now) l)) e ∙ sym (products_next c.args.braid.now c.field-braid.ensures.braid m))
    (wide_products (followed c.args.braid.now) c.args.self.now MOST_PRODUCTS c.loop-k.k c.at.result.now (rw (← c.len-k-end.ensures.value) c.loop-k-test.true) c.at.ensures
    (c.in_err-out.ensures (flat_map (followed c.args.braid.now) (take c.loop-k.k c.args.self.now)) c.loop-k.invariant wide)))

pub loop-k-preserved : goal.loop-k-preserved
loop-k-preserved c =
    c.in_ok-out.ensures (flat_map (followed c.args.braid.now) (take c.loop-k.k c.args.self.now)) c.loop-k.invariant
    ∙ ap each_once (products_more (followed c.args.braid.now) c.args.self.now c.loop-k.k c.at.result.now (rw (← c.len-k-end.ensures.value) c.loop-k-test.true) c.at.ensures)

pub returns : goal.returns
returns c = λ m e. (
  c.loop-k.invariant ∙ ap (λ l. each_once (flat_map (followed c.args.braid.now) l)) (take_all c.loop-k.k c.args.self.now (omega (arith, c.len-k-end.ensures.value, c.loop-k-test.false)) ∙ e)
      ∙ sym (products_next c.args.braid.now c.field-braid.ensures.braid m),
  c.len-few.ensures.limit,
)
