use Rattle.std.proofs.Common.{◌≡◌, ◌≤◌, ◌*◌, ap, arith, subst, sym}
use Rattle.nichols_echelon.specs.Rows.{RowsValue}
use Rattle.nichols_cover.specs.Ideal.{generators}
use Rattle.nichols_cover.specs.Rows.{AreProductRows}
use Rattle.nichols_cover.proofs.ProductRows.{products_more}
use Rattle.nichols_cover.proofs.products.product_rows.Goals as goal

pub loop-number-preserved : goal.loop-number-preserved
loop-number-preserved c = record {
  zero = c.in_ok-push_products.ensures.zero;
  width = subst (λ m. c.args.level.now.count * c.args.letters ≤ m) (sym c.in_ok-push_products.ensures.width) c.loop-number.invariant.width;
  begun = ap (λ (v : RowsValue). v.begun) c.in_ok-push_products.ensures.rows.closed;
  rows = products_more c.args.field c.args.letters c.args.level.now.forms.rows c.loop-number.number (generators c.args.field c.args.quadratic.now) c.loop-number.rows c.push_products.new.rows c.loop-number.invariant.rows c.in_ok-push_products.ensures.rows;
}

pub returns-clause-rows : goal.returns-clause-rows
returns-clause-rows c =
    let end : c.loop-number.number ≡ c.args.level.now.below = omega arith in
    subst (λ n. AreProductRows c.args.field c.args.letters c.args.level.now.forms.rows n (generators c.args.field c.args.quadratic.now) c.loop-number.rows.rows) end c.loop-number.invariant.rows
