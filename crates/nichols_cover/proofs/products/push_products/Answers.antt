use Rattle.std.proofs.Common.{◌∙◌, arith}
use Rattle.nichols_cover.proofs.ProductRows.{put_more}
use Rattle.nichols_cover.proofs.products.push_products.Goals as goal

pub loop-relation-preserved : goal.loop-relation-preserved
loop-relation-preserved c = record {
  zero = c.in_ok-drain_into.ensures.zero;
  width = c.in_ok-drain_into.ensures.width ∙ c.add_product.ensures.width ∙ c.loop-relation.invariant.width;
  put = put_more c.args.field c.modulus-modulus.ensures.field c.args.letters c.args.level.now.forms.rows c.args.number c.args.quadratic.now c.loop-relation.relation-index c.relation-item.result c.args.rows.now c.loop-relation.rows c.drain_into.new.rows
      c.loop-relation.sums c.add_product.new.sums (omega arith) c.relation-item.is c.loop-relation.invariant.zero c.add_product.ensures.value c.in_ok-drain_into.ensures.row c.loop-relation.invariant.put;
}
