use Rattle.std.proofs.Common.{◌≡◌, ◌∙◌, ap, ap₂, arith, get_or, length}
use Rattle.nichols_field.specs.Field.{plus, times}
use Rattle.nichols_field.proofs.FieldLaws.{one_is_element}
use Rattle.nichols_tensor.specs.Combination.{Combination, Term}
use Rattle.nichols_tensor.specs.Relation.{PlainRelation}
use Rattle.nichols_echelon.specs.Cells.{entry}
use Rattle.nichols_echelon.specs.Sums.{sum_at}
use Rattle.nichols_cover.specs.Rows.{cells_of_word}
use Rattle.nichols_cover.proofs.ProductSums.{begun_start, begun_more}
use Rattle.nichols_cover.proofs.products.add_product.Goals as goal

pub add_word-requires-clause-factor : goal.add_word-requires-clause-factor
add_word-requires-clause-factor c = one_is_element c.args.field c.modulus-modulus.ensures.field

pub neg-minus-requires : goal.neg-minus-requires
neg-minus-requires c = one_is_element c.args.field c.modulus-modulus.ensures.field

pub loop-term-init : goal.loop-term-init
loop-term-init c = record {
  sums = begun_start c.args.field c.modulus-modulus.ensures.field c.args.letters c.args.level.now.forms.rows c.args.number c.args.relation.now c.args.sums.now c.add_word.new.sums
      (λ place. c.add_word.ensures.value place
      ∙ ap (λ (r : PlainRelation). plus c.args.field (sum_at c.args.field c.args.sums.now place) (times c.args.field 1 (entry c.args.field (cells_of_word c.args.letters c.args.level.now.forms.rows c.args.number r.candidate) place))) c.relation.view_is);
  width = c.add_word.ensures.width;
}

pub loop-term-preserved : goal.loop-term-preserved
loop-term-preserved c =
    let items : c.terms-term-items.result.now ≡ c.args.relation.now.form = c.terms-term-items.ensures.same ∙ ap (λ (r : PlainRelation). r.form) c.relation.view_is in
    let count : length c.terms-term-items.result.now ≡ length c.args.relation.now.form = ap length items in
    record {
      sums = begun_more c.args.field c.modulus-modulus.ensures.field c.args.letters c.args.level.now.forms.rows c.args.number c.args.relation.now c.loop-term.term-index c.term-item.result c.mul-by.result c.args.sums.now c.loop-term.sums
          c.add_word-in-loop-term.new.sums (omega (arith, count)) (c.term-item.is ∙ ap (λ (f : Combination). get_or f c.loop-term.term-index c.term-item.result) items)
          (c.mul-by.ensures.product ∙ ap₂ (times c.args.field) c.neg-minus.ensures.negative (ap (λ (t : Term). t.coefficient) c.term.view_is))
          (λ place. c.add_word-in-loop-term.ensures.value place
          ∙ ap (λ (t : Term). plus c.args.field (sum_at c.args.field c.loop-term.sums place) (times c.args.field c.mul-by.result (entry c.args.field (cells_of_word c.args.letters c.args.level.now.forms.rows c.args.number t.word) place))) c.term.view_is)
          c.loop-term.invariant.sums;
      width = c.add_word-in-loop-term.ensures.width ∙ c.loop-term.invariant.width;
    }
