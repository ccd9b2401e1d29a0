use Rattle.std.proofs.Common.{◌<◌, length, subst, arith}
use Rattle.nichols_field.specs.Field.{IsElement}
use Rattle.nichols_field.proofs.FieldLaws.{one_is_element}
use Rattle.nichols_tensor.proofs.Values.{value_is_element}
use Rattle.nichols_reduce.proofs.KeptForms.{value_more}
use Rattle.nichols_reduce.proofs.words.put_values.Goals as goal

pub add_product_to-requires-clause-left : goal.add_product_to-requires-clause-left
add_product_to-requires-clause-left c =
    subst (IsElement c.args.field) (c.coefficient.ensures.value c.args.field c.modulus-modulus.ensures.field c.requires.elements) (value_is_element c.args.field c.modulus-modulus.ensures.field c.args.comb.now c.word-item.result)

pub add_product_to-requires-clause-right : goal.add_product_to-requires-clause-right
add_product_to-requires-clause-right c = one_is_element c.args.field c.modulus-modulus.ensures.field

pub loop-word-preserved : goal.loop-word-preserved
loop-word-preserved c =
    let inside : c.loop-word.word-index < length c.args.words.now = omega arith in
    value_more c.args.field c.modulus-modulus.ensures.field c.args.comb.now c.args.words.now c.loop-word.sums.items c.push.new.self.items c.loop-word.word-index c.add_product_to.result c.coefficient.result c.word-item.result inside c.word-item.is c.loop-word.invariant c.in_ok-push.ensures.items
    (c.coefficient.ensures.value c.args.field c.modulus-modulus.ensures.field c.requires.elements) c.add_product_to.ensures
