use Rattle.std.proofs.Common.{◌≡◌, ◌<◌, ◌∙◌, ap, length, arith}
use Rattle.std.proofs.lemmas.Bool.Decides.{nat_tests}
use Rattle.std.proofs.lemmas.Result.{err_from_is_err_and}
use Rattle.nichols_product.specs.Products.{products_of}
use Rattle.nichols_product.proofs.AnswerLaws.{answers_are_of_first_factors}
use Rattle.nichols_top.specs.NormalLine.{normal_piece}
use Rattle.nichols_top.specs.Report.{numbered_pieces}
use Rattle.nichols_top.specs.declared.normals.Told.TheVariants.{Products}
use Rattle.nichols_top.proofs.Products.{product_pieces_are, some_first_product}
use Rattle.nichols_top.proofs.Taking.{no_memory_first}
use Rattle.nichols_top.proofs.product.put_first_products.Goals as goal

pub returns-in_err-products-clause-pieces : goal.returns-in_err-products-clause-pieces
returns-in_err-products-clause-pieces g c =
    let p = err_from_is_err_and c.from_residual.result c.from_residual.ensures.1 in
    let some : 0 < length c.args.expressions.now = grind (arith, nat_tests, c.is_empty.ensures, c.if-is_empty.false) in
    rw (p.1, p.2) (no_memory_first (some_first_product c.args.ended.now.graded c.args.order.now c.args.ended.now.stop c.args.expressions.now some))

pub put_normals-requires : goal.put_normals-requires
put_normals-requires g c =
    let graded = c.args.ended.now.graded in
    let count : length c.as_slice.result.now ≡ length c.args.expressions.now =
    ap length (c.as_slice.ensures.value ∙ c.in_ok-products.ensures) ∙ (answers_are_of_first_factors graded.braid graded.last c.args.expressions.now).0 in
    record { number = omega (arith, count, c.requires.number) }

pub returns-clause-pieces : goal.returns-clause-pieces
returns-clause-pieces g c =
    let graded = c.args.ended.now.graded in
    let answers : c.as_slice.result.now ≡ products_of graded.braid graded.last c.args.expressions.now = c.as_slice.ensures.value ∙ c.in_ok-products.ensures in
    let field : c.field-field.result ≡ graded.braid.field = c.field-field.ensures.field ∙ ap (λ b. b.field) (c.braid.ensures ∙ c.levels.ensures.braid) in
    rw (← (ap (λ k. numbered_pieces (normal_piece Products k c.args.order.now) 1 c.as_slice.result.now) field ∙ ap (numbered_pieces (normal_piece Products graded.braid.field c.args.order.now) 1) answers
    ∙ product_pieces_are graded c.args.order.now c.args.ended.now.stop c.args.expressions.now c.levels.ensures.graded c.requires.reached c.requires.letters)) c.put_normals.ensures.pieces
