use Rattle.std.proofs.Common.{◌≡◌, ◌<◌, ◌∙◌, ap, map, length, arith}
use Rattle.std.proofs.lemmas.Bool.Decides.{nat_tests}
use Rattle.std.proofs.lemmas.Result.{err_from_is_err_and}
use Rattle.nichols_reduce.specs.Normal.{normal_of}
use Rattle.nichols_top.specs.NormalLine.{normal_piece}
use Rattle.nichols_top.specs.Reduce.{form_due}
use Rattle.nichols_top.specs.Report.{numbered_pieces}
use Rattle.nichols_top.specs.declared.normals.Told.TheVariants.{Forms}
use Rattle.nichols_top.proofs.Forms.{normal_pieces_are, some_pieces}
use Rattle.nichols_top.proofs.Taking.{no_memory_first}
use Rattle.nichols_top.proofs.reduce.put_forms.Goals as goal

pub returns-in_err-normals-clause-pieces : goal.returns-in_err-normals-clause-pieces
returns-in_err-normals-clause-pieces g c =
    let p = err_from_is_err_and c.from_residual.result c.from_residual.ensures.1 in
    let some : 0 < length c.args.expressions.now = grind (arith, nat_tests, c.is_empty.ensures, c.if-is_empty.false) in
    rw (p.1, p.2) (no_memory_first (some_pieces (form_due c.args.ended.now.graded.braid c.args.order.now c.args.ended.now.stop c.args.ended.now.graded.last) 1 c.args.expressions.now some))

pub returns-clause-pieces : goal.returns-clause-pieces
returns-clause-pieces g c =
    let graded = c.args.ended.now.graded in
    let answers : c.as_slice.result.now ≡ map (normal_of graded.braid graded.last) c.args.expressions.now =
    c.as_slice.ensures.value ∙ c.in_ok-normals.ensures
    ∙ ap (λ b. map (normal_of b c.levels-levels.result.now.last) c.args.expressions.now) c.levels-levels.ensures.braid ∙ ap (λ m. map (normal_of graded.braid m) c.args.expressions.now) c.levels-levels.ensures.last in
    let field : c.field.result ≡ graded.braid.field = c.field.ensures.field ∙ ap (λ b. b.field) (c.braid.ensures ∙ c.levels-levels.ensures.braid) in
    rw (← (ap (λ k. numbered_pieces (normal_piece Forms k c.args.order.now) 1 c.as_slice.result.now) field ∙ ap (numbered_pieces (normal_piece Forms graded.braid.field c.args.order.now) 1) answers
    ∙ normal_pieces_are graded c.args.order.now c.args.ended.now.stop 1 c.args.expressions.now c.levels-levels.ensures.graded c.requires.reached c.requires.letters)) c.put_normals.ensures.pieces
