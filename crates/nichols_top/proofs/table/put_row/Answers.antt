use Rattle.std.proofs.Common.{◌≡◌, ◌∷◌, [], ◌∙◌, ap, ap₂, arith, map, subst, None}
use Rattle.std.proofs.lemmas.List.{length-map}
use Rattle.std.proofs.lemmas.List.Concat.{flat_map_single}
use Rattle.std.proofs.lemmas.Result.{err_from_is_err_and}
use Rattle.nichols_braid.specs.Kernel.{is_killed}
use Rattle.nichols_braid.specs.Least.{basis}
use Rattle.nichols_product.specs.WordProducts.{product_of_words}
use Rattle.nichols_top.specs.Report.{piece}
use Rattle.nichols_top.specs.Table.{times_due}
use Rattle.nichols_top.specs.TableLines.{times_line}
use Rattle.nichols_top.specs.Written.{BreaksIn, Takes, writer_seen}
use Rattle.nichols_top.proofs.Each.{each_breaks, each_put, each_whole}
use Rattle.nichols_top.proofs.Tables.{no_least_word, times_piece_is}
use Rattle.nichols_top.proofs.Taking.{no_memory_first}
use Rattle.nichols_top.proofs.table.put_row.Goals as goal

pub products_with-requires-clause-closed : goal.products_with-requires-clause-closed
products_with-requires-clause-closed g c =
    ap₂ (basis is_killed) c.levels-levels.ensures.braid c.levels-levels.ensures.last ∙ no_least_word c.args.graded.now.braid c.levels-levels.ensures.graded.braid c.args.graded.now.last c.requires.closed

pub returns-in_err-products-clause-pieces : goal.returns-in_err-products-clause-pieces
returns-in_err-products-clause-pieces g c =
    let p = err_from_is_err_and c.from_residual.result c.from_residual.ensures.1 in
    let count = length-map c.args.others.now (times_due c.args.graded.now.braid c.args.order.now c.args.word.now) in
    rw (p.1, p.2) (no_memory_first (omega (arith, count, c.requires.some)))

pub returns-in_err-put_times-clause-pieces : goal.returns-in_err-put_times-clause-pieces
returns-in_err-put_times-clause-pieces g c =
    let p = err_from_is_err_and c.from_residual-in_err-put_times.result c.from_residual-in_err-put_times.ensures.1 in
    let is : piece (times_line c.field-field.result c.args.order.now c.args.word.now c.index-others-k.result c.index-forms-k.result) None ≡ times_due c.args.graded.now.braid c.args.order.now c.args.word.now c.index-others-k.result =
    times_piece_is c.args.graded.now.braid c.levels-levels.ensures.graded.braid c.field-field.result c.args.order.now c.args.word.now c.args.others.now c.loop-k.k c.index-others-k.result c.as_slice-forms.result.now c.index-forms-k.result
    (c.field-field.ensures.field ∙ ap (λ b. b.field) (c.braid.ensures ∙ c.levels-levels.ensures.braid)) c.requires.letters c.requires.other_letters (omega arith) c.index-others-k.is
    (c.as_slice-forms.ensures.value ∙ c.in_ok-products.ensures ∙ ap (λ b. map (product_of_words b c.args.word.now) c.args.others.now) c.levels-levels.ensures.braid) c.index-forms-k.is in
    rw (p.1, p.2, ← (flat_map_single (times_due c.args.graded.now.braid c.args.order.now c.args.word.now) c.args.others.now))
    (each_breaks (λ v. times_due c.args.graded.now.braid c.args.order.now c.args.word.now v ∷ []) c.args.others.now c.loop-k.k c.index-others-k.result (omega arith) c.index-others-k.is c.loop-k.invariant.taken
    (subst (λ q. BreaksIn (q ∷ []) (writer_seen g.K.Sink.taken g.K.Sink.faults c.loop-k.out) (writer_seen g.K.Sink.taken g.K.Sink.faults c.put_times.new.out) c.in_err-put_times.field-0.0) is c.in_err-put_times.ensures.piece))

pub loop-k-preserved : goal.loop-k-preserved
loop-k-preserved g c =
    let is : piece (times_line c.field-field.result c.args.order.now c.args.word.now c.index-others-k.result c.index-forms-k.result) None ≡ times_due c.args.graded.now.braid c.args.order.now c.args.word.now c.index-others-k.result =
    times_piece_is c.args.graded.now.braid c.levels-levels.ensures.graded.braid c.field-field.result c.args.order.now c.args.word.now c.args.others.now c.loop-k.k c.index-others-k.result c.as_slice-forms.result.now c.index-forms-k.result
    (c.field-field.ensures.field ∙ ap (λ b. b.field) (c.braid.ensures ∙ c.levels-levels.ensures.braid)) c.requires.letters c.requires.other_letters (omega arith) c.index-others-k.is
    (c.as_slice-forms.ensures.value ∙ c.in_ok-products.ensures ∙ ap (λ b. map (product_of_words b c.args.word.now) c.args.others.now) c.levels-levels.ensures.braid) c.index-forms-k.is in
    record {
      same_sink = c.in_ok-put_times.ensures.same_sink ∙ c.loop-k.invariant.same_sink;
      taken = each_put (λ v. times_due c.args.graded.now.braid c.args.order.now c.args.word.now v ∷ []) c.args.others.now c.loop-k.k c.index-others-k.result (omega arith) c.index-others-k.is c.loop-k.invariant.taken
          (subst (λ q. Takes (q ∷ []) (writer_seen g.K.Sink.taken g.K.Sink.faults c.loop-k.out) (writer_seen g.K.Sink.taken g.K.Sink.faults c.put_times.new.out)) is c.in_ok-put_times.ensures.piece);
    }

pub returns-clause-pieces : goal.returns-clause-pieces
returns-clause-pieces g c =
    rw (← (flat_map_single (times_due c.args.graded.now.braid c.args.order.now c.args.word.now) c.args.others.now)) (each_whole (λ v. times_due c.args.graded.now.braid c.args.order.now c.args.word.now v ∷ []) c.args.others.now c.loop-k.k (omega arith) c.loop-k.invariant.taken)
