use Rattle.std.proofs.Common.{◌∙◌, arith, map, refl}
use Rattle.std.proofs.lemmas.Result.{err_from_is_err_and}
use Rattle.nichols_top.specs.Table.{products_due, times_due}
use Rattle.nichols_top.proofs.Each.{each_breaks, each_put, each_start, each_whole}
use Rattle.nichols_top.proofs.Tables.{word_made, words_over}
use Rattle.nichols_top.proofs.table.put_rows.Goals as goal

pub loop-word-init : goal.loop-word-init
loop-word-init g c = record { same_sink = refl; taken = each_start (λ u. map (times_due c.args.graded.now.braid c.args.order.now u) c.args.words.now) c.args.words.now }

pub put_row-requires-clause-letters : goal.put_row-requires-clause-letters
put_row-requires-clause-letters g c = (word_made c.args.graded.now.braid c.args.graded.now.last c.args.words.now c.loop-word.word-index c.word-item.result c.requires.words c.loop-word-test.true c.word-item.is).over

pub put_row-requires-clause-made : goal.put_row-requires-clause-made
put_row-requires-clause-made g c = (word_made c.args.graded.now.braid c.args.graded.now.last c.args.words.now c.loop-word.word-index c.word-item.result c.requires.words c.loop-word-test.true c.word-item.is).made

pub put_row-requires-clause-other_letters : goal.put_row-requires-clause-other_letters
put_row-requires-clause-other_letters g c = words_over c.args.graded.now.braid c.args.graded.now.last c.args.words.now c.requires.words

pub returns-in_err-put_row-clause-pieces : goal.returns-in_err-put_row-clause-pieces
unfolding products_due
returns-in_err-put_row-clause-pieces g c =
    let p = err_from_is_err_and c.from_residual.result c.from_residual.ensures.1 in
    rw (p.1, p.2) (each_breaks (λ u. map (times_due c.args.graded.now.braid c.args.order.now u) c.args.words.now) c.args.words.now c.loop-word.word-index c.word-item.result c.loop-word-test.true c.word-item.is c.loop-word.invariant.taken c.in_err-put_row.ensures.pieces)

pub loop-word-preserved : goal.loop-word-preserved
loop-word-preserved g c = record {
  same_sink = c.in_ok-put_row.ensures.same_sink ∙ c.loop-word.invariant.same_sink;
  taken = each_put (λ u. map (times_due c.args.graded.now.braid c.args.order.now u) c.args.words.now) c.args.words.now c.loop-word.word-index c.word-item.result c.loop-word-test.true c.word-item.is c.loop-word.invariant.taken c.in_ok-put_row.ensures.pieces;
}

pub returns-clause-pieces : goal.returns-clause-pieces
unfolding products_due
returns-clause-pieces g c = each_whole (λ u. map (times_due c.args.graded.now.braid c.args.order.now u) c.args.words.now) c.args.words.now c.loop-word.word-index (omega arith) c.loop-word.invariant.taken
