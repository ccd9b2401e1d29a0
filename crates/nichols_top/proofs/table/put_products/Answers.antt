use Rattle.std.proofs.Common.{suc, ◌∙◌, arith}
use Rattle.std.specs.List.{range_with_len}
use Rattle.std.proofs.lemmas.Result.{err_from_is_err_and}
use Rattle.nichols_top.proofs.Tables.{small_enough, some_table, too_large}
use Rattle.nichols_top.proofs.Taking.{no_memory_first}
use Rattle.nichols_top.proofs.table.put_products.Goals as goal

pub returns-in_err-dimension-clause-pieces : goal.returns-in_err-dimension-clause-pieces
returns-in_err-dimension-clause-pieces g c =
    let p = err_from_is_err_and c.from_residual.result c.from_residual.ensures.1 in
    rw (p.1, p.2) (no_memory_first (some_table c.args.graded.now.braid c.levels-levels.ensures.graded.braid c.args.order.now c.args.graded.now.last))

pub returns-in_err-text-clause-pieces : goal.returns-in_err-text-clause-pieces
returns-in_err-text-clause-pieces g c =
    let p = err_from_is_err_and c.from_residual-in_err-text.result c.from_residual-in_err-text.ensures.1 in
    rw (p.1, p.2) (no_memory_first (some_table c.args.graded.now.braid c.levels-levels.ensures.graded.braid c.args.order.now c.args.graded.now.last))

pub returns-in_err-words-clause-pieces : goal.returns-in_err-words-clause-pieces
returns-in_err-words-clause-pieces g c =
    let p = err_from_is_err_and c.from_residual-in_err-words.result c.from_residual-in_err-words.ensures.1 in
    rw (p.1, p.2) (no_memory_first (some_table c.args.graded.now.braid c.levels-levels.ensures.graded.braid c.args.order.now c.args.graded.now.last))

pub returns-then-dimension-gt-TABLE_LIMIT-clause-pieces : goal.returns-then-dimension-gt-TABLE_LIMIT-clause-pieces
returns-then-dimension-gt-TABLE_LIMIT-clause-pieces g c =
    rw (too_large c.args.graded.now.braid c.args.order.now (range_with_len 0 (suc c.args.graded.now.last)) c.in_ok-dimension.dimension c.in_ok-dimension.ensures (omega arith), ← (c.as_slice.ensures.value ∙ c.in_ok-text.ensures))
    c.put.ensures.piece

pub returns-clause-pieces : goal.returns-clause-pieces
returns-clause-pieces g c =
    rw (small_enough c.args.graded.now.braid c.args.order.now (range_with_len 0 (suc c.args.graded.now.last)) c.in_ok-dimension.dimension c.in_ok-dimension.ensures (omega arith), ← (c.as_slice-2.ensures.value ∙ c.in_ok-words.ensures))
    c.put_rows.ensures.pieces
