use Rattle.std.proofs.Common.{◌≡◌, ◌∙◌, ap, arith, None}
use Rattle.std.proofs.lemmas.Result.{err_from_is_err_and}
use Rattle.nichols_top.specs.Cover.{cover_piece, first_difference}
use Rattle.nichols_top.specs.Report.{piece}
use Rattle.nichols_top.proofs.Covers.{cover_text_is}
use Rattle.nichols_top.proofs.Taking.{no_memory_first}
use Rattle.nichols_top.proofs.cover.put_cover_piece.Goals as goal

pub returns-in_err-cover-clause-piece : goal.returns-in_err-cover-clause-piece
returns-in_err-cover-clause-piece g c = let p = err_from_is_err_and c.from_residual.result c.from_residual.ensures.1 in rw (p.1, p.2) (no_memory_first (omega arith))

pub returns-in_err-text-clause-piece : goal.returns-in_err-text-clause-piece
returns-in_err-text-clause-piece g c = let p = err_from_is_err_and c.from_residual-in_err-text.result c.from_residual-in_err-text.ensures.1 in rw (p.1, p.2) (no_memory_first (omega arith))

pub returns-in_err-put-clause-piece : goal.returns-in_err-put-clause-piece
returns-in_err-put-clause-piece g c =
    let p = err_from_is_err_and c.from_residual-in_err-put.result c.from_residual-in_err-put.ensures.1 in
    let is : piece c.as_slice-2.result.now None ≡ cover_piece c.args.graded.now.braid c.args.graded.now.last =
    cover_text_is c.args.graded.now.braid c.args.graded.now.last c.in_ok-cover.cover (c.as_slice-2.ensures.value ∙ c.in_ok-text.ensures)
    (c.first_difference-difference.ensures ∙ ap (first_difference c.args.graded.now.braid) (c.as_slice.ensures.value ∙ ap (λ v. v.dimensions) c.cover.view_is)) c.in_ok-cover.ensures.cover in
    rw (p.1, p.2, ← is) c.in_err-put.ensures.piece

pub returns-clause-piece : goal.returns-clause-piece
returns-clause-piece g c =
    let is : piece c.as_slice-2.result.now None ≡ cover_piece c.args.graded.now.braid c.args.graded.now.last =
    cover_text_is c.args.graded.now.braid c.args.graded.now.last c.in_ok-cover.cover (c.as_slice-2.ensures.value ∙ c.in_ok-text.ensures)
    (c.first_difference-difference.ensures ∙ ap (first_difference c.args.graded.now.braid) (c.as_slice.ensures.value ∙ ap (λ v. v.dimensions) c.cover.view_is)) c.in_ok-cover.ensures.cover in
    rw (← is) c.in_ok-put.ensures.piece
