use Rattle.std.proofs.Common.{◌≡◌, ◌∙◌, sym, subst, arith}
use Rattle.std.specs.Prelude.{option_map}
use Rattle.std.proofs.lemmas.Result.{err_from_is_err_and}
use Rattle.nichols_text.specs.Pieces.{StopsLater}
use Rattle.nichols_top.proofs.EndLines.{later_line}
use Rattle.nichols_top.proofs.Finishing.{end_text_is}
use Rattle.nichols_top.proofs.Taking.{no_memory_first}
use Rattle.nichols_top.proofs.algebra.put_end.Goals as goal

pub returns-in_err-dimensions-clause-piece : goal.returns-in_err-dimensions-clause-piece
returns-in_err-dimensions-clause-piece g c = let p = err_from_is_err_and c.from_residual.result c.from_residual.ensures.1 in rw (p.1, p.2) (no_memory_first (omega arith))

pub returns-in_err-factors-clause-piece : goal.returns-in_err-factors-clause-piece
returns-in_err-factors-clause-piece g c = let p = err_from_is_err_and c.from_residual-in_err-factors.result c.from_residual-in_err-factors.ensures.1 in rw (p.1, p.2) (no_memory_first (omega arith))

pub returns-in_err-text-clause-piece : goal.returns-in_err-text-clause-piece
returns-in_err-text-clause-piece g c = let p = err_from_is_err_and c.from_residual-in_err-text.result c.from_residual-in_err-text.ensures.1 in rw (p.1, p.2) (no_memory_first (omega arith))

pub end_text-requires : goal.end_text-requires
end_text-requires g c = subst StopsLater (sym c.end_line-line.ensures) (later_line c.args.graded.now c.args.stop c.last.result c.as_slice.result.now c.levels.ensures.graded c.requires)

pub returns-clause-piece : goal.returns-clause-piece
returns-clause-piece g c =
    let factors : option_map (λ s. s.now) c.as_deref.result ≡ option_map (λ v. v.items) c.in_ok-factors.factors = c.as_deref.ensures.value in
    rw (← (end_text_is c.args.graded.now.braid c.args.stop c.args.graded.now.last (c.as_slice-3.ensures.value ∙ c.in_ok-text.ensures) c.end_line-line.ensures (c.last.ensures.value ∙ c.levels.ensures.last)
    (c.as_slice.ensures.value ∙ c.in_ok-dimensions.ensures.dimensions) (c.as_slice-2.ensures.value ∙ c.in_ok-dimensions.ensures.dimensions) (factors ∙ c.in_ok-factors.ensures))) c.put.ensures.piece
