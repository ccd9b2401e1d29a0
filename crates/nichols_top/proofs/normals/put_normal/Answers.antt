use Rattle.std.proofs.Common.{◌∙◌, arith}
use Rattle.std.proofs.lemmas.Result.{err_from_is_err_and}
use Rattle.nichols_top.proofs.Taking.{no_memory_first}
use Rattle.nichols_top.proofs.normals.put_normal.Goals as goal

pub returns-in_err-text-clause-piece : goal.returns-in_err-text-clause-piece
returns-in_err-text-clause-piece g c = let p = err_from_is_err_and c.from_residual.result c.from_residual.ensures.1 in rw (p.1, p.2) (no_memory_first (omega arith))

pub returns-clause-piece : goal.returns-clause-piece
returns-clause-piece g c = rw (← (c.as_slice.ensures.value ∙ c.in_ok-text.ensures)) c.put.ensures.piece
