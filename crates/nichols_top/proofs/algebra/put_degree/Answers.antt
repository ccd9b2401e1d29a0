use Rattle.std.proofs.Common.{◌≡◌, ◌∙◌, arith}
use Rattle.std.proofs.lemmas.Result.{err_from_is_err_and}
use Rattle.nichols_braid.specs.Kernel.{is_in_kernel}
use Rattle.nichols_braid.specs.Least.{basis, relations}
use Rattle.nichols_text.specs.Pieces.{degree_piece}
use Rattle.nichols_top.specs.Algebra.{degree_due}
use Rattle.nichols_top.proofs.Taking.{no_memory_first}
use Rattle.nichols_top.proofs.algebra.put_degree.Goals as goal

pub returns-in_err-text-clause-piece : goal.returns-in_err-text-clause-piece
returns-in_err-text-clause-piece g c = let p = err_from_is_err_and c.from_residual.result c.from_residual.ensures.1 in rw (p.1, p.2) (no_memory_first (omega arith))

pub returns-clause-piece : goal.returns-clause-piece
unfolding degree_due
returns-clause-piece g c =
    let braid = c.args.graded.now.braid in
    let m = c.args.m in
    let text : c.as_slice.result.now ≡ degree_piece braid.field c.args.order.now m (basis is_in_kernel braid m) (relations is_in_kernel braid m) c.args.brief = c.as_slice.ensures.value ∙ c.in_ok-text.ensures in
    rw (← text) c.put.ensures.piece
