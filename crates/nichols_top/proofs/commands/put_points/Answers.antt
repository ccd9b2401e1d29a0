use Rattle.std.proofs.Common.{◌∙◌, ap, length}
use Rattle.std.proofs.lemmas.Result.{err_from_is_err_and}
use Rattle.nichols_tensor.specs.Words.{up_to}
use Rattle.nichols_tensor.proofs.Letters.{up_to_length}
use Rattle.nichols_braid.specs.Points.{points_braid}
use Rattle.nichols_top.specs.Algebra.{in_brief, scope_of}
use Rattle.nichols_top.specs.Written.{writer_seen}
use Rattle.nichols_top.proofs.Statuses.{algebra_unwritten}
use Rattle.nichols_top.proofs.commands.put_points.Goals as goal

pub returns-in_err-braid-clause-report : goal.returns-in_err-braid-clause-report
returns-in_err-braid-clause-report g c =
    let p = err_from_is_err_and c.from_residual.result c.from_residual.ensures.1 in
    rw (p.1, p.2) (algebra_unwritten (points_braid c.args.k) (up_to (points_braid c.args.k).letters) (in_brief (scope_of c.args.options)) (writer_seen g.K.Sink.taken g.K.Sink.faults c.args.out.now))

pub put_algebra-requires-clause-letters : goal.put_algebra-requires-clause-letters
put_algebra-requires-clause-letters g c κs within = ap length c.plain-order.ensures.value ∙ up_to_length c.letters.result ∙ c.letters.ensures
