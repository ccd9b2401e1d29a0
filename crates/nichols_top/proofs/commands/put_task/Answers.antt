use Rattle.std.proofs.Common.{ap}
use Rattle.nichols_top.specs.Counted.{task_blocks}
use Rattle.nichols_top.specs.Due.{task_due}
use Rattle.nichols_top.proofs.CountedBlocks.{answered_nothing}
use Rattle.nichols_top.proofs.commands.put_task.Goals as goal

pub returns-in-Algebra-clause-report : goal.returns-in-Algebra-clause-report
unfolding task_due
returns-in-Algebra-clause-report g c = rw (c.in-Algebra.is, ← (ap (λ d. d.braid) c.document.view_is), ← (ap (λ d. d.order) c.document.view_is)) c.put_algebra.ensures.report

pub returns-in-Reduce-clause-report : goal.returns-in-Reduce-clause-report
unfolding task_due
returns-in-Reduce-clause-report g c = rw c.in-Reduce.is c.put_reduce.ensures.report

pub returns-in-Symmetrize-clause-report : goal.returns-in-Symmetrize-clause-report
unfolding task_due
returns-in-Symmetrize-clause-report g c = rw c.in-Symmetrize.is c.put_symmetrize.ensures.report

pub returns-in-Algebra-clause-counted : goal.returns-in-Algebra-clause-counted
unfolding task_blocks
returns-in-Algebra-clause-counted g c = rw (c.in-Algebra.is, ← (ap (λ d. d.braid) c.document.view_is)) c.put_algebra.ensures.counted

pub returns-in-Reduce-clause-counted : goal.returns-in-Reduce-clause-counted
unfolding task_blocks
returns-in-Reduce-clause-counted g c = rw c.in-Reduce.is c.put_reduce.ensures.counted

pub returns-in-Symmetrize-clause-counted : goal.returns-in-Symmetrize-clause-counted
unfolding task_blocks
returns-in-Symmetrize-clause-counted g c = rw c.in-Symmetrize.is (answered_nothing c.put_symmetrize.result (g.G.Gate.count c.args.gate.now))

pub returns-in-Cover-clause-report : goal.returns-in-Cover-clause-report
unfolding task_due
returns-in-Cover-clause-report g c = rw (c.in-Cover.is, ← (ap (λ d. d.braid) c.document-in-Cover.view_is), ← (ap (λ d. d.order) c.document-in-Cover.view_is)) c.put_cover.ensures.report

pub returns-in-Cover-clause-counted : goal.returns-in-Cover-clause-counted
unfolding task_blocks
returns-in-Cover-clause-counted g c = rw (c.in-Cover.is, ← (ap (λ d. d.braid) c.document-in-Cover.view_is)) c.put_cover.ensures.counted

pub returns-in-Table-clause-report : goal.returns-in-Table-clause-report
unfolding task_due
returns-in-Table-clause-report g c = rw (c.in-Table.is, ← (ap (λ d. d.braid) c.document-in-Table.view_is), ← (ap (λ d. d.order) c.document-in-Table.view_is)) c.put_table.ensures.report

pub returns-in-Table-clause-counted : goal.returns-in-Table-clause-counted
unfolding task_blocks
returns-in-Table-clause-counted g c = rw (c.in-Table.is, ← (ap (λ d. d.braid) c.document-in-Table.view_is)) c.put_table.ensures.counted

pub returns-in-Product-clause-report : goal.returns-in-Product-clause-report
unfolding task_due
returns-in-Product-clause-report g c = rw c.in-Product.is c.put_product.ensures.report

pub returns-in-Product-clause-counted : goal.returns-in-Product-clause-counted
unfolding task_blocks
returns-in-Product-clause-counted g c = rw c.in-Product.is c.put_product.ensures.counted
