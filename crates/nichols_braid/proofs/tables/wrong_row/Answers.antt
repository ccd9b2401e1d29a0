use Rattle.std.proofs.Common.{◌+◌, ◌<◌, ◌∙◌, ap, map, arith}
use Rattle.nichols_braid.specs.Faults.{row_fits}
use Rattle.nichols_braid.proofs.TableSteps.{row_found, row_passed}
use Rattle.nichols_braid.proofs.tables.wrong_row.Goals as goal

pub returns-then-not-row_fits : goal.returns-then-not-row_fits
returns-then-not-row_fits g c =
    row_found c.args.letters (map (λ row. row.items) c.args.rows.now) c.loop-r.r c.row_fits.result (let h : c.loop-r.r < c.args.letters + 1 = omega arith in h) c.loop-r.invariant (c.row_fits.ensures ∙ ap (λ n. row_fits n (map (λ row. row.items) c.args.rows.now) (c.loop-r.r + 1)) c.from-n.ensures) c.if-not-row_fits.true

pub loop-r-preserved : goal.loop-r-preserved
loop-r-preserved g c =
    row_passed c.args.letters (map (λ row. row.items) c.args.rows.now) c.loop-r.r c.row_fits.result c.loop-r.invariant (c.row_fits.ensures ∙ ap (λ n. row_fits n (map (λ row. row.items) c.args.rows.now) (c.loop-r.r + 1)) c.from-n.ensures) c.if-not-row_fits.false
