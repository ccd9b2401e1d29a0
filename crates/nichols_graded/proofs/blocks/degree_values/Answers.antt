use Rattle.std.proofs.Common.{suc, length, ℕ, subst}
use Rattle.nichols_layout.specs.Values.{AreRight}
use Rattle.nichols_layout.proofs.DegreeParts.{right_parts}
use Rattle.nichols_crew.proofs.Counted.{closed_counted}
use Rattle.nichols_graded.proofs.blocks.degree_values.Goals as goal

pub returns-clause-values : goal.returns-clause-values
returns-clause-values g c =
    let b = c.args.levels.now.braid in
    let n : ℕ = length c.args.above.now in
    let e = c.in_ok-values.ensures in
    right_parts b c.args.rows_limit (suc c.args.levels.now.last) n c.in_ok-values.field-0.values.items c.by_degree.result.items
    (subst (λ ks. AreRight b c.args.rows_limit ks c.in_ok-values.field-0.values.items) e.keys e.values) c.by_degree.ensures

pub returns-clause-counted : goal.returns-clause-counted
returns-clause-counted g c =
    let e = c.in_ok-values.ensures in
    closed_counted c.args.levels.now.braid c.args.levels.now.last (suc c.args.levels.now.last) (length c.args.above.now) c.in_ok-values.field-0.closed.plan (g.G.Gate.count c.args.gate.now) (g.G.Gate.count c.closed.new.self) e.keys e.layout c.closed.ensures
