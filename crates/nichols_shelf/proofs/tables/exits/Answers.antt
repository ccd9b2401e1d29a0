use Rattle.std.proofs.Common.{◌≡◌, length, ap, arith}
use Rattle.nichols_core.specs.Layout.{LayoutValue}
use Rattle.nichols_shelf.proofs.Edges.{exits_apart}
use Rattle.nichols_shelf.proofs.Entered.{entered}
use Rattle.nichols_shelf.proofs.tables.exits.Goals as goal

pub loop-number-preserved : goal.loop-number-preserved
loop-number-preserved c =
    let l = c.args.layout.now in
    let same : length c.layout.inside.edges.items ≡ length l.edges = ap (λ (v : LayoutValue). length v.edges) c.layout.view_is in
    let placed = c.edge-edge.ensures.placed in
    entered (λ e. e.lower) l c.loop-number.table.items c.loop-number.number c.letter_place.result c.edge-edge.result (omega arith)
    (exits_apart l c.places.ensures.rules) c.edge-edge.ensures.edge placed.lower placed.from_one placed.to_last c.letter_place.ensures c.loop-number.invariant
