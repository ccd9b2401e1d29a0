use Rattle.std.proofs.Common.{arith, ◌≡◌, ◌<◌, ◌≤◌, ◌||◌, ℕ, length, get_or, set, take, false, subst, sym, ap, ◌∙◌, length-set}
use Rattle.std.proofs.Math.Seq.{take-length}
use Rattle.nichols_tensor.specs.declared.TheConstants.{LETTER_LIMIT}
use Rattle.nichols_core.specs.declared.edge.Edge.{Edge}
use Rattle.nichols_core.specs.Layout.{LayoutValue, edge_at, no_edge}
use Rattle.nichols_shelf.specs.Lists.{is_in}
use Rattle.nichols_shelf.specs.Views.{askers}
use Rattle.nichols_shelf.proofs.Mirrored.{read_mark}
use Rattle.nichols_shelf.proofs.Marking.{asks_by, mark_one, same_askers}
use Rattle.nichols_shelf.proofs.tests.play.mark_askers.Goals as goal

pub loop-i-preserved : goal.loop-i-preserved
loop-i-preserved c =
    let es = c.args.layout.now.edges in
    let i = c.loop-i.i in
    let marks = c.loop-i.resumed.items in
    let start = c.args.resumed.now.items in
    let same : length c.layout.inside.edges.items ≡ length es = ap (λ (v : LayoutValue). length v.edges) c.layout.view_is in
    let in_i : i < length es = omega arith in
    let is = c.edge-edge.ensures.edge in
    let room = c.loop-i.invariant.0 in
    let placed = c.edge-edge.ensures.placed in
    let up = placed.upper in
    let within : (edge_at es i).upper < length marks = subst (λ (e : Edge). e.upper < length marks) is (omega arith) in
    let was : c.index-was.result.now ≡ get_or marks c.edge-edge.result.upper false = read_mark marks c.edge-edge.result.upper c.index-was.result.now (omega arith) c.index-was.ensures in
    let value : c.either.result ≡ (get_or marks (edge_at es i).upper false || asks_by c.args.block c.args.bits (edge_at es i)) =
    c.either.ensures ∙ ((λ j. was j || c.asks.ensures j) ∙ ap (λ (e : Edge). get_or marks e.upper false || asks_by c.args.block c.args.bits e) is) in (
      length-set marks c.edge-edge.result.upper c.either.result ∙ room,
      λ b. (λ j. get_or (set marks (is j).upper (value j)) b false) ∙ mark_one start marks es c.args.block c.args.bits i in_i within c.loop-i.invariant.1 b,
    )

pub returns-clause-marks : goal.returns-clause-marks
returns-clause-marks c word bits b =
    let es = c.args.layout.now.edges in
    let same : length c.layout.inside.edges.items ≡ length es = ap (λ (v : LayoutValue). length v.edges) c.layout.view_is in
    let done : c.loop-i.i ≡ length es = omega arith in
    let start = c.args.resumed.now.items in
    let letters : (k : ℕ) → k < length es → (1 ≤ (edge_at es k).letter) × ((edge_at es k).letter ≤ LETTER_LIMIT) =
    λ k h. let p = c.layout.invariant.good.placed k no_edge (subst (λ (v : LayoutValue). k < length v.edges) (sym c.layout.view_is) h) in
    subst (λ (v : LayoutValue). (1 ≤ (edge_at v.edges k).letter) × ((edge_at v.edges k).letter ≤ LETTER_LIMIT)) c.layout.view_is (p.from_one, p.to_last) in
    c.loop-i.invariant.1 b ∙ (ap (λ n. get_or start b false || is_in b (askers (take n es) c.args.block c.args.bits)) done
    ∙ (ap (λ xs. get_or start b false || is_in b (askers xs c.args.block c.args.bits)) (take-length es) ∙ ap (λ xs. get_or start b false || is_in b xs) (same_askers es c.args.block c.args.bits word letters bits)))
