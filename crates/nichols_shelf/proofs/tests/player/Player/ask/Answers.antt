use Rattle.std.proofs.Common.{arith, ◌≡◌, ◌⊎◌, ◌<◌, ℕ, length, get_or, set, true, false, refl, subst, sym, ap, ◌∙◌}
use Rattle.std.proofs.lemmas.Bool.{or_cases}
use Rattle.nichols_core.specs.declared.edge.Edge.{Edge}
use Rattle.nichols_core.specs.Layout.{LayoutValue, IsLayout, edge_at}
use Rattle.nichols_core.specs.Conditions.{IsInto}
use Rattle.nichols_core.proofs.EdgesFound.{into_is}
use Rattle.nichols_shelf.specs.Plan.{PlanValue}
use Rattle.nichols_shelf.specs.Places.{blocks, edge}
use Rattle.nichols_shelf.specs.Views.{says_published, ask_view}
use Rattle.nichols_shelf.specs.Played.{Mirrors}
use Rattle.nichols_shelf.specs.declared.view.View.{View}
use Rattle.nichols_shelf.proofs.Edges.{placed}
use Rattle.nichols_shelf.proofs.Mirrored.{one_in, read_mark, may_ask, mirror_ask, same_asked, held_read}
use Rattle.nichols_shelf.proofs.tests.player.Player.ask.Goals as goal

pub ask-asked-requires-clause-may : goal.ask-asked-requires-clause-may
ask-asked-requires-clause-may c =
    let s = c.args.self.now in
    let v = s.pass.place.me.0 in
    let l = c.layout-layout.result.now in
    let b = c.args.block in
    let held = sym (held_read c.args.shelf.now.plan s.held.items s.resumed.items s.known.items s.picked.items s.laid.items v s.mirrors c.requires.shelf.1 b c.requires.block c.index.result.now c.index.ensures) ∙ c.if-not-index.false in
    may_ask c.args.shelf.now.plan l c.layout-layout.ensures s.held.items s.resumed.items s.known.items s.picked.items s.laid.items v s.mirrors b c.args.letter c.in_ok-number.number held
    (subst (λ marks. (k : ℕ) → k < length l.edges → (edge_at l.edges k).upper ≡ b → get_or marks k false ≡ false) c.deref.ensures.value (c.if-not-entries_are.ensures refl)) c.in_ok-number.ensures

pub invariant_of-self : goal.invariant_of-self
invariant_of-self c =
    let s = c.args.self.now in
    let v = s.pass.place.me.0 in
    let g = c.args.shelf.now.plan in
    let l = c.layout-layout.result.now in
    let b = c.args.block in
    let step = c.ask-asked.ensures.step in
    let n = step.number in
    let same : v.plan ≡ g = c.requires.shelf.1 in
    let inside : b < length s.held.items = let room = s.mirrors.held_room in let m = subst (λ (h : PlanValue). b < blocks h) (sym same) c.requires.block in omega arith in
    let held = sym (held_read c.args.shelf.now.plan s.held.items s.resumed.items s.known.items s.picked.items s.laid.items v s.mirrors c.requires.shelf.1 b c.requires.block c.index.result.now c.index.ensures) ∙ c.if-not-index.false in
    let rules : IsLayout l = c.meets_its_rules.ensures in
    let mine : IsInto l.edges b c.args.letter c.in_ok-number.number = into_is l.edges b c.args.letter c.in_ok-number.number (sym c.in_ok-number.ensures) in
    let theirs : IsInto l.edges b c.args.letter n = subst (λ (h : LayoutValue). IsInto h.edges b c.args.letter n) (sym c.layout-layout.ensures) step.into in
    let number : c.in_ok-number.number ≡ n = one_in l rules b c.args.letter c.in_ok-number.number n mine theirs in
    let lower : c.edge-lower.result.lower ≡ (edge v.plan n).lower =
    ap (λ (e : Edge). e.lower) c.edge-lower.ensures.edge ∙ (ap (λ k. (edge_at l.edges k).lower) number ∙ (ap (λ (h : LayoutValue). (edge_at h.edges n).lower) c.layout-layout.ensures ∙ ap (λ (h : PlanValue). (edge h n).lower) (sym same))) in
    let upper : (edge v.plan n).upper ≡ b = ap (λ (h : PlanValue). (edge h n).upper) same ∙ step.into.upper in
    let says : c.is_published-published.result ≡ says_published step.found = same_asked c.is_published-published.result (says_published step.found) (sym c.is_published-published.ensures ∙ step.answer_is) in
    let low_in : (edge v.plan n).lower < blocks v.plan = subst (λ (h : PlanValue). (edge h n).lower < blocks h) (sym same) (placed g (subst IsLayout c.layout-layout.ensures rules) n step.into.inside).lower in
    let in_known : c.edge-lower.result.lower < length s.known.items = let room = s.mirrors.known_room in omega arith in
    let knew = read_mark s.known.items c.edge-lower.result.lower c.index-knew.result.now in_known c.index-knew.ensures in
    let up_in : (edge v.plan n).upper < blocks v.plan = let room = s.mirrors.held_room in omega arith in
    record {
      mirrors = subst (λ (w : View). Mirrors (set s.held.items b c.is_published-published.result) s.resumed.items (set s.known.items c.edge-lower.result.lower c.either.result) s.picked.items s.laid.items w)
          (ap (λ (h : PlanValue). ask_view h n step.found v) same ∙ sym step.view)
          (subst (λ x. Mirrors (set s.held.items x c.is_published-published.result) s.resumed.items (set s.known.items c.edge-lower.result.lower c.either.result) s.picked.items s.laid.items (ask_view v.plan n step.found v)) upper
          (subst (λ x. Mirrors (set s.held.items (edge v.plan n).upper c.is_published-published.result) s.resumed.items (set s.known.items x c.either.result) s.picked.items s.laid.items (ask_view v.plan n step.found v)) (sym lower)
          (mirror_ask s.held.items s.resumed.items s.known.items s.picked.items s.laid.items v s.mirrors n step.found c.is_published-published.result c.either.result up_in low_in
          (ap (λ x. get_or s.held.items x false) upper ∙ held) says
          (λ e. subst (λ x. (c.is_published-published.result ≡ true) ⊎ (get_or s.known.items x false ≡ true)) lower
          (subst (λ t. (c.is_published-published.result ≡ true) ⊎ (t ≡ true)) knew (or_cases c.is_published-published.result c.index-knew.result.now (sym c.either.ensures ∙ e)))))));
    }
