use Rattle.std.proofs.Common.{arith, subst, sym, ap, refl, eq-eqb, ◌||◌, ◌∙◌, ◌+◌, ◌-◌, ◌*◌, ◌≡◌, ◌∷◌, Some, None}
use Rattle.nichols_shelf.specs.Lists.{is_in}
use Rattle.nichols_shelf.specs.Views.{draw_view}
use mathlib.Core.Option.{none}
use Rattle.atomic_table.specs.Table.{Allows, step, rest}
use Rattle.nichols_shelf.specs.Plan.{PlanValue}
use Rattle.nichols_shelf.specs.Places.{blocks}
use Rattle.nichols_shelf.specs.Steps.{Mine, draw_step, lay_step}
use Rattle.nichols_shelf.specs.Stands.{Holds}
use Rattle.nichols_shelf.proofs.Drawn.{draw_allowed}
use Rattle.nichols_shelf.proofs.Laid.{lay_allowed}
use Rattle.nichols_shelf.proofs.shelf.Shelf.lay_down.Goals as goal

pub swap-requires : goal.swap-requires
swap-requires c =
    let s = c.args.self.now in
    let p = c.args.place.now in
    let g = s.plan in
    let k = c.args.number in
    let slots = s.board.shared.table_id.slots in
    let words = s.words in
    let can = c.requires.can in
    let here = c.edge_word-word.ensures in
    let inside = c.requires.number in (
      c.requires.table,
      omega arith,
      subst (λ (h : PlanValue). Allows (Holds h) slots p.id p.me c.edge_word-word.result (λ _. 1) (draw_step (step slots c.edge_word-word.result 1 0 none) p.me)) (sym s.same_plan)
          (subst (λ i. Allows (Holds g) slots p.id p.me i (λ _. 1) (draw_step (step slots i 1 0 none) p.me)) (sym here)
          (draw_allowed g slots p.id p.me k inside can.live can.holds can.picked can.unlaid can.undrawn)),
    )

pub swap-requires-2 : goal.swap-requires-2
swap-requires-2 c =
    let s = c.args.self.now in
    let p = c.args.place.now in
    let q = c.exchange.new.seat in
    let g = s.plan in
    let k = c.args.number in
    let slots = s.board.shared.table_id.slots in
    let words = s.words in
    let can = c.requires.can in
    let here = c.edge_word-word.ensures in
    let inside = c.requires.number in
    let found = c.swap.result in
    let drawn : Mine = (draw_view g k found p.me.0, (k, None) ∷ p.me.1) in
    let filled : Mine = (draw_view g k found p.me.0, (k, Some c.args.value) ∷ p.me.1) in
    let number : c.edge_word-word.result - (1 + 2 * blocks p.me.0.plan) ≡ k = subst (λ (h : PlanValue). c.edge_word-word.result - (1 + 2 * blocks h) ≡ k) (sym c.requires.plan) (omega arith) in
    let after_draw : c.swap.new.seat.me ≡ drawn =
    c.swap.ensures.2 ∙ (ap (λ n. (let m : Mine = (draw_view p.me.0.plan n found p.me.0, (n, None) ∷ p.me.1) in m)) number ∙ ap (λ (h : PlanValue). (let m : Mine = (draw_view h k found p.me.0, (k, None) ∷ p.me.1) in m)) c.requires.plan) in
    let after_write : q.me ≡ filled = c.exchange.ensures.3 ∙ ap (λ (m : Mine). (let n : Mine = (m.0, (k, Some c.args.value) ∷ rest m.1) in n)) after_draw in (
      c.exchange.ensures.0 ∙ (c.swap.ensures.0 ∙ c.requires.table),
      omega arith,
      subst (λ (m : Mine). Allows (Holds s.board.shared.key) slots q.id m c.edge_word-word.result (λ _. 2) (lay_step (step slots c.edge_word-word.result 2 0 none) m)) (sym after_write)
          (subst (λ (h : PlanValue). Allows (Holds h) slots q.id filled c.edge_word-word.result (λ _. 2) (lay_step (step slots c.edge_word-word.result 2 0 none) filled)) (sym s.same_plan)
          (subst (λ i. Allows (Holds g) slots q.id filled i (λ _. 2) (lay_step (step slots i 2 0 none) filled)) (sym here)
          (lay_allowed g slots q.id filled k c.args.value p.me.1 refl inside can.live can.holds (ap (λ t. t || is_in k p.me.0.drawn) (eq-eqb k k refl)) can.right can.equal))),
    )
