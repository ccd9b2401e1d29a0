use Rattle.std.proofs.Common.{arith, subst, sym, ap, ◌∙◌, ◌+◌, ◌-◌, ◌*◌, ◌≡◌, ◌∷◌, ℕ, Option, Some, List}
use mathlib.Core.Option.{none}
use Rattle.atomic_table.specs.Table.{Allows, step, rest}
use Rattle.nichols_value.specs.declared.shared.Shared.{Shared}
use Rattle.nichols_shelf.specs.Plan.{PlanValue}
use Rattle.nichols_shelf.specs.Places.{blocks}
use Rattle.nichols_shelf.specs.Steps.{Mine, pick_step}
use Rattle.nichols_shelf.specs.Stands.{Holds}
use Rattle.nichols_shelf.proofs.Picked.{pick_allowed}
use Rattle.nichols_shelf.proofs.shelf.Shelf.pick_up.Goals as goal

pub swap-requires : goal.swap-requires
swap-requires c =
    let s = c.args.self.now in
    let p = c.args.place.now in
    let g = s.plan in
    let k = c.args.number in
    let slots = s.board.shared.table_id.slots in
    let words = s.words in
    let can = c.requires.can in
    let here = c.edge_word.ensures in
    let inside = c.requires.number in (
      c.requires.table,
      omega arith,
      subst (λ (h : PlanValue). Allows (Holds h) slots p.id p.me c.edge_word.result (λ _. 3) (pick_step (step slots c.edge_word.result 3 0 none) p.me)) (sym s.same_plan)
          (subst (λ i. Allows (Holds g) slots p.id p.me i (λ _. 3) (pick_step (step slots i 3 0 none) p.me)) (sym here)
          (pick_allowed g slots p.id p.me k inside can.live can.holds can.knows can.unpicked)),
    )

pub exchange-requires : goal.exchange-requires
exchange-requires c =
    let g = c.args.self.now.plan in
    let p = c.args.place.now in
    let k = c.args.number in
    let tells = c.swap.ensures.2 in
    let x = tells.0 in
    let e = tells.1 in
    let number : c.edge_word.result - (1 + 2 * blocks p.me.0.plan) ≡ k = subst (λ (h : PlanValue). c.edge_word.result - (1 + 2 * blocks h) ≡ k) (sym c.requires.plan) (let here = c.edge_word.ensures in omega arith) in (
      c.swap.ensures.0 ∙ c.requires.table,
      (Some x, ap (λ (m : Mine). m.1) e ∙ ap (λ n. (n, Some x) ∷ p.me.1) number ∙ ap (λ (xs : List (ℕ × Option Shared)). (k, Some x) ∷ xs) (sym (ap (λ (m : Mine). rest m.1) e))),
    )
