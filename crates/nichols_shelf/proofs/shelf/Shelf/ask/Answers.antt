use Rattle.std.proofs.Common.{arith, subst, sym, ap, ◌∙◌, ◌<◌, ◌-◌, ◌≡◌, ◌^◌, bit_or, true}
use mathlib.Core.Option.{none}
use Rattle.atomic_table.specs.Table.{Allows, step}
use Rattle.nichols_core.specs.declared.edge.Edge.{Edge}
use Rattle.nichols_shelf.specs.Plan.{PlanValue}
use Rattle.nichols_shelf.specs.Lists.{is_in}
use Rattle.nichols_shelf.specs.Places.{edges, edge, wait_place}
use Rattle.nichols_shelf.specs.Passes.{HasPickedNone}
use Rattle.nichols_shelf.specs.Steps.{Mine, ask_step}
use Rattle.nichols_shelf.specs.Stands.{Holds}
use Rattle.nichols_shelf.specs.Stored.{IsStored}
use Rattle.nichols_shelf.proofs.Agreed.{stored_ask}
use Rattle.nichols_shelf.proofs.Asking.{ask_allowed}
use Rattle.nichols_shelf.proofs.shelf.Shelf.ask.Goals as goal

pub fetch_or-found-requires : goal.fetch_or-found-requires
fetch_or-found-requires c =
    let s = c.args.self.now in
    let p = c.args.pass.now in
    let g = s.plan in
    let k = c.entry-number.result in
    let at = c.entry-number.ensures in
    let slots = s.board.shared.table_id.slots in
    let wait : c.wait_word-wait.result ≡ wait_place g (edge g k).lower = c.wait_word-wait.ensures ∙ ap (λ (e : Edge). wait_place g e.lower) c.edge-edge.ensures.edge in
    let bit : c.letter_bit-bit.result ≡ 2 ^ ((edge g k).letter - 1) = c.letter_bit-bit.ensures ∙ ap (λ (e : Edge). 2 ^ (e.letter - 1)) c.edge-edge.ensures.edge in
    let lists : is_in (edge g k).upper p.place.me.0.held ≡ true = ap (λ b. is_in b p.place.me.0.held) at.upper ∙ c.requires.may.holds in
    let words = s.words in
    let low = c.edge-edge.ensures.placed.lower in
    let here = c.wait_word-wait.ensures in (
      c.requires.pass.0,
      omega arith,
      subst (λ (h : PlanValue). Allows (Holds h) slots p.place.id p.place.me c.wait_word-wait.result (λ n. bit_or n c.letter_bit-bit.result) (ask_step (step slots c.wait_word-wait.result c.letter_bit-bit.result 0 none) p.place.me)) (sym s.same_plan)
          (subst (λ i. Allows (Holds g) slots p.place.id p.place.me i (λ n. bit_or n c.letter_bit-bit.result) (ask_step (step slots i c.letter_bit-bit.result 0 none) p.place.me)) (sym wait)
          (subst (λ b. Allows (Holds g) slots p.place.id p.place.me (wait_place g (edge g k).lower) (λ n. bit_or n b) (ask_step (step slots (wait_place g (edge g k).lower) b 0 none) p.place.me)) (sym bit)
          (ask_allowed g slots p.place.id p.place.me k at.inside p.stored.live lists (λ j in_j up. c.requires.may.unpicked j in_j (up ∙ at.upper))))),
    )

pub invariant_of-pass : goal.invariant_of-pass
invariant_of-pass c =
    let s = c.args.self.now in
    let p = c.args.pass.now in
    let v = p.place.me.0 in
    let g = s.plan in
    let k = c.entry-number.result in
    let at = c.entry-number.ensures in
    let found = c.fetch_or-found.result in
    let wait : c.wait_word-wait.result ≡ wait_place g (edge g k).lower = c.wait_word-wait.ensures ∙ ap (λ (e : Edge). wait_place g e.lower) c.edge-edge.ensures.edge in
    let bit : c.letter_bit-bit.result ≡ 2 ^ ((edge g k).letter - 1) = c.letter_bit-bit.ensures ∙ ap (λ (e : Edge). 2 ^ (e.letter - 1)) c.edge-edge.ensures.edge in
    let same = c.requires.pass.1 in
    let me = c.fetch_or-found.ensures.2 k (subst (λ (h : PlanValue). k < edges h) (sym same) at.inside)
    (wait ∙ ap (λ (h : PlanValue). wait_place h (edge h k).lower) (sym same)) (bit ∙ ap (λ (h : PlanValue). 2 ^ ((edge h k).letter - 1)) (sym same)) in
    let unpicked : HasPickedNone v.plan v (edge v.plan k).upper = subst (λ (h : PlanValue). HasPickedNone h v (edge h k).upper) (sym same) (λ j in_j up. c.requires.may.unpicked j in_j (up ∙ at.upper)) in
    record {
      stored = subst (λ (m : Mine). IsStored p.worker p.passes p.owed m.0 m.1) (sym me) (stored_ask p.worker p.passes p.owed v p.place.me.1 p.stored k found unpicked);
    }
