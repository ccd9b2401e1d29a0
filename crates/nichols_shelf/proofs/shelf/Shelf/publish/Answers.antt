use Rattle.std.proofs.Common.{arith, subst, sym, ap, ◌∙◌, ◌+◌, ◌-◌, ◌≡◌, ◌≢◌, bit_or, ℕ}
use Rattle.std.specs.Int.{bit_at}
use mathlib.Core.Option.{none}
use Rattle.atomic_table.specs.Table.{Allows, step}
use Rattle.nichols_shelf.specs.Plan.{PlanValue}
use Rattle.nichols_shelf.specs.Places.{blocks}
use Rattle.nichols_shelf.specs.Views.{publish_view}
use Rattle.nichols_shelf.specs.Words.{HasLetter}
use Rattle.nichols_shelf.specs.Steps.{Mine, publish_step}
use Rattle.nichols_shelf.specs.Stands.{Holds}
use Rattle.nichols_shelf.proofs.Bits.{low_bits, low_bit}
use Rattle.nichols_shelf.proofs.Published.{publish_allowed}
use Rattle.nichols_shelf.proofs.shelf.Shelf.publish.Goals as goal

pub fetch_or-found-requires : goal.fetch_or-found-requires
fetch_or-found-requires c =
    let s = c.args.self.now in
    let p = c.args.pass.now in
    let g = s.plan in
    let slots = s.board.shared.table_id.slots in
    let may = c.requires.may in
    let words = s.words in
    let b = c.requires.block in
    let here = c.wait_word-wait.ensures in (
      c.requires.pass.0,
      omega arith,
      subst (λ (h : PlanValue). Allows (Holds h) slots p.place.id p.place.me c.wait_word-wait.result (λ n. bit_or n 9223372036854775808) (publish_step (step slots c.wait_word-wait.result 9223372036854775808 0 none) p.place.me)) (sym s.same_plan)
          (subst (λ i. Allows (Holds g) slots p.place.id p.place.me i (λ n. bit_or n 9223372036854775808) (publish_step (step slots i 9223372036854775808 0 none) p.place.me)) (sym here)
          (publish_allowed g slots p.place.id p.place.me c.args.block b p.stored.live may.holds may.picked may.laid p.stored.slots)),
    )

pub returns-clause-step : goal.returns-clause-step
returns-clause-step c =
    let s = c.args.self.now in
    let p = c.args.pass.now in
    let v = p.place.me.0 in
    let g = s.plan in
    let same = c.requires.pass.1 in
    let found = c.fetch_or-found.result in
    let tells = c.fetch_or-found.ensures.2 in
    let block : c.wait_word-wait.result - (1 + blocks v.plan) ≡ c.args.block = subst (λ (h : PlanValue). c.wait_word-wait.result - (1 + blocks h) ≡ c.args.block) (sym same) (let here = c.wait_word-wait.ensures in omega arith) in
    let lettered : (i : ℕ) → i ≢ 63 → bit_at found i ≡ 1 → HasLetter g c.args.block i =
    subst (λ (h : PlanValue). (i : ℕ) → i ≢ 63 → bit_at found i ≡ 1 → HasLetter h c.args.block i) same (subst (λ b. (i : ℕ) → i ≢ 63 → bit_at found i ≡ 1 → HasLetter v.plan b i) block tells.1) in
    record {
      found = found;
      view = ap (λ (m : Mine). m.0) tells.0 ∙ ap (λ b. publish_view v.plan b found v) block ∙ ap (λ (h : PlanValue). publish_view h c.args.block found v) same;
      few = omega arith;
      bits = low_bits found;
      lettered = λ i bit. let r = low_bit found i bit in lettered i (let h = r.0 in omega arith) r.1;
    }
