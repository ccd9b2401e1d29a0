use Rattle.std.proofs.Common.{arith, ◌≡◌, ◌≤◌, ◌<◌, ◌*◌, ◌+◌, ℕ, false, get_or, length, subst, sym, ◌∙◌, ⊎_elim, Bool, Vec, Global}
use Rattle.std.proofs.lemmas.List.{get_or_past}
use Rattle.nichols_shelf.specs.Owed.{AreStretches}
use Rattle.nichols_shelf.proofs.Stretches.{le_or_lt, passed_over, searched}
use Rattle.nichols_shelf.proofs.Mirrored.{read_mark}
use Rattle.nichols_shelf.proofs.owed.next.Goals.{then-index+else-found-end, else-index}
use Rattle.nichols_shelf.proofs.owed.next.Goals as goal

pub loop-stretch-preserved : goal.loop-stretch-preserved
loop-stretch-preserved c =
    let marks = c.args.marks.now in
    let flags = c.loop-stretch.stretches.items in
    let s = c.loop-stretch.stretch in
    let inv = c.loop-stretch.invariant in
    elim c.if-index.branch [
      | then-index+else-found-end w ↦
          let first = w.first-found.ensures in
          let start = w.max-start.ensures in
          let end = w.min-end.ensures in
          let end_found = w.if-found-end.false in
          let none : (b : ℕ) → 64 * s ≤ b → b < 64 * (s + 1) → get_or marks b false ≡ false =
          λ b from to. ⊎_elim (λ past. get_or_past marks b false past)
          (λ within. ⊎_elim (λ here. first.between b (omega arith) (omega arith)) (λ before. c.requires.below b before) (le_or_lt c.args.from b))
          (le_or_lt (length marks) b) in
          subst (λ (v : Vec Bool Global). AreStretches marks v.items × ((b : ℕ) → b < 64 * (s + 1) → get_or marks b false ≡ false)) (sym w.stretches-is) (searched marks flags inv.0 s inv.1 none)
      | else-index w ↦
          let free : get_or flags s false ≡ false = sym (read_mark flags s c.index.result.now (omega arith) c.index.ensures) ∙ w.if-index.false in
          subst (λ (v : Vec Bool Global). AreStretches marks v.items × ((b : ℕ) → b < 64 * (s + 1) → get_or marks b false ≡ false)) (sym w.stretches-is) (inv.0, passed_over marks flags inv.0 s inv.1 free)
    ]
