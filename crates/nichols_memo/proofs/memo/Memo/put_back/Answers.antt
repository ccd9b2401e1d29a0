use Rattle.std.proofs.Common.{arith, sym, ap, ◌∙◌, subst, ℕ, List, ◌∷◌, Option}
use Rattle.atomic_table.specs.Table.{Me, rest}
use Rattle.nichols_memo.specs.declared.entry.Entry.{Entry}
use Rattle.nichols_memo.specs.declared.view.View.{View}
use Rattle.nichols_memo.specs.Forms.{IsRight}
use Rattle.nichols_memo.proofs.Kept.{back_allowed}
use Rattle.nichols_memo.proofs.memo.Memo.put_back.Goals as goal

pub swap-requires : goal.swap-requires
swap-requires c =
    let m = c.args.self.now in
    let r = c.requires in
    let e = c.exchange.ensures in
    let v = ap (λ (m : Me (Option Entry) View). m.0) e.3 in (
      e.0 ∙ r.table,
      omega (arith, m.words, r.slot),
      back_allowed _ _ _ _ c.args.slot c.args.entry
          (ap (λ (w : View). w.out) v ∙ r.turn)
          (ap (λ (m : Me (Option Entry) View). m.1) e.3 ∙ ap (λ (l : List (ℕ × Option Entry)). (c.args.slot, c.args.entry) ∷ rest l) r.out)
          (ap (λ (w : View). w.live) v ∙ r.live)
          (subst (λ b. IsRight b c.args.entry) (sym (ap (λ (w : View). w.braid) v)) r.entry),
    )
