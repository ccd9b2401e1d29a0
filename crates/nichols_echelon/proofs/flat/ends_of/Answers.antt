use Rattle.std.proofs.Common.{◌≡◌, ◌∷◌, ◌∙◌, ap, ℕ, get_or, arith}
use Rattle.nichols_echelon.proofs.RowLists.{row_order, start_at}
use Rattle.nichols_echelon.proofs.flat.ends_of.Goals as goal
use Rattle.nichols_echelon.proofs.flat.ends_of.Goals.{then-k-eq0, else-k-eq0}

pub returns-clause-order : goal.returns-clause-order
returns-clause-order c =
    let start : c.if-k-eq0.start ≡ get_or (0 ∷ c.args.ends.now) c.args.k 0 =
    elim c.if-k-eq0.branch [
      | then-k-eq0 w ↦ w.start-is ∙ ap (λ (k : ℕ). get_or (0 ∷ c.args.ends.now) k 0) (let e : 0 ≡ c.args.k = omega (arith, w.if-k-eq0.true) in e)
      | else-k-eq0 w ↦ w.start-is ∙ start_at c.args.ends.now c.args.k (omega (arith, w.if-k-eq0.false))
    ] in
    row_order c.args.ends.now c.args.count c.args.k c.if-k-eq0.start start c.requires.place c.requires.stepped
