use Rattle.std.proofs.Common.{◌≡◌, ◌+◌, ◌-◌, ◌*◌, take, drop, ◌∙◌, ap, arith, subst}
use Rattle.nichols_braid.specs.Braid.{IsBraid}
use Rattle.nichols_braid.proofs.LetterSearch.{row_taken_is}
use Rattle.nichols_braid.proofs.braid.Braid.row.Goals as goal

pub returns-clause-images : goal.returns-clause-images
returns-clause-images c =
    ap (λ n. take n (drop ((c.from.result - 1) * c.from-n.result) c.deref.result.now)) (let e : (c.from.result - 1) * c.from-n.result + c.from-n.result - (c.from.result - 1) * c.from-n.result ≡ c.from-n.result = omega arith in e)
    ∙ ap (λ xs. take c.from-n.result (drop ((c.from.result - 1) * c.from-n.result) xs)) (c.deref.ensures.value ∙ ap (λ b. b.rack) c.self.view_is)
    ∙ row_taken_is c.args.self.now (subst IsBraid c.self.view_is c.self.invariant) c.args.i ((c.from.result - 1) * c.from-n.result) c.from-n.result c.requires (c.from-n.ensures ∙ ap (λ b. b.letters) c.self.view_is) (ap (λ i. (i - 1) * c.from-n.result) c.from.ensures)
