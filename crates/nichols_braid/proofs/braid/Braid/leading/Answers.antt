use Rattle.std.proofs.Common.{[], ◌∷◌, sym, ◌∙◌, ap₂, arith}
use Rattle.nichols_tensor.specs.Combination.{same_letters}
use Rattle.nichols_tensor.proofs.Values.{same_itself}
use Rattle.nichols_braid.specs.Product.{product_of}
use Rattle.nichols_braid.proofs.LetterSearch.{leading_found}
use Rattle.nichols_braid.proofs.braid.Braid.leading.Goals as goal

pub returns-then-eq-clause-value : goal.returns-then-eq-clause-value
returns-then-eq-clause-value c =
    leading_found c.args.self.now c.args.a c.loop-b.b (c.loop-b.auto.b, omega (arith, c.loop-b-test.true, c.requires.1))
    (sym (ap₂ same_letters c.row.ensures.images c.row-in-loop-b.ensures.images) ∙ sym c.eq.ensures ∙ c.if-eq.true) c.loop-b.invariant

pub returns-clause-value : goal.returns-clause-value
returns-clause-value c =
    leading_found c.args.self.now c.args.a c.args.a c.requires (same_itself (product_of c.args.self.now (c.args.a ∷ [])))
    (λ d low less. c.loop-b.invariant d low (omega (arith, less, c.loop-b-test.false)))
