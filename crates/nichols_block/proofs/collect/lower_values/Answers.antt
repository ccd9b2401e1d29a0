use Rattle.std.proofs.Common.{◌≡◌, ◌+◌, suc, ◌∙◌, refl, sym, ap, subst, arith}
use Rattle.nichols_braid.specs.Braid.{BraidValue}
use Rattle.nichols_braid.proofs.NextProducts.{products_size}
use Rattle.nichols_block.proofs.CollectedValues.{HasRules, lower_more, lower_same, rules_whole}
use Rattle.nichols_block.proofs.collect.lower_values.Goals as goal
use Rattle.nichols_block.proofs.collect.lower_values.Goals.{in-Some+in_ok-copy+in_ok-push, in_default}

pub lower_value-requires-clause-product : goal.lower_value-requires-clause-product
lower_value-requires-clause-product c = products_size c.args.levels.now.braid c.args.key.now.degree c.args.key.now.product c.requires.block.there

pub loop-a-preserved : goal.loop-a-preserved
loop-a-preserved c =
    let next : c.loop-a.a + 1 ≡ suc c.loop-a.a = omega arith in
    elim c.match-lower_value.branch [
      | in-Some+in_ok-copy+in_ok-push w ↦
          lower_more c.args.levels.now.braid c.args.levels.now.last c.args.key.now.product _ c.loop-a.a (c.loop-a.a + 1) c.loop-a.lower.items c.match-lower_value.lower.items (record { letter = c.loop-a.a + 1; value = w.in_ok-copy.field-0 }) c.loop-a.invariant next refl w.in-Some.ensures.0
          (w.in_ok-copy.ensures.same ∙ w.in-Some.ensures.1) (ap (λ v. v.items) w.lower-is ∙ w.in_ok-push.ensures.items)
      | in_default w ↦
          subst (HasRules c.args.levels.now.braid c.args.levels.now.last c.args.key.now.product (c.loop-a.a + 1)) (sym (ap (λ v. v.items) w.lower-is))
          (lower_same c.args.levels.now.braid c.args.levels.now.last c.args.key.now.product _ c.loop-a.a (c.loop-a.a + 1) c.loop-a.lower.items c.loop-a.invariant next w.in_default.ensures)
    ]

pub returns : goal.returns
returns c =
    let count : c.loop-a.a ≡ c.args.levels.now.braid.letters =
    (let e : c.letters-a-end.result ≡ c.args.levels.now.braid.letters = c.letters-a-end.ensures ∙ ap (λ (b : BraidValue). b.letters) c.braid-2.ensures in let ends : c.loop-a.a ≡ c.letters-a-end.result = omega arith in ends ∙ e) in
    rules_whole c.args.levels.now.braid c.args.levels.now.last c.loop-a.a c.args.key.now c.loop-a.lower.items c.loop-a.invariant count c.requires.degree
