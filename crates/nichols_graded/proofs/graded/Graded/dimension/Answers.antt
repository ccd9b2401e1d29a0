use Rattle.std.proofs.Common.{◌≡◌, ◌<◌, ◌≤◌, length, refl, ◌∙◌, ap, subst, arith}
use Rattle.nichols_tensor.specs.Positions.{word_at}
use Rattle.nichols_braid.specs.Products.{products}
use Rattle.nichols_value.specs.Rule.{IsRuleOf}
use Rattle.nichols_graded.proofs.DegreeLists.{counted_all, counted_more}
use Rattle.nichols_graded.proofs.graded.Graded.dimension.Goals as goal

pub loop-k-preserved : goal.loop-k-preserved
loop-k-preserved c =
    let braid : c.self.inside.levels.braid ≡ c.args.self.now.braid = ap (λ g. g.braid) c.self.view_is in
    let listed : c.products.result.now ≡ products c.args.self.now.braid c.args.m = c.products.ensures ∙ ap (λ b. products b c.args.m) braid in
    let less : c.loop-k.k < length (products c.args.self.now.braid c.args.m) = subst (λ gs. c.loop-k.k < length gs) listed (omega (arith, c.len-k-end.ensures.value)) in
    counted_more c.args.self.now c.levels-levels.ensures.graded c.args.m c.loop-k.k c.loop-k.words (length c.basis.result.now) c.rule.result.now c.basis.result.now c.requires less c.loop-k.invariant
    (subst (λ b. IsRuleOf b c.args.m (word_at (products b c.args.m) c.loop-k.k) c.rule.result.now) braid c.rule.ensures.rule) c.basis.ensures.same refl

pub returns-clause-value : goal.returns-clause-value
returns-clause-value c =
    let braid : c.self.inside.levels.braid ≡ c.args.self.now.braid = ap (λ g. g.braid) c.self.view_is in
    let listed : c.products.result.now ≡ products c.args.self.now.braid c.args.m = c.products.ensures ∙ ap (λ b. products b c.args.m) braid in
    let past : length (products c.args.self.now.braid c.args.m) ≤ c.loop-k.k = subst (λ gs. length gs ≤ c.loop-k.k) listed (omega (arith, c.len-k-end.ensures.value)) in
    counted_all c.args.self.now.braid c.levels-levels.ensures.graded.braid c.args.m c.loop-k.k c.loop-k.words past c.loop-k.invariant
