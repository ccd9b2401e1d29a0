use Rattle.std.proofs.Common.{◌<◌, [], ◌∷◌, length, sym, ◌∙◌, ap, subst, arith}
use Rattle.nichols_tensor.specs.Positions.{word_at}
use Rattle.nichols_braid.specs.Products.{products}
use Rattle.nichols_value.proofs.RuleEntries.{basis_is}
use Rattle.nichols_graded.specs.declared.TheConstants.{DIMENSION_BOUND}
use Rattle.nichols_graded.specs.Sizes.{AreSizes}
use Rattle.nichols_graded.proofs.DegreeLists.{first_sizes, some_products}
use Rattle.nichols_graded.proofs.next.first_ahead.Goals as goal

pub rule-requires-clause-place : goal.rule-requires-clause-place
rule-requires-clause-place c = some_products c.args.levels.now.braid

pub look_ahead-requires-clause-sizes : goal.look_ahead-requires-clause-sizes
look_ahead-requires-clause-sizes c =
    let small : length c.basis.result.now < DIMENSION_BOUND = let h = c.basis.type_inv.1 in omega (arith, h) in
    subst (λ b. AreSizes b 0 (length c.basis.result.now ∷ [])) (sym c.braid.ensures)
    (first_sizes c.args.levels.now.braid (length c.basis.result.now) (ap length (c.basis.ensures.same ∙ basis_is c.args.levels.now.braid 0 (word_at (products c.args.levels.now.braid 0) 0) c.rule.result.now c.rule.ensures.rule)) small)
