use Rattle.std.proofs.Common.{arith, ap, refl, ◌∙◌, ◌++◌, ◌∷◌, []}
use Rattle.nichols_value.specs.declared.value.BlockValue.TheVariants.{Rule}
use Rattle.nichols_block.specs.declared.levels.Degree.{Degree}
use Rattle.nichols_block.proofs.LevelRules.{levels_start}
use Rattle.nichols_block.proofs.levels.Levels.start.Goals as goal

pub invariant_of-result : goal.invariant_of-result
invariant_of-result c =
    let degree : Degree = record { products = c.in_ok-products.products; values = c.push.new.self } in (
      levels_start c.args.braid c.in_ok-products.products c.in_ok-shared_rule.field-0 c.push.new.self.items degree c.push-2.new.self.items refl refl c.in_ok-products.ensures
          (c.in_ok-push.ensures.items ∙ ap (λ vs. vs ++ c.in_ok-shared_rule.field-0 ∷ []) c.new-values.ensures.items) (c.in_ok-shared_rule.ensures ∙ ap Rule c.in_ok-rule.ensures) (c.in_ok-push-2.ensures.items ∙ ap (λ ds. ds ++ degree ∷ []) c.new-degrees.ensures.items),
      omega (arith, c.push-2.new.self.ok),
    )
