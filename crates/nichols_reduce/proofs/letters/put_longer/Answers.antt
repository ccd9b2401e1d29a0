use Rattle.std.proofs.Common.{◌≡◌, ◌+◌, ◌∙◌, [], ◌∷◌, ap, suc, sym, subst, length, arith}
use Rattle.std.proofs.lemmas.List.{with_items_is}
use Rattle.nichols_braid.specs.Braid.{IsBraid}
use Rattle.nichols_braid.specs.Product.{product_before}
use Rattle.nichols_value.specs.Rule.{IsRuleOf, below_in}
use Rattle.nichols_reduce.specs.Forms.{AreFollowed, followed_by_letter}
use Rattle.nichols_reduce.specs.Sums.{HasGrownBy, combination_of}
use Rattle.nichols_reduce.proofs.ElementForms.{IsRuleAbove, letter_followed, rule_above}
use Rattle.nichols_reduce.proofs.letters.put_longer.Goals as goal

pub add_followed-requires-clause-rule : goal.add_followed-requires-clause-rule
add_followed-requires-clause-rule c =
    let rule : IsRuleAbove c.args.levels.now.braid c.args.m c.args.product.now c.args.b c.block_rule-rule.result.now =
    rule_above c.args.levels.now.braid c.args.m (c.args.m + 1) c.args.product.now c.args.b c.block_rule-rule.result.now c.requires.letter (omega arith) c.block_rule-rule.ensures in
    subst (λ b. IsRuleOf b c.block_rule-rule.result.now.key.degree c.block_rule-rule.result.now.key.product c.block_rule-rule.result.now) (sym c.braid-braid.ensures) rule.own

pub add_followed-requires-clause-form : goal.add_followed-requires-clause-form
add_followed-requires-clause-form c =
    let rule : IsRuleAbove c.args.levels.now.braid c.args.m c.args.product.now c.args.b c.block_rule-rule.result.now =
    rule_above c.args.levels.now.braid c.args.m (c.args.m + 1) c.args.product.now c.args.b c.block_rule-rule.result.now c.requires.letter (omega arith) c.block_rule-rule.ensures in
    c.requires.form ∙ ap length (sym rule.below)

pub returns : goal.returns
returns c =
    let is : IsBraid c.args.levels.now.braid = subst IsBraid c.braid-braid.ensures c.field-field.ensures.braid in
    let rule : IsRuleAbove c.args.levels.now.braid c.args.m c.args.product.now c.args.b c.block_rule-rule.result.now =
    rule_above c.args.levels.now.braid c.args.m (c.args.m + 1) c.args.product.now c.args.b c.block_rule-rule.result.now c.requires.letter (omega arith) c.block_rule-rule.ensures in
    let width : length c.add_followed.new.sums ≡ c.zero_sums.new.sums.len = c.add_followed.auto.sums ∙ ap length c.as_mut_slice.ensures.value ∙ sym c.zero_sums.new.sums.ok.0 in
    subst (AreFollowed c.args.levels.now.braid c.args.m (product_before c.args.levels.now.braid c.args.b c.args.product.now) c.args.form.now (c.args.b ∷ []) (suc c.args.m) c.args.product.now) (sym (with_items_is c.zero_sums.new.sums c.add_followed.new.sums width))
    (letter_followed c.args.levels.now.braid is c.args.m c.args.product.now c.args.b c.block_rule-rule.result.now c.requires.letter rule c.args.form.now c.as_mut_slice.result.now c.add_followed.new.sums (length c.basis.result.now) (c.as_mut_slice.ensures.value ∙ c.in_ok-zero_sums.ensures)
    (subst (λ b. HasGrownBy b.field c.block_rule-rule.result.now.basis c.as_mut_slice.result.now (followed_by_letter b c.block_rule-rule.result.now.key.degree (combination_of b.field (below_in c.block_rule-rule.result.now c.args.b) c.args.form.now) c.args.b) c.add_followed.new.sums) c.braid-braid.ensures c.add_followed.ensures))
