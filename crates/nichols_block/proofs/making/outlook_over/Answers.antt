use Rattle.std.proofs.Common.{◌≡◌, ◌∙◌, sym}
use Rattle.nichols_value.specs.Worth.{worth}
use Rattle.nichols_block.specs.declared.making.Outlook.TheVariants.{Rules, Starved, Void}
use Rattle.nichols_block.specs.Allowed.{allows}
use Rattle.nichols_block.proofs.Outlooks.{each_more, some_here, some_more}
use Rattle.nichols_block.proofs.making.outlook_over.Goals.{in-Rules, in-Void}
use Rattle.nichols_block.proofs.making.outlook_over.Goals as goal

pub loop-below-preserved : goal.loop-below-preserved
loop-below-preserved c =
    elim c.match-outlook_of.branch [
      | in-Rules w ↦
          let own : allows (worth c.below-item.result.value) ≡ Rules = sym c.outlook_of.ensures ∙ w.in-Rules.is in
          record {
            none = each_more (λ v. allows v ≡ Starved → ⊥) c.args.lower.now c.loop-below.below-index c.below-item.result c.loop-below-test.true c.below-item.is (λ e. let h : Rules ≡ Starved = sym own ∙ e in cc) c.loop-below.invariant.none;
            rules = λ e. each_more (λ v. allows v ≡ Rules) c.args.lower.now c.loop-below.below-index c.below-item.result c.loop-below-test.true c.below-item.is own (c.loop-below.invariant.rules (sym w.void-is ∙ e));
            some = λ e. some_more (λ v. allows v ≡ Void) c.args.lower.now c.loop-below.below-index c.below-item.result c.loop-below-test.true c.below-item.is (c.loop-below.invariant.some (sym w.void-is ∙ e));
          }
      | in-Void w ↦
          let own : allows (worth c.below-item.result.value) ≡ Void = sym c.outlook_of.ensures ∙ w.in-Void.is in
          record {
            none = each_more (λ v. allows v ≡ Starved → ⊥) c.args.lower.now c.loop-below.below-index c.below-item.result c.loop-below-test.true c.below-item.is (λ e. let h : Void ≡ Starved = sym own ∙ e in cc) c.loop-below.invariant.none;
            rules = λ e. cc;
            some = λ e. some_here (λ v. allows v ≡ Void) c.args.lower.now c.loop-below.below-index c.below-item.result c.loop-below-test.true c.below-item.is own;
          }
    ]
