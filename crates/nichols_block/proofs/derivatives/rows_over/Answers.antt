use Rattle.std.proofs.Common.{◌≡◌, ◌≤◌, ◌∙◌, ◌-◌, arith, length, subst, suc}
use Rattle.nichols_field.specs.Field.{FieldValue}
use Rattle.nichols_echelon.specs.Sums.{IsZero}
use Rattle.nichols_value.specs.Block.{lower_basis}
use Rattle.nichols_block.proofs.SpotsBelow.{rule_words}
use Rattle.nichols_block.proofs.DerivedRows.{no_rows_yet}
use Rattle.nichols_block.proofs.derivatives.rows_over.Goals as goal

pub loop-spot-init : goal.loop-spot-init
loop-spot-init c =
    let next : suc (c.args.key.now.degree - 1) ≡ c.args.key.now.degree = omega (arith, c.requires.block.some) in
    let words = rule_words c.args.braid.now (c.args.key.now.degree - 1) c.args.key.now.degree c.args.key.now.product c.args.rule.now c.args.a next c.requires.rule in
    record {
      rows = no_rows_yet (lower_basis c.args.braid.now c.args.key.now.degree c.args.key.now.product c.args.a) c.new-rows.result c.new-rows.ensures;
      zero = subst (λ (k : FieldValue). IsZero k c.room.new.self) c.field.ensures.field c.room.ensures.zero;
      width = subst (λ ws. length ws ≤ length c.room.new.self) (c.basis-places.ensures.same ∙ words) c.in_ok-room.ensures.width;
    }
