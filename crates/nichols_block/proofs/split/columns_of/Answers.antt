use Rattle.std.proofs.Common.{◌+◌, ◌∙◌, ap, ap₂, arith, length, sym}
use Rattle.nichols_block.specs.NewRows.{columns_to}
use Rattle.nichols_block.proofs.FlatRows.{columns_next, no_columns, offset_more}
use Rattle.nichols_block.proofs.split.columns_of.Goals as goal
use Rattle.nichols_block.proofs.DerivedRows.{one_longer}

pub loop-a-init : goal.loop-a-init
loop-a-init c = record {
  letters = ap length c.new-offsets.ensures.items;
  each = λ b less. absurd (omega arith);
  columns = sym (no_columns c.args.braid.now c.args.key.now.degree c.args.key.now.product);
  short = omega arith;
}

pub loop-a-preserved : goal.loop-a-preserved
loop-a-preserved c = record {
  letters = one_longer c.loop-a.offsets.items c.push.new.self.items c.loop-a.a c.loop-a.columns c.loop-a.invariant.letters c.in_ok-push.ensures.items;
  each = offset_more (columns_to c.args.braid.now c.args.key.now.degree c.args.key.now.product) c.loop-a.offsets.items c.push.new.self.items c.loop-a.a c.loop-a.columns c.loop-a.invariant.letters c.in_ok-push.ensures.items c.loop-a.invariant.columns
      c.loop-a.invariant.each;
  columns = ap₂ (λ m n. m + n) c.loop-a.invariant.columns (ap length c.words_below.ensures.same) ∙ sym (columns_next c.args.braid.now c.args.key.now.degree c.args.key.now.product c.loop-a.a);
  short = omega arith;
}
