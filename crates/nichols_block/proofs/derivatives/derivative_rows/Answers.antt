use Rattle.std.proofs.Common.{◌≡◌, arith}
use Rattle.nichols_block.specs.Rows.{AreRowsAt}
use Rattle.nichols_block.proofs.DerivedRows.{derivatives_by_letter, letter_more, one_longer}
use Rattle.nichols_block.proofs.derivatives.derivative_rows.Goals as goal

pub loop-a-preserved : goal.loop-a-preserved
loop-a-preserved c = record {
  letters = one_longer c.loop-a.lists.items c.push.new.self.items c.loop-a.a c.in_ok-rows_by_letter.field-0 c.loop-a.invariant.letters c.in_ok-push.ensures.items;
  each = letter_more (AreRowsAt c.args.braid.now c.args.key.now.degree c.args.key.now.product c.args.spots.now) c.loop-a.lists.items c.push.new.self.items c.loop-a.a c.in_ok-rows_by_letter.field-0 c.loop-a.invariant.letters
      c.in_ok-push.ensures.items c.loop-a.invariant.each c.in_ok-rows_by_letter.ensures.rows;
  zero = c.in_ok-rows_by_letter.ensures.zero;
}

pub returns : goal.returns
returns c =
    let end : c.loop-a.a ≡ c.args.braid.now.letters = omega arith in
    derivatives_by_letter c.args.braid.now c.args.key.now.degree c.args.key.now.product c.args.spots.now c.requires.spots c.loop-a.lists.items c.loop-a.a end c.loop-a.invariant.letters
    c.loop-a.invariant.each
