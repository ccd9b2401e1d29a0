use Rattle.std.proofs.Common.{◌+◌, refl, subst, sym, arith}
use Rattle.nichols_reduce.specs.Shares.{AreShares}
use Rattle.nichols_reduce.proofs.ManyForms.{shares_more}
use Rattle.nichols_reduce.proofs.many.shares.Goals as goal

pub loop-start-preserved : goal.loop-start-preserved
loop-start-preserved c = record {
  seat = c.in_ok-seat.ensures.seat;
  within = omega arith;
  shares =
      subst (λ ss. AreShares c.args.memo.now 0 ss (c.loop-start.start + c.min.result)) (sym c.in_ok-push.ensures.items)
      (shares_more c.args.memo.now 0 c.loop-start.shares.items c.loop-start.start (record { seat = c.in_ok-seat.seat; start = c.loop-start.start; end = c.loop-start.start + c.min.result }) c.loop-start.invariant.shares c.in_ok-seat.ensures.given.0 refl (omega arith));
}
