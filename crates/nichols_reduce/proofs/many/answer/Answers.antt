use Rattle.std.proofs.Common.{arith}
use Rattle.nichols_reduce.specs.Normal.{normal_of}
use Rattle.nichols_reduce.proofs.ManyForms.{answers_more}
use Rattle.nichols_reduce.proofs.many.answer.Goals as goal

pub loop-k-preserved : goal.loop-k-preserved
loop-k-preserved c = record {
  seat = c.in_ok-normal_at_pace.ensures.seat;
  from_start = omega (arith, c.loop-k.invariant.from_start);
  answers =
      answers_more (normal_of c.args.levels.now.braid c.args.levels.now.last) c.args.combs.now c.args.share.start c.loop-k.k c.loop-k.answers.items c.push.new.self.items c.index-combs-k.result c.in_ok-normal_at_pace.field-0
      c.loop-k.invariant.from_start (omega (arith, c.requires.within)) c.index-combs-k.is c.loop-k.invariant.answers c.in_ok-push.ensures.items c.in_ok-normal_at_pace.ensures.answer;
}
