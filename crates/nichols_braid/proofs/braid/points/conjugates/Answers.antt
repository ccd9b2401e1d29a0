use Rattle.std.proofs.Common.{map}
use Rattle.nichols_braid.specs.Transpositions.{conjugate, number_in}
use Rattle.nichols_braid.proofs.OrderedPairs.{piece_more}
use Rattle.nichols_braid.proofs.braid.points.conjugates.Goals as goal

pub loop-by-preserved : goal.loop-by-preserved
loop-by-preserved c =
    piece_more (λ s. map (λ t. number_in c.args.all.now (conjugate s t)) c.args.all.now) c.args.all.now c.loop-by.by-index c.by-item.result c.loop-by.out.items c.push_conjugates.new.out.items
    c.loop-by-test.true c.by-item.is c.loop-by.invariant c.in_ok-push_conjugates.ensures
