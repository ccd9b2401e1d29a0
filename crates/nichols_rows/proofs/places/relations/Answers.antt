use Rattle.std.proofs.Common.{arith}
use Rattle.nichols_rows.proofs.LoopsOverPlaces.{related_more, inside_at}
use Rattle.nichols_rows.proofs.places.relations.Goals as goal

pub push_relation-requires-clause-inside : goal.push_relation-requires-clause-inside
push_relation-requires-clause-inside c = inside_at _ c.args.places.now c.loop-k.k c.index-places-k.result c.requires.inside (omega arith) c.index-places-k.is

pub loop-k-preserved : goal.loop-k-preserved
loop-k-preserved c =
    related_more c.args.words.now c.args.words.now c.args.places.now c.loop-k.k c.index-words-k.result c.index-places-k.result c.loop-k.out.items c.push_relation.new.out.items c.requires.count (omega arith) c.index-words-k.is c.index-places-k.is c.loop-k.invariant
    c.in_ok-push_relation.ensures
