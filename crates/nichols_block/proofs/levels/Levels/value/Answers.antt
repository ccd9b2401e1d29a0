use Rattle.std.proofs.Common.{arith}
use Rattle.nichols_tensor.specs.Positions.{word_at}
use Rattle.nichols_braid.specs.Products.{products}
use Rattle.nichols_value.specs.Worth.{worth}
use Rattle.nichols_block.proofs.LevelRules.{kept_at, kept_count, kept_whole, level_degree}
use Rattle.nichols_block.proofs.levels.Levels.value.Goals as goal

pub index-requires-2 : goal.index-requires-2
index-requires-2 c =
    let kept = (level_degree c.args.self.now c.self.inside.braid c.self.inside.spare c.self.inside.degrees.items c.args.m c.index.result.now c.self.view_is c.self.invariant.0 c.requires.degree c.index.ensures).1 in
    let count = kept_count c.args.self.now.braid c.args.self.now.last c.args.m (products c.args.self.now.braid c.args.m) c.index.result.now.values.items kept in
    omega (arith, count, c.requires.place)

pub returns-clause-kept : goal.returns-clause-kept
returns-clause-kept c =
    let kept = (level_degree c.args.self.now c.self.inside.braid c.self.inside.spare c.self.inside.degrees.items c.args.m c.index.result.now c.self.view_is c.self.invariant.0 c.requires.degree c.index.ensures).1 in
    kept_at c.args.self.now.braid c.args.self.now.last c.args.m (products c.args.self.now.braid c.args.m) c.index.result.now.values.items c.args.k c.index-2.result.now kept c.requires.place c.index-2.ensures

pub returns-clause-last : goal.returns-clause-last
returns-clause-last c same =
    kept_whole c.args.self.now.braid c.args.self.now.last c.args.m (word_at (products c.args.self.now.braid c.args.m) c.args.k) (worth c.index-2.result.now) same (returns-clause-kept c)
