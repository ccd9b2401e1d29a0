use Rattle.nichols_block.proofs.LevelRules.{level_degree}
use Rattle.nichols_block.proofs.levels.Levels.products.Goals as goal

pub returns : goal.returns
returns c = (level_degree c.args.self.now c.self.inside.braid c.self.inside.spare c.self.inside.degrees.items c.args.m c.index.result.now c.self.view_is c.self.invariant.0 c.requires c.index.ensures).0
