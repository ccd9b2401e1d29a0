use Rattle.std.proofs.Common.{◌<◌, length, arith}
use Rattle.nichols_block.proofs.LevelRules.{let_go_at}
use Rattle.nichols_block.proofs.levels.let_go_all.Goals as goal

pub loop-value-preserved : goal.loop-value-preserved
loop-value-preserved c braid last m gs less h =
    let inside : c.loop-value.value-index < length c.loop-value.value-items = omega arith in
    let_go_at braid last m gs c.loop-value.value-items c.loop-value.value-index c.value-item.result c.let_go.new.self c.let_go.result less inside c.let_go.ensures (c.loop-value.invariant braid last m gs less h)
