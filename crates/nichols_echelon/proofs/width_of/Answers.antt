use Rattle.std.proofs.Common.{arith}
use Rattle.nichols_echelon.specs.Cells.{AllBelow}
use Rattle.nichols_echelon.proofs.Shapes.{all_rows}
use Rattle.nichols_echelon.proofs.width_of.Goals as goal

pub returns-clause-below : goal.returns-clause-below
returns-clause-below c = all_rows (AllBelow c.loop-k.width) c.args.rows.now.rows (λ j h. c.loop-k.invariant.below j (omega (arith, h)))
