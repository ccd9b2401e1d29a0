use Rattle.std.proofs.Common.{arith, ap, length, List}
use Rattle.nichols_echelon.specs.Cells.{Cell}
use Rattle.nichols_echelon.proofs.JoinedRows.{joined_count}
use Rattle.nichols_echelon.proofs.split_parts.Goals as goal

pub split_narrow-requires-clause-count : goal.split_narrow-requires-clause-count
split_narrow-requires-clause-count c =
    omega (arith, ap (λ (rows : List (List Cell)). length rows) c.of-rows.ensures, joined_count c.args.lists.now c.args.offsets.now c.args.count, c.requires.count)
