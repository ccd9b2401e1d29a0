use Rattle.std.proofs.Common.{ap₂}
use Rattle.nichols_echelon.specs.Rows.{rows_of, rows_from, end_from}
use Rattle.nichols_echelon.proofs.flat.Rows.new.Goals as goal

pub returns : goal.returns
unfolding rows_from end_from
returns c = ap₂ rows_of c.new.ensures.items c.new-2.ensures.items
