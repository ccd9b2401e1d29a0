use Rattle.nichols_echelon.proofs.Numbers.{few_columns}
use Rattle.nichols_echelon.proofs.numbering.numbered_rows.Goals as goal

pub returns-clause-short : goal.returns-clause-short
returns-clause-short c = few_columns c.args.columns.now c.requires.rising c.type_inv.columns
