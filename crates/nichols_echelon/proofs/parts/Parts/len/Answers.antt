use Rattle.std.proofs.Common.{◌∙◌, ap, length, sym, List}
use Rattle.nichols_echelon.specs.Cells.{Cell}
use Rattle.nichols_echelon.proofs.JoinedRows.{joined_count}
use Rattle.nichols_echelon.proofs.parts.Parts.len.Goals as goal

pub returns : goal.returns
returns c = sym (joined_count c.self.inside.lists.now c.self.inside.offsets.now c.self.inside.count) ∙ ap (λ (rows : List (List Cell)). length rows) c.self.view_is
