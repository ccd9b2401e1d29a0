use Rattle.std.proofs.Common.{◌≡◌, ◌++◌, ◌∷◌, [], MatchOption, subst, List}
use Rattle.nichols_echelon.specs.Cells.{Cell}
use Rattle.nichols_echelon.proofs.JoinedRows.{inside_parts, row_in_parts}
use Rattle.nichols_echelon.proofs.parts.Parts.last.Goals as goal

pub last_of-requires : goal.last_of-requires
last_of-requires c = record {
  parts = c.self.invariant c.args.k (inside_parts c.self.inside.lists.now c.self.inside.offsets.now c.self.inside.count c.args.k c.args.self.now c.self.view_is c.requires);
}

pub returns : goal.returns
returns c =
    subst (λ (row : List Cell). MatchOption c.last_of.result (row ≡ []) (λ last. (front : List Cell) × (row ≡ front ++ last ∷ [])))
    (row_in_parts c.self.inside.lists.now c.self.inside.offsets.now c.self.inside.count c.args.k c.args.self.now c.self.view_is c.requires) c.last_of.ensures
