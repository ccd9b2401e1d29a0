-- The edges of two blocks with an edge of letter 1 between them, and what a pass knows while it makes both, for the tests.
use Rattle.std.specs.Prelude.{◌≡◌, List, [], ◌∷◌}
use Rattle.nichols_core.specs.declared.edge.Edge.{Edge}
use Rattle.nichols_shelf.specs.declared.view.View.{View}

abbrev pub one_edge : List Edge
one_edge = (record { lower = 0; letter = 1; upper = 1 }) ∷ []

-- the pass holds nothing and resumes the upper block, and it has picked nothing
abbrev pub ResumesSecond : View → Type 0
ResumesSecond v = (v.held ≡ []) × (v.resumed ≡ 1 ∷ []) × (v.picked ≡ [])

-- what it holds, resumes, has picked and laid is as it was
abbrev pub KeepsBlocks : View → View → Type 0
KeepsBlocks v w = (w.held ≡ v.held) × (w.resumed ≡ v.resumed) × (w.picked ≡ v.picked) × (w.laid ≡ v.laid)
