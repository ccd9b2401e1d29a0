-- What the places of rows say of the words that have the rows.
use Rattle.std.specs.Prelude.{ℕ, List, [], ◌∷◌}
use Rattle.nichols_tensor.specs.Relation.{PlainRelation}
use Rattle.nichols_rows.specs.CombinationAt.{combination_at}
use Rattle.nichols_echelon.specs.Cells.{AllBelow}
use Rattle.nichols_echelon.specs.declared.rows.Place.{Place}
use Rattle.nichols_echelon.specs.declared.rows.Place.TheVariants.{Independent, Depends}

-- the entries whose places are independent
abbrev pub independent_in : {X : Type 0} → List X → List Place → List X
independent_in [] places = []
independent_in (x ∷ xs) [] = []
independent_in (x ∷ xs) (Independent ∷ places) = x ∷ independent_in xs places
independent_in (x ∷ xs) (Depends cells ∷ places) = independent_in xs places

-- the other words, each with the combination of the words `all` that its place gives
abbrev pub dependent_in : List (List ℕ) → List (List ℕ) → List Place → List PlainRelation
dependent_in all [] places = []
dependent_in all (w ∷ ws) [] = []
dependent_in all (w ∷ ws) (Independent ∷ places) = dependent_in all ws places
dependent_in all (w ∷ ws) (Depends cells ∷ places) = record { candidate = w; form = combination_at all cells } ∷ dependent_in all ws places

-- a place names positions below a bound alone
abbrev pub IsInside : ℕ → Place → Type 0
IsInside bound Independent = Unit {0}
IsInside bound (Depends cells) = AllBelow bound cells
