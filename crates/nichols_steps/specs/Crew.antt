-- The pass of worker 0 beside others.
use Rattle.std.specs.Prelude.{◌≡◌, ℕ, ◌+◌}
use Rattle.nichols_shelf.specs.Passes.{IsOf, view_of}
use Rattle.nichols_shelf.specs.declared.pass.Pass.{Pass}
use Rattle.nichols_shelf.specs.declared.shelf.Shelf.{Shelf}

-- it stands for its own number alone, and so many others were split off
pub record IsZeroth (s : Shelf) (others : ℕ) (p : Pass) : Type 0 where
  pub of_shelf : IsOf s p
  pub worker : (view_of p).worker ≡ 0
  pub joined : (view_of p).joined ≡ 1
  pub passes : (view_of p).passes ≡ 1 + others
