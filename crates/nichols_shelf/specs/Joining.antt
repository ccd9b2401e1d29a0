-- Passes that are joined one after another.
use Rattle.std.specs.Prelude.{◌≡◌, ℕ, suc, List, [], ◌∷◌}
use Rattle.nichols_shelf.specs.Passes.{IsOf, view_of}
use Rattle.nichols_shelf.specs.Settled.{HoldsNothing, ResumesNothing, OwesNothing}
use Rattle.nichols_shelf.specs.Views.{joined_view}
use Rattle.nichols_shelf.specs.declared.view.View.{View}
use Rattle.nichols_shelf.specs.declared.pass.Pass.{Pass}
use Rattle.nichols_shelf.specs.declared.shelf.Shelf.{Shelf}

-- passes of the shelf with the worker numbers from k on, in this order, which hold and resume nothing
abbrev pub AreNumbered : Shelf → ℕ → List Pass → Type 0
AreNumbered s k [] = Unit {0}
AreNumbered s k (p ∷ ps) = IsOf s p × ((view_of p).worker ≡ k) × HoldsNothing (view_of p) × ResumesNothing (view_of p) × AreNumbered s (suc k) ps

-- what a pass knows after they were joined into it, in this order
abbrev pub joined_views : View → List Pass → View
joined_views v [] = v
joined_views v (p ∷ ps) = joined_views (joined_view v (view_of p)) ps

-- none of them owes anything
abbrev pub OweNothing : List Pass → Type 0
OweNothing [] = Unit {0}
OweNothing (p ∷ ps) = OwesNothing (view_of p) × OweNothing ps
