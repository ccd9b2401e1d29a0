-- What a closed shelf keeps.
use Rattle.std.specs.Prelude.{◌≡◌, ℕ, ◌<◌, Bool, false, ◌==◌, List, length, slice_index_or}
use Rattle.nichols_shelf.specs.Plan.{PlanValue}
use Rattle.nichols_shelf.specs.Lists.{times_in}
use Rattle.nichols_shelf.specs.Places.{blocks}
use Rattle.nichols_shelf.specs.declared.view.View.{View}

-- a mark for each block: whether it is published, which is to say that the last pass made it
pub record AreMarked (g : PlanValue) (marks : List Bool) (v : View) : Type 0 where
  pub room : length marks ≡ blocks g
  pub made : (b : ℕ) → b < blocks g → slice_index_or marks b false ≡ (times_in b v.made == 1)
