-- What a pass keeps in memory agrees with what it knows.
use Rattle.std.specs.Prelude.{◌≡◌, ℕ, Bool, true, false, ◌&&◌, nat_lt, List, [], length, slice_index_or, Option}
use Rattle.nichols_value.specs.declared.shared.Shared.{Shared}
use Rattle.nichols_shelf.specs.Lists.{is_in}
use Rattle.nichols_shelf.specs.Places.{blocks}
use Rattle.nichols_shelf.specs.Out.{are_picked}
use Rattle.nichols_shelf.specs.declared.view.View.{View}

-- its worker number, the number of passes and the marks of what it owes, with room for every block; it lives, no edge is drawn,
-- and the slots that are out with it are those of edges that it picked for blocks that it holds
pub record IsStored (w n : ℕ) (marks : List Bool) (v : View) (out : List (ℕ × Option Shared)) : Type 0 where
  pub room : length marks ≡ blocks v.plan
  pub owed : (b : ℕ) → slice_index_or marks b false ≡ (is_in b v.owed && nat_lt b (blocks v.plan))
  pub worker : w ≡ v.worker
  pub passes : n ≡ v.passes
  pub live : v.live ≡ true
  pub undrawn : v.drawn ≡ []
  pub slots : are_picked v out ≡ true
