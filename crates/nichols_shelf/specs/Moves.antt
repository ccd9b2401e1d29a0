-- When a value may change hands at an edge, by the edge's number.
use Rattle.std.specs.Prelude.{◌≡◌, ℕ, ◌<◌, true, [], Some, None}
use Rattle.nichols_value.specs.declared.value.BlockValue.{BlockValue}
use Rattle.nichols_shelf.specs.Plan.{PlanValue, IsRightFor}
use Rattle.nichols_shelf.specs.Lists.{is_in, noted_value}
use Rattle.nichols_shelf.specs.Places.{edges, edge}
use Rattle.nichols_shelf.specs.Passes.{HasPickedAll}
use Rattle.nichols_shelf.specs.declared.view.View.{View}

-- the pass lives and holds the upper block, knows that the lower one is published, and hasn't picked the edge
pub record CanPick (g : PlanValue) (k : ℕ) (v : View) : Type 0 where
  pub live : v.live ≡ true
  pub holds : is_in (edge g k).upper v.held ≡ true
  pub knows : is_in (edge g k).lower v.known ≡ true
  pub unpicked : noted_value k v.picked ≡ None

-- the pass lives and holds the lower block, picked all edges into it, hasn't laid the edge and has drawn none, and the value is right
-- for the block and the one that it laid at other edges
pub record CanLay (g : PlanValue) (k : ℕ) (value : BlockValue) (v : View) : Type 0 where
  pub live : v.live ≡ true
  pub holds : is_in (edge g k).lower v.held ≡ true
  pub picked : HasPickedAll g v (edge g k).lower
  pub unlaid : noted_value k v.laid ≡ None
  pub undrawn : v.drawn ≡ []
  pub right : IsRightFor g (edge g k).lower value
  pub equal : (j : ℕ) (x : BlockValue) → j < edges g → (edge g j).lower ≡ (edge g k).lower → noted_value j v.laid ≡ Some x → x ≡ value
