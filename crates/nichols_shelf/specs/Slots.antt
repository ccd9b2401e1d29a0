-- The words and slots of edges, and what views note of them, stand for which edges are laid and picked.
use Rattle.std.specs.Prelude.{◌≡◌, ◌≢◌, ℕ, ◌<◌, Bool, true, false, ◌&&◌, if◌then◌else◌, List, length, slice_index, Some, None, is_some}
use Rattle.std.specs.Prelude as std
use mathlib.Core.Option as table
use mathlib.Core.Option.{some, none}
use lib.ListN.{get_elem?}
use Rattle.nichols_core.specs.Machine.{Machine, is_held_by}
use Rattle.nichols_core.specs.SixLaws.{AllPicked}
use Rattle.nichols_core.specs.declared.stage.Stage.TheVariants.{Held}
use Rattle.nichols_value.specs.Worth.{worth}
use Rattle.nichols_value.specs.declared.shared.Shared.{Shared}
use Rattle.nichols_value.specs.declared.value.BlockValue.{BlockValue}
use Rattle.nichols_shelf.specs.Plan.{PlanValue, IsRightFor}
use Rattle.nichols_shelf.specs.Lists.{is_in, noted_value}
use Rattle.nichols_shelf.specs.Places.{edges, edge, edge_place}
use Rattle.nichols_shelf.specs.Seats.{tends}
use Rattle.nichols_shelf.specs.declared.view.View.{View}

-- EMPTY, DRAWN, LAID and PICKED
abbrev pub edge_code : Bool → Bool → Bool → ℕ
edge_code drawn laid picked = if picked then 3 else (if laid then 2 else (if drawn then 1 else 0))

-- the slot of an edge is at home with a shared value
pub record HasValue (homes : List (table.Option (std.Option Shared))) (k : ℕ) (value : BlockValue) : Type 0 where
  pub shared : Shared
  pub there : get_elem? homes k ≡ some (some (Some shared))
  pub worth_is : worth shared ≡ value

-- an edge that is drawn isn't laid, its slot is out, and the holder of its lower block picked everything
pub record IsDrawn (g : PlanValue) (homes : List (table.Option (std.Option Shared))) (m : Machine) (k : ℕ) : Type 0 where
  pub unlaid : m.laid k ≡ false
  pub out : get_elem? homes k ≡ some none
  pub full : AllPicked g.layout.edges m (edge g k).lower
  pub holder : ℕ
  pub held : m.stage (edge g k).lower ≡ Held holder

-- what a live view notes: each edge that it notes was picked, or laid, with its lower block's value; of the blocks that its worker
-- holds or made it notes every edge that is picked, or laid; and it lists the drawn edges out of those that its worker holds
pub record Notes (g : PlanValue) (m : Machine) (maker : ℕ → ℕ) (value : ℕ → BlockValue) (drawn : ℕ → Bool) (v : View) : Type 0 where
  pub picked : (k : ℕ) (x : BlockValue) → noted_value k v.picked ≡ Some x → (k < edges g) × (m.picked k ≡ true) × (x ≡ value (edge g k).lower)
  pub picks : (k : ℕ) → k < edges g → tends g m maker v.worker (edge g k).upper ≡ true → m.picked k ≡ true → is_some (noted_value k v.picked) ≡ true
  pub laid : (k : ℕ) (x : BlockValue) → noted_value k v.laid ≡ Some x → (k < edges g) × (m.laid k ≡ true) × (x ≡ value (edge g k).lower)
  pub lays : (k : ℕ) → k < edges g → tends g m maker v.worker (edge g k).lower ≡ true → m.laid k ≡ true → is_some (noted_value k v.laid) ≡ true
  pub draws : (k : ℕ) → k < edges g → is_in k v.drawn ≡ (drawn k && is_held_by v.worker (m.stage (edge g k).lower))

-- a slot is at home with its lower block's value where the edge is laid and not picked, and at home without one where it is neither
-- laid nor drawn; where it is picked the slot has no value, and where it is drawn it is out; values are right for their blocks
pub record SlotsStand (g : PlanValue) (words : List ℕ) (homes : List (table.Option (std.Option Shared))) (views : List View) (m : Machine) (maker : ℕ → ℕ) (value : ℕ → BlockValue) (drawn : ℕ → Bool) : Type 0 where
  pub deep : length homes ≡ edges g
  pub code : (k : ℕ) → k < edges g → slice_index words (edge_place g k) ≡ edge_code (drawn k) (m.laid k) (m.picked k)
  pub home : (k : ℕ) → k < edges g → m.laid k ≡ true → m.picked k ≡ false → HasValue homes k (value (edge g k).lower)
  pub empty : (k : ℕ) → k < edges g → m.laid k ≡ false → drawn k ≡ false → get_elem? homes k ≡ some (some None)
  pub spent : (k : ℕ) → k < edges g → m.picked k ≡ true → (x : Shared) → get_elem? homes k ≢ some (some (Some x))
  pub right : (k : ℕ) → k < edges g → m.laid k ≡ true → IsRightFor g (edge g k).lower (value (edge g k).lower)
  pub away : (k : ℕ) → k < edges g → drawn k ≡ true → IsDrawn g homes m k
  pub notes : (id : ℕ) (v : View) → get_elem? views id ≡ some v → v.live ≡ true → Notes g m maker value drawn v
