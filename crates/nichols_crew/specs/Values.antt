-- The values of a wave, and what was laid.
use Rattle.std.specs.Prelude.{◌≡◌, ◌<◌, ℕ, List, slice_index_or, Some}
use Rattle.nichols_value.specs.declared.shared.Shared.{Shared}
use Rattle.nichols_value.specs.Worth.{worth}
use Rattle.nichols_shelf.specs.Lists.{noted_value}
use Rattle.nichols_shelf.specs.Places.{edges, edge}
use Rattle.nichols_shelf.specs.Plan.{PlanValue}
use Rattle.nichols_shelf.specs.declared.view.View.{View}

-- the value that was laid at each edge is that of its lower block
abbrev pub AreLaid : PlanValue → View → List Shared → Type 0
AreLaid g v values = (k : ℕ) (d : Shared) → k < edges g → noted_value k v.laid ≡ Some (worth (slice_index_or values (edge g k).lower d))
