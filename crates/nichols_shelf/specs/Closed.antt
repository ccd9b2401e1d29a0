-- Closed shelves as their callers see them.
use Rattle.std.specs.Prelude.{◌≡◌, ℕ, ◌<◌}
use Rattle.nichols_shelf.specs.Plan.{PlanValue}
use Rattle.nichols_shelf.specs.Lists.{times_in}
use Rattle.nichols_shelf.specs.Places.{blocks}
use Rattle.nichols_shelf.specs.declared.view.View.{View}
use Rattle.nichols_shelf.specs.declared.closed.Closed.{Closed}

-- its braid, layout, keys and rows limit, and what its last pass knew: the blocks that it made, and the values that it laid
abbrev pub plan_in : Closed → PlanValue
plan_in c = c.plan

abbrev pub last_view : Closed → View
last_view c = c.last.value.me.0

-- every block is published, and the pass made it once
abbrev pub IsAllPublished : Closed → Type 0
IsAllPublished c = (b : ℕ) → b < blocks (plan_in c) → times_in b (last_view c).made ≡ 1
