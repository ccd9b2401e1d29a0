-- Shelves and passes as their callers see them.
use Rattle.std.specs.Prelude.{◌≡◌, ℕ, ◌<◌, Bool, true, nat_lt, ◌==◌, if◌then◌else◌, None, is_some}
use Rattle.nichols_shelf.specs.Plan.{PlanValue}
use Rattle.nichols_shelf.specs.Lists.{noted_value}
use Rattle.nichols_shelf.specs.Places.{edges, edge}
use Rattle.nichols_shelf.specs.declared.view.View.{View}
use Rattle.nichols_shelf.specs.declared.pass.Pass.{Pass}
use Rattle.nichols_shelf.specs.declared.shelf.Shelf.{Shelf}

-- what a pass shows
abbrev pub view_of : Pass → View
view_of p = p.place.me.0

-- the braid, the layout, the keys and the rows limit of a shelf
abbrev pub plan_of : Shelf → PlanValue
plan_of s = s.plan

-- the pass is one of this shelf
abbrev pub IsOf : Shelf → Pass → Type 0
IsOf s p = (p.place.table_id ≡ s.board.shared.table_id) × ((view_of p).plan ≡ s.plan)

-- whether the pass stands for the worker number w: worker 0 for all below some number, every other pass for its own alone
abbrev pub stands_for : View → ℕ → Bool
stands_for v w = if v.worker == 0 then nat_lt w v.joined else w == v.worker

-- all edges into the block are noted as picked, or none is; all edges out of it are noted as laid
abbrev pub HasPickedAll : PlanValue → View → ℕ → Type 0
HasPickedAll g v b = (k : ℕ) → k < edges g → (edge g k).upper ≡ b → is_some (noted_value k v.picked) ≡ true

abbrev pub HasPickedNone : PlanValue → View → ℕ → Type 0
HasPickedNone g v b = (k : ℕ) → k < edges g → (edge g k).upper ≡ b → noted_value k v.picked ≡ None

abbrev pub HasLaidAll : PlanValue → View → ℕ → Type 0
HasLaidAll g v b = (k : ℕ) → k < edges g → (edge g k).lower ≡ b → is_some (noted_value k v.laid) ≡ true
