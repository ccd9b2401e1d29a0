-- The list that a worker keeps of what its pass made.
use Rattle.std.specs.Prelude.{◌≡◌, ℕ, ◌+◌, ◌-◌, ◌*◌, ◌<◌, ◌≤◌, true, List, map, length, Some}
use Rattle.std.specs.List.{AllByRecursion}
use Rattle.nichols_value.specs.Worth.{worth}
use Rattle.nichols_value.specs.declared.value.BlockValue.{BlockValue}
use Rattle.nichols_shelf.specs.Lists.{is_in, times_in, noted_value}
use Rattle.nichols_shelf.specs.Places.{blocks, edges, edge}
use Rattle.nichols_shelf.specs.Plan.{PlanValue, IsRightFor}
use Rattle.nichols_shelf.specs.declared.view.View.{View}
use Rattle.nichols_crew.specs.Owing.{count_below}
use Rattle.nichols_crew.specs.declared.made.Made.{Made}

-- the value is right for the block, and is the one laid at all edges out of it
pub record IsGood (g : PlanValue) (v : View) (m : Made) : Type 0 where
  pub right : IsRightFor g m.block (worth m.value)
  pub laid : (k : ℕ) → k < edges g → (edge g k).lower ≡ m.block → noted_value k v.laid ≡ Some (worth m.value)

-- the list names the blocks that the pass made, each once and in this order, each with such a value; and the pass laid nothing at an
-- edge out of another block
pub record IsKept (g : PlanValue) (v : View) (made : List Made) : Type 0 where
  pub names : map (λ (m : Made). m.block) made ≡ v.made
  pub once : (b : ℕ) → times_in b v.made ≤ 1
  pub inside : (b : ℕ) → is_in b v.made ≡ true → b < blocks g
  pub values : AllByRecursion (IsGood g v) made
  pub own : (k : ℕ) (x : BlockValue) → noted_value k v.laid ≡ Some x → is_in (edge g k).lower v.made ≡ true

-- as many blocks that it didn't owe a worker may take: one for each block
abbrev pub most_takes : PlanValue → ℕ
most_takes g = blocks g

-- a number that falls with each task: a publication makes up for up to 24 blocks that are owed from then on
abbrev pub remaining : PlanValue → List Made → View → ℕ
remaining g made v = 26 * (blocks g - length made) + count_below (blocks g) v.owed
