-- What a shelf shows once all passes but one are joined into that one, which holds and resumes nothing.
use Rattle.std.specs.Prelude.{◌≡◌, ℕ, ◌<◌, ◌≤◌, true, false, Some, is_some}
use Rattle.nichols_value.specs.declared.value.BlockValue.{BlockValue}
use Rattle.nichols_shelf.specs.Plan.{PlanValue, IsRightFor}
use Rattle.nichols_shelf.specs.Lists.{is_in, times_in, noted_value}
use Rattle.nichols_shelf.specs.Places.{blocks, edges, edge}
use Rattle.nichols_shelf.specs.declared.view.View.{View}

-- the pass holds nothing, resumes nothing, owes nothing
abbrev pub HoldsNothing : View → Type 0
HoldsNothing v = (b : ℕ) → is_in b v.held ≡ false

abbrev pub ResumesNothing : View → Type 0
ResumesNothing v = (b : ℕ) → is_in b v.resumed ≡ false

abbrev pub OwesNothing : View → Type 0
OwesNothing v = (b : ℕ) → b < blocks v.plan → is_in b v.owed ≡ false

-- where the pass owed nothing it made every block, each once, and in any case nothing that is no block; it notes a value at each
-- edge out of a block that it made, which is right for the block and the same at all its edges
pub record IsSettled (g : PlanValue) (v : View) : Type 0 where
  pub all : OwesNothing v → (b : ℕ) → b < blocks g → times_in b v.made ≡ 1
  pub nothing_else : (b : ℕ) → blocks g ≤ b → times_in b v.made ≡ 0
  pub values : (k : ℕ) → k < edges g → times_in (edge g k).lower v.made ≡ 1 → is_some (noted_value k v.laid) ≡ true
  pub right : (k : ℕ) (x : BlockValue) → noted_value k v.laid ≡ Some x → IsRightFor g (edge g k).lower x
  pub equal : (j k : ℕ) (x y : BlockValue) → (edge g j).lower ≡ (edge g k).lower → noted_value j v.laid ≡ Some x → noted_value k v.laid ≡ Some y → x ≡ y
