-- The views of the live seats stand for what each worker holds, resumes, owes and made.
use Rattle.std.specs.Prelude.{◌≡◌, ◌≢◌, ℕ, ◌<◌, ◌≤◌, Bool, true, ◌==◌, ◌&&◌, ◌||◌, nat_lt, List}
use mathlib.Core.Option.{some}
use lib.ListN.{get_elem?}
use Rattle.nichols_core.specs.Machine.{Machine, is_held_by, is_resumed_by, is_published}
use Rattle.nichols_core.specs.Runs.{one_if}
use Rattle.nichols_core.specs.declared.stage.Stage.TheVariants.{Published}
use Rattle.nichols_shelf.specs.Plan.{PlanValue}
use Rattle.nichols_shelf.specs.Lists.{is_in, times_in}
use Rattle.nichols_shelf.specs.Places.{blocks}
use Rattle.nichols_shelf.specs.declared.view.View.{View}

-- whether b is published, by w
abbrev pub is_made_by : PlanValue → Machine → (ℕ → ℕ) → ℕ → ℕ → Bool
is_made_by g m maker w b = nat_lt b (blocks g) && (is_published (m.stage b) && (maker b == w))

-- whether w holds b or made it
abbrev pub tends : PlanValue → Machine → (ℕ → ℕ) → ℕ → ℕ → Bool
tends g m maker w b = is_held_by w (m.stage b) || is_made_by g m maker w b

-- whether w holds b, has resumed it, owes it or made it
abbrev pub concerns : PlanValue → Machine → (ℕ → ℕ) → ℕ → ℕ → Bool
concerns g m maker w b = is_held_by w (m.stage b) || (is_resumed_by w (m.stage b) || (m.owes w b || is_made_by g m maker w b))

-- the view of the seat with this number
pub record Knows (g : PlanValue) (m : Machine) (seat maker : ℕ → ℕ) (id : ℕ) (v : View) : Type 0 where
  pub plan : v.plan ≡ g
  pub place : seat v.worker ≡ id
  pub held : (b : ℕ) → is_in b v.held ≡ is_held_by v.worker (m.stage b)
  pub resumed : (b : ℕ) → is_in b v.resumed ≡ is_resumed_by v.worker (m.stage b)
  pub owed : (b : ℕ) → is_in b v.owed ≡ m.owes v.worker b
  pub known : (b : ℕ) → is_in b v.known ≡ true → m.stage b ≡ Published
  pub made : (b : ℕ) → times_in b v.made ≡ one_if (is_made_by g m maker v.worker b)

-- worker 0 shows how many passes there have been, and stands for the worker numbers below `first`; the others have numbers from there on
pub record IsNumbered (count first : ℕ) (v : View) : Type 0 where
  pub zeroth : v.worker ≡ 0 → (v.passes ≡ count) × (v.joined ≡ first)
  pub others : v.worker ≢ 0 → (first ≤ v.worker) × (v.worker < count)

-- the seat with this number is live and has the worker number w
pub record Lives (views : List View) (w id : ℕ) : Type 0 where
  pub view : View
  pub there : get_elem? views id ≡ some view
  pub live : view.live ≡ true
  pub worker : view.worker ≡ w

-- each live view says what its worker is about, and whoever is about a block lives; `seat` is the seat of a worker number
pub record SeatsStand (g : PlanValue) (views : List View) (m : Machine) (seat : ℕ → ℕ) (count first : ℕ) (maker : ℕ → ℕ) : Type 0 where
  pub knows : (id : ℕ) (v : View) → get_elem? views id ≡ some v → v.live ≡ true → Knows g m seat maker id v
  pub numbers : (id : ℕ) (v : View) → get_elem? views id ≡ some v → v.live ≡ true → IsNumbered count first v
  pub positive : 1 ≤ first
  pub counted : first ≤ count
  pub concerned : (w b : ℕ) → concerns g m maker w b ≡ true → Lives views w (seat w)
