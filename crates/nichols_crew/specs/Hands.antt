-- The hands of a crew: passes with the lists that are kept for them.
use Rattle.std.specs.Prelude.{◌≡◌, ℕ, suc, ◌+◌, ◌-◌, All, ◌<◌, ◌≤◌, List, [], ◌∷◌, ◌++◌, length, Vec, vec_capacity, slice_set, slice_index_or, Some}
use Rattle.std.specs.Global.{Global}
use Rattle.nichols_value.specs.Worth.{worth}
use Rattle.nichols_value.specs.declared.shared.Shared.{Shared}
use Rattle.nichols_shelf.specs.Lists.{times_in, noted_value}
use Rattle.nichols_shelf.specs.Passes.{IsOf, plan_of, view_of}
use Rattle.nichols_shelf.specs.Places.{blocks, edges, edge}
use Rattle.nichols_shelf.specs.Plan.{PlanValue, IsRightFor}
use Rattle.nichols_shelf.specs.Played.{KeepsNumbers}
use Rattle.nichols_shelf.specs.Settled.{HoldsNothing, OwesNothing, ResumesNothing}
use Rattle.nichols_shelf.specs.declared.shelf.Shelf.{Shelf}
use Rattle.nichols_shelf.specs.declared.view.View.{View}
use Rattle.nichols_crew.specs.Kept.{IsKept}
use Rattle.nichols_crew.specs.declared.hand.Hand.{Hand}
use Rattle.nichols_crew.specs.declared.made.Made.{Made}

-- a hand may work
pub record IsReadyHand (s : Shelf) (h : Hand) : Type 0 where
  pub of_shelf : IsOf s h.pass
  pub holds : HoldsNothing (view_of h.pass)
  pub resumes : ResumesNothing (view_of h.pass)
  pub kept : IsKept (plan_of s) (view_of h.pass) h.made.items
  pub room : blocks (plan_of s) ≤ vec_capacity h.made

-- a hand has worked
pub record HasWorked (s : Shelf) (old new : Hand) : Type 0 where
  pub of_shelf : IsOf s new.pass
  pub numbers : KeepsNumbers (view_of old.pass) (view_of new.pass)
  pub holds : HoldsNothing (view_of new.pass)
  pub resumes : ResumesNothing (view_of new.pass)
  pub owes : OwesNothing (view_of new.pass)
  pub kept : IsKept (plan_of s) (view_of new.pass) new.made.items

-- hands that have worked, with the worker numbers from k on
abbrev pub AreHands : Shelf → ℕ → List Hand → Type 0
AreHands s k [] = Unit {0}
AreHands s k (h ∷ hs) = HasWorked s h h × ((view_of h.pass).worker ≡ k) × AreHands s (suc k) hs

-- a list that is kept for the pass, if the pass made each block once
abbrev pub IsKeptIfOnce : PlanValue → View → List Made → Type 0
IsKeptIfOnce g v made = ((b : ℕ) → times_in b v.made ≤ 1) → IsKept g v made

-- all that stands in some lists, one list behind the other
abbrev pub all_made : List (Vec Made Global) → List Made
all_made [] = []
all_made (v ∷ vs) = v.items ++ all_made vs

-- the values of a list, each put in its block's place
abbrev pub written : List Shared → List Made → List Shared
written xs [] = xs
written xs (m ∷ ms) = written (slice_set xs m.block m.value) ms

-- one value for each block, which is right for it and was laid at all edges out of it
pub record AreAnswered (g : PlanValue) (v : View) (values : List Shared) : Type 0 where
  pub count : length values ≡ blocks g
  pub right : (b : ℕ) (d : Shared) → b < blocks g → IsRightFor g b (worth (slice_index_or values b d))
  pub laid : (k : ℕ) (d : Shared) → k < edges g → noted_value k v.laid ≡ Some (worth (slice_index_or values (edge g k).lower d))

-- the pass holds, resumes and made nothing, and laid nothing
abbrev pub HasMadeNothing : View → Type 0
HasMadeNothing v = (v.held ≡ []) × (v.resumed ≡ []) × (v.made ≡ []) × (v.laid ≡ [])

-- n hands that may work: those of the workers from 1 on, and behind them that of worker 0, who stands for its number alone
pub record AreFresh (s : Shelf) (n : ℕ) (hands : List Hand) : Type 0 where
  pub count : length hands ≡ n
  pub ready : All (λ h. IsReadyHand s h) hands
  pub numbers : (i : ℕ) (d : Hand) → i + 1 < n → (view_of (slice_index_or hands i d).pass).worker ≡ i + 1
  pub zeroth : (d : Hand) → (view_of (slice_index_or hands (n - 1) d).pass).worker ≡ 0
  pub joined : (d : Hand) → (view_of (slice_index_or hands (n - 1) d).pass).joined ≡ 1
  pub passes : (d : Hand) → (view_of (slice_index_or hands (n - 1) d).pass).passes ≡ n
