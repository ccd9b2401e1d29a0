-- What a caller marks of a pass, so that it can ask at run time whether a call is allowed.
use Rattle.std.specs.Prelude.{◌≡◌, ℕ, Bool, true, List, [], length, Some, is_some}
use Rattle.nichols_core.specs.States.{mark_at}
use Rattle.nichols_value.specs.declared.value.BlockValue.{BlockValue}
use Rattle.nichols_value.specs.declared.value.BlockValue.TheVariants.{Starved}
use Rattle.nichols_shelf.specs.Lists.{is_in, noted_value}
use Rattle.nichols_shelf.specs.Places.{blocks, edges}
use Rattle.nichols_shelf.specs.Passes.{IsOf, view_of}
use Rattle.nichols_shelf.specs.declared.pass.Pass.{Pass}
use Rattle.nichols_shelf.specs.declared.shelf.Shelf.{Shelf}
use Rattle.nichols_shelf.specs.declared.view.View.{View}

-- the marks of blocks are those that the pass holds, resumes and may know as published; the marks of edges are those that it picked
-- and laid, and it laid want of memory alone
pub record Mirrors (held resumed known picked laid : List Bool) (v : View) : Type 0 where
  pub held_room : length held ≡ blocks v.plan
  pub resumed_room : length resumed ≡ blocks v.plan
  pub known_room : length known ≡ blocks v.plan
  pub picked_room : length picked ≡ edges v.plan
  pub laid_room : length laid ≡ edges v.plan
  pub holds : (b : ℕ) → mark_at held b ≡ is_in b v.held
  pub resumes : (b : ℕ) → mark_at resumed b ≡ is_in b v.resumed
  pub knows : (b : ℕ) → mark_at known b ≡ true → is_in b v.known ≡ true
  pub picks : (k : ℕ) → mark_at picked k ≡ is_some (noted_value k v.picked)
  pub lays : (k : ℕ) → mark_at laid k ≡ is_some (noted_value k v.laid)
  pub starved : (k : ℕ) (x : BlockValue) → noted_value k v.laid ≡ Some x → x ≡ Starved

-- the worker number, how many passes there have been, and for whom worker 0 stands are as they were
abbrev pub KeepsNumbers : View → View → Type 0
KeepsNumbers v w = (w.worker ≡ v.worker) × (w.passes ≡ v.passes) × (w.joined ≡ v.joined)

-- a pass of the shelf is one of it still, and has its numbers
abbrev pub StaysOf : Shelf → Pass → Pass → Type 0
StaysOf s old new = IsOf s new × KeepsNumbers (view_of old) (view_of new)

-- the pass holds and resumes nothing, and has picked and laid nothing
abbrev pub IsFresh : View → Type 0
IsFresh v = (v.held ≡ []) × (v.resumed ≡ []) × (v.picked ≡ []) × (v.laid ≡ [])
