-- The six laws of the shelf machine's states.
use Rattle.std.specs.Prelude.{◌≡◌, ◌≢◌, ℕ, ◌<◌, true, false, List, length}
use Rattle.nichols_core.specs.Layout.{edge_at}
use Rattle.nichols_core.specs.Machine.{Machine}
use Rattle.nichols_core.specs.declared.edge.Edge.{Edge}
use Rattle.nichols_core.specs.declared.stage.Stage.{Stage}
use Rattle.nichols_core.specs.declared.stage.Stage.TheVariants.{Ready, Held, Parked, Resumed, Published}

-- Held or Published
abbrev pub IsBegun : Stage → Type 0
IsBegun (Held w) = Unit {0}
IsBegun Published = Unit {0}
IsBegun _ = ⊥

-- Ready, Parked or Resumed
abbrev pub IsWaiting : Stage → Type 0
IsWaiting Ready = Unit {0}
IsWaiting (Parked l) = Unit {0}
IsWaiting (Resumed w) = Unit {0}
IsWaiting _ = ⊥

-- an edge from l to b
pub record HasEdge (es : List Edge) (l b : ℕ) : Type 0 where
  pub number : ℕ
  pub inside : number < length es
  pub lower : (edge_at es number).lower ≡ l
  pub upper : (edge_at es number).upper ≡ b

-- of the edges into b: all are picked, none is
abbrev pub AllPicked : List Edge → Machine → ℕ → Type 0
AllPicked es m b = (k : ℕ) → k < length es → (edge_at es k).upper ≡ b → m.picked k ≡ true

abbrev pub NonePicked : List Edge → Machine → ℕ → Type 0
NonePicked es m b = (k : ℕ) → k < length es → (edge_at es k).upper ≡ b → m.picked k ≡ false

-- of the edges out of b: all are laid, none is
abbrev pub AllLaid : List Edge → Machine → ℕ → Type 0
AllLaid es m b = (k : ℕ) → k < length es → (edge_at es k).lower ≡ b → m.laid k ≡ true

abbrev pub NoneLaid : List Edge → Machine → ℕ → Type 0
NoneLaid es m b = (k : ℕ) → k < length es → (edge_at es k).lower ≡ b → m.laid k ≡ false

-- ready is owed; parked waits for an unpublished block; picked is laid below a published block; laid by a
-- holder that picked everything; published is complete; untouched before it is held
pub record SixLaws (es : List Edge) (m : Machine) : Type 0 where
  pub ready : (b : ℕ) → m.stage b ≡ Ready → (w : ℕ) × (m.owes w b ≡ true)
  pub parked : (b l : ℕ) → m.stage b ≡ Parked l → HasEdge es l b × (m.stage l ≢ Published) × NonePicked es m b
  pub picked : (k : ℕ) → k < length es → m.picked k ≡ true → (m.laid k ≡ true) × (m.stage (edge_at es k).lower ≡ Published) × IsBegun (m.stage (edge_at es k).upper)
  pub laid : (k : ℕ) → k < length es → m.laid k ≡ true → IsBegun (m.stage (edge_at es k).lower) × AllPicked es m (edge_at es k).lower
  pub published : (b : ℕ) → m.stage b ≡ Published → AllPicked es m b × AllLaid es m b
  pub untouched : (b : ℕ) → IsWaiting (m.stage b) → NonePicked es m b × NoneLaid es m b
