-- What each event changes where its condition holds, as facts; and that debts may pass from worker to worker.
use Rattle.std.specs.Prelude.{◌≡◌, ◌≢◌, ℕ, true, false, ◌==◌, ◌||◌, if◌then◌else◌, List}
use Rattle.nichols_core.specs.Layout.{LayoutValue, IsLayout, edge_at}
use Rattle.nichols_core.specs.Machine.{Machine, after}
use Rattle.nichols_core.specs.SixLaws.{SixLaws}
use Rattle.nichols_core.specs.Conditions.{IsInto, IsOutOf, Allows}
use Rattle.nichols_core.specs.declared.edge.Edge.{Edge}
use Rattle.nichols_core.specs.declared.event.Event.{Event}
use Rattle.nichols_core.specs.declared.event.Event.TheVariants.{Take, Ask, Pick, Lay, Publish, Release}
use Rattle.nichols_core.specs.declared.stage.Stage.TheVariants.{Ready, Held, Parked, Resumed, Published}

-- From the state m to the state n: all stages stay, or all but that of b.
abbrev pub StagesStay : Machine → Machine → Type 0
StagesStay m n = (c : ℕ) → n.stage c ≡ m.stage c

abbrev pub OtherStagesStay : ℕ → Machine → Machine → Type 0
OtherStagesStay b m n = (c : ℕ) → c ≢ b → n.stage c ≡ m.stage c

-- all debts stay, or all but whether w owes b
abbrev pub DebtsStay : Machine → Machine → Type 0
DebtsStay m n = (u c : ℕ) → n.owes u c ≡ m.owes u c

abbrev pub OtherDebtsStay : ℕ → ℕ → Machine → Machine → Type 0
OtherDebtsStay w b m n = (u c : ℕ) → ¬ ((u ≡ w) × (c ≡ b)) → n.owes u c ≡ m.owes u c

-- each edge stays laid or unlaid, or each but the one with number k
abbrev pub LaidStays : Machine → Machine → Type 0
LaidStays m n = (j : ℕ) → n.laid j ≡ m.laid j

abbrev pub OtherLaidStays : ℕ → Machine → Machine → Type 0
OtherLaidStays k m n = (j : ℕ) → j ≢ k → n.laid j ≡ m.laid j

-- each edge stays picked or unpicked, or each but the one with number k
abbrev pub PickedStays : Machine → Machine → Type 0
PickedStays m n = (j : ℕ) → n.picked j ≡ m.picked j

abbrev pub OtherPickedStays : ℕ → Machine → Machine → Type 0
OtherPickedStays k m n = (j : ℕ) → j ≢ k → n.picked j ≡ m.picked j

-- w takes b: a ready block is then held by w, and in either case w doesn't owe it
pub record Takes (w b : ℕ) (m n : Machine) : Type 0 where
  pub ready : m.stage b ≡ Ready → n.stage b ≡ Held w
  pub unready : m.stage b ≢ Ready → n.stage b ≡ m.stage b
  pub debt : n.owes w b ≡ false
  pub stages : OtherStagesStay b m n
  pub debts : OtherDebtsStay w b m n
  pub laid : LaidStays m n
  pub picked : PickedStays m n

-- b's holder asks for l: where l isn't published, b is parked on it
pub record Asks (l b : ℕ) (m n : Machine) : Type 0 where
  pub unpublished : m.stage l ≢ Published → n.stage b ≡ Parked l
  pub published : m.stage l ≡ Published → n.stage b ≡ m.stage b
  pub stages : OtherStagesStay b m n
  pub debts : DebtsStay m n
  pub laid : LaidStays m n
  pub picked : PickedStays m n

-- the edge with number k is picked
pub record PicksEdge (k : ℕ) (m n : Machine) : Type 0 where
  pub edge : n.picked k ≡ true
  pub others : OtherPickedStays k m n
  pub stages : StagesStay m n
  pub debts : DebtsStay m n
  pub laid : LaidStays m n

-- the edge with number k is laid
pub record LaysEdge (k : ℕ) (m n : Machine) : Type 0 where
  pub edge : n.laid k ≡ true
  pub others : OtherLaidStays k m n
  pub stages : StagesStay m n
  pub debts : DebtsStay m n
  pub picked : PickedStays m n

-- w publishes b, and resumes every block that is parked on it
pub record PublishesBlock (w b : ℕ) (m n : Machine) : Type 0 where
  pub block : n.stage b ≡ Published
  pub parked : (c : ℕ) → m.stage c ≡ Parked b → n.stage c ≡ Resumed w
  pub others : (c : ℕ) → c ≢ b → m.stage c ≢ Parked b → n.stage c ≡ m.stage c
  pub debts : DebtsStay m n
  pub laid : LaidStays m n
  pub picked : PickedStays m n

-- w releases b, which is ready then and owed by w
pub record ReleasesBlock (w b : ℕ) (m n : Machine) : Type 0 where
  pub block : n.stage b ≡ Ready
  pub debt : n.owes w b ≡ true
  pub stages : OtherStagesStay b m n
  pub debts : OtherDebtsStay w b m n
  pub laid : LaidStays m n
  pub picked : PickedStays m n

-- what an event changes from m to n; all else stays
abbrev pub Changes : List Edge → Event → Machine → Machine → Type 0
Changes es (Take w b) m n = Takes w b m n
Changes es (Ask w b a) m n = (k : ℕ) → IsInto es b a k → Asks (edge_at es k).lower b m n
Changes es (Pick w b a) m n = (k : ℕ) → IsInto es b a k → PicksEdge k m n
Changes es (Lay w b a) m n = (k : ℕ) → IsOutOf es b a k → LaysEdge k m n
Changes es (Publish w b) m n = PublishesBlock w b m n
Changes es (Release w b) m n = ReleasesBlock w b m n

-- where the condition of an event holds, it changes this and nothing else; where it doesn't, nothing at all
abbrev pub AnEventChangesThisAlone : Type 0
AnEventChangesThisAlone = (l : LayoutValue) → IsLayout l → (event : Event) (m : Machine)
    → (Allows l.edges event m → Changes l.edges event m (after l.edges event m))
    × (¬ (Allows l.edges event m) → after l.edges event m ≡ m)

-- a block that somebody owes is owed by somebody still, and all but the debts stays
pub record DebtsPass (m n : Machine) : Type 0 where
  pub owed : (u b : ℕ) → m.owes u b ≡ true → (w : ℕ) × (n.owes w b ≡ true)
  pub stages : StagesStay m n
  pub laid : LaidStays m n
  pub picked : PickedStays m n

-- debts that pass from worker to worker keep the six laws, whatever the edges are
abbrev pub DebtsMayPass : Type 0
DebtsMayPass = (es : List Edge) (m n : Machine) → SixLaws es m → DebtsPass m n → SixLaws es n

-- the worker w takes over all that v owes
abbrev pub take_over : ℕ → ℕ → Machine → Machine
take_over w v m = record m { owes = λ u b. if u == w then m.owes w b || m.owes v b else (if u == v then false else m.owes u b) }

abbrev pub AWorkerMayTakeOverDebts : Type 0
AWorkerMayTakeOverDebts = (es : List Edge) (m : Machine) (w v : ℕ) → SixLaws es m → SixLaws es (take_over w v m)
