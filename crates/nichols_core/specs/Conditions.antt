-- The conditions of the events as facts, with the edges as they stand in a layout.
use Rattle.std.specs.Prelude.{◌≡◌, ℕ, ◌<◌, ◌↔◌, true, false, IsTrue, List, length, Some}
use Rattle.nichols_core.specs.Layout.{LayoutValue, IsLayout, edge_at, edge_into, edge_out}
use Rattle.nichols_core.specs.Machine.{Machine, can}
use Rattle.nichols_core.specs.SixLaws.{AllPicked, NonePicked, AllLaid}
use Rattle.nichols_core.specs.declared.edge.Edge.{Edge}
use Rattle.nichols_core.specs.declared.event.Event.{Event}
use Rattle.nichols_core.specs.declared.event.Event.TheVariants.{Take, Ask, Pick, Lay, Publish, Release}
use Rattle.nichols_core.specs.declared.stage.Stage.TheVariants.{Held, Resumed, Published}

-- the edge with number k has the letter a, and goes into b
pub record IsInto (es : List Edge) (b a k : ℕ) : Type 0 where
  pub inside : k < length es
  pub upper : (edge_at es k).upper ≡ b
  pub letter : (edge_at es k).letter ≡ a

-- the edge with number k has the letter a, and goes out of b
pub record IsOutOf (es : List Edge) (b a k : ℕ) : Type 0 where
  pub inside : k < length es
  pub lower : (edge_at es k).lower ≡ b
  pub letter : (edge_at es k).letter ≡ a

-- what the condition of an event asks
abbrev pub Allows : List Edge → Event → Machine → Type 0
Allows es (Take w b) m = Unit {0}
Allows es (Ask w b a) m = (m.stage b ≡ Held w) × ((k : ℕ) × IsInto es b a k) × NonePicked es m b
Allows es (Pick w b a) m =
    (m.stage b ≡ Held w)
    × ((k : ℕ) × (IsInto es b a k × (m.stage (edge_at es k).lower ≡ Published) × (m.laid k ≡ true) × (m.picked k ≡ false)))
Allows es (Lay w b a) m = (m.stage b ≡ Held w) × AllPicked es m b × ((k : ℕ) × (IsOutOf es b a k × (m.laid k ≡ false)))
Allows es (Publish w b) m = (m.stage b ≡ Held w) × AllPicked es m b × AllLaid es m b
Allows es (Release w b) m = m.stage b ≡ Resumed w

-- in a layout an edge is the one of its letter into its upper block, and out of its lower block
abbrev pub AnEdgeIsFoundByItsLetter : Type 0
AnEdgeIsFoundByItsLetter = (l : LayoutValue) → IsLayout l → (k : ℕ) → k < length l.edges
    → (edge_into l.edges (edge_at l.edges k).upper (edge_at l.edges k).letter ≡ Some k)
    × (edge_out l.edges (edge_at l.edges k).lower (edge_at l.edges k).letter ≡ Some k)

-- the test of an event's condition is what the condition asks
abbrev pub AConditionIsWhatItAsks : Type 0
AConditionIsWhatItAsks = (l : LayoutValue) → IsLayout l → (event : Event) (m : Machine)
    → IsTrue (can l.edges event m) ↔ Allows l.edges event m
