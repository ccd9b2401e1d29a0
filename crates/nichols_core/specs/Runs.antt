-- Runs of the shelf machine: lists of events from the start, and what holds after every one of them.
use Rattle.std.specs.Prelude.{◌≡◌, ◌≢◌, ◌⊎◌, ℕ, ◌+◌, ◌<◌, Bool, true, false, not, ◌==◌, ◌&&◌, if◌then◌else◌, nat_lt, List, [], ◌∷◌, ◌++◌, length}
use Rattle.nichols_core.specs.Layout.{LayoutValue, IsLayout, edge_at, edge_into, edge_out}
use Rattle.nichols_core.specs.Machine.{Machine, is_parked, is_parked_on, is_resumed, is_published, some_edge, can, after}
use Rattle.nichols_core.specs.SixLaws.{SixLaws}
use Rattle.nichols_core.specs.declared.edge.Edge.{Edge}
use Rattle.nichols_core.specs.declared.stage.Stage.TheVariants.{Ready, Held, Parked, Resumed, Published}
use Rattle.nichols_core.specs.declared.event.Event.{Event}
use Rattle.nichols_core.specs.declared.event.Event.TheVariants.{Ask, Pick, Lay, Publish, Release}

-- Each of the n blocks is Ready and owed by worker 0, and no edge is laid or picked. A number that names no
-- block counts as published, so that no law needs a bound.
abbrev pub start : ℕ → Machine
start n = record {
  stage = λ b. if nat_lt b n then Ready else Published;
  owes = λ w b. (w == 0) && nat_lt b n;
  laid = λ _. false;
  picked = λ _. false;
}

-- the state that a list of events leads to, from the first one on
unfoldable pub run : List Edge → List Event → Machine → Machine
run es [] m = m
run es (e ∷ later) m = run es later (after es e m)

abbrev pub state_reached : LayoutValue → List Event → Machine
state_reached l events = run l.edges events (start (length l.degrees))

-- 1 or 0
abbrev pub one_if : Bool → ℕ
one_if t = if t then 1 else 0

-- how many events of a run pass a test, each in the state that it finds
unfoldable pub how_often_from : List Edge → (Event → Machine → Bool) → List Event → Machine → ℕ
how_often_from es p [] m = 0
how_often_from es p (e ∷ later) m = one_if (p e m) + how_often_from es p later (after es e m)

abbrev pub how_often : LayoutValue → (List Edge → Event → Machine → Bool) → List Event → ℕ
how_often l p events = how_often_from l.edges (p l.edges) events (start (length l.degrees))

-- the event is applied and publishes b
abbrev pub publishes : ℕ → List Edge → Event → Machine → Bool
publishes b es (Publish w c) m = can es (Publish w c) m && (b == c)
publishes b es _ m = false

-- the event is applied and parks b
abbrev pub parks : ℕ → List Edge → Event → Machine → Bool
parks b es (Ask w c a) m =
    can es (Ask w c a) m && (b == c) && some_edge (edge_into es c a) (λ k. not (is_published (m.stage (edge_at es k).lower)))
parks b es _ m = false

-- the event is applied and publishes the block on which b is parked
abbrev pub resumes : ℕ → List Edge → Event → Machine → Bool
resumes b es (Publish w l) m = can es (Publish w l) m && is_parked_on l (m.stage b)
resumes b es _ m = false

-- the event is applied and releases b
abbrev pub releases : ℕ → List Edge → Event → Machine → Bool
releases b es (Release w c) m = can es (Release w c) m && (b == c)
releases b es _ m = false

-- the event is applied and picks the edge with number k, or lays it
abbrev pub picks : ℕ → List Edge → Event → Machine → Bool
picks k es (Pick w b a) m = can es (Pick w b a) m && some_edge (edge_into es b a) (λ j. k == j)
picks k es _ m = false

abbrev pub lays : ℕ → List Edge → Event → Machine → Bool
lays k es (Lay w b a) m = can es (Lay w b a) m && some_edge (edge_out es b a) (λ j. k == j)
lays k es _ m = false

-- every event keeps the six laws, whatever the edges are
abbrev pub EveryEventKeepsTheSixLaws : Type 0
EveryEventKeepsTheSixLaws = (es : List Edge) (event : Event) (m : Machine) → SixLaws es m → SixLaws es (after es event m)

-- the six laws hold in every state of a run
abbrev pub EveryRunMeetsTheSixLaws : Type 0
EveryRunMeetsTheSixLaws = (l : LayoutValue) → IsLayout l → (events : List Event) → SixLaws l.edges (state_reached l events)

-- this follows from the form of a state alone, in which a block has one stage, and says nothing of the events
abbrev pub ABlockHasOneHolder : Type 0
ABlockHasOneHolder = (l : LayoutValue) → IsLayout l → (events : List Event) (b v w : ℕ)
    → (state_reached l events).stage b ≡ Held v → (state_reached l events).stage b ≡ Held w → v ≡ w

-- a block is published by one event where it is published, and by none elsewhere
abbrev pub ABlockIsPublishedOnce : Type 0
ABlockIsPublishedOnce = (l : LayoutValue) → IsLayout l → (events : List Event) (b : ℕ) → b < length l.degrees
    → how_often l (publishes b) events ≡ one_if (is_published ((state_reached l events).stage b))

abbrev pub APublishedBlockStaysSo : Type 0
APublishedBlockStaysSo = (l : LayoutValue) → IsLayout l → (events later : List Event) (b : ℕ)
    → (state_reached l events).stage b ≡ Published → (state_reached l (events ++ later)).stage b ≡ Published

-- the parkings of a block are its resumptions, and one more where it is parked
abbrev pub EachParkingIsResumedOnce : Type 0
EachParkingIsResumedOnce = (l : LayoutValue) → IsLayout l → (events : List Event) (b : ℕ)
    → how_often l (parks b) events ≡ how_often l (resumes b) events + one_if (is_parked ((state_reached l events).stage b))

-- the resumptions of a block are its releases, and one more where it is resumed
abbrev pub EachResumptionIsReleasedOnce : Type 0
EachResumptionIsReleasedOnce = (l : LayoutValue) → IsLayout l → (events : List Event) (b : ℕ)
    → how_often l (resumes b) events ≡ how_often l (releases b) events + one_if (is_resumed ((state_reached l events).stage b))

-- the publication of a block resumes each block that is parked on it
abbrev pub APublicationResumesWhatWaits : Type 0
APublicationResumesWhatWaits = (l : LayoutValue) → IsLayout l → (events : List Event) (w b low : ℕ)
    → (state_reached l events).stage b ≡ Parked low → can l.edges (Publish w low) (state_reached l events) ≡ true
    → (state_reached l (events ++ Publish w low ∷ [])).stage b ≡ Resumed w

-- from a pick on, the worker who picked holds the block until it is published
abbrev pub APickerHoldsUntilPublication : Type 0
APickerHoldsUntilPublication = (l : LayoutValue) → IsLayout l → (events later : List Event) (w b a : ℕ)
    → can l.edges (Pick w b a) (state_reached l events) ≡ true
    → ((state_reached l (events ++ Pick w b a ∷ later)).stage b ≡ Held w) ⊎ ((state_reached l (events ++ Pick w b a ∷ later)).stage b ≡ Published)

-- an edge is picked by one event where it is picked, and by none elsewhere
abbrev pub AnEdgeIsPickedOnce : Type 0
AnEdgeIsPickedOnce = (l : LayoutValue) → IsLayout l → (events : List Event) (k : ℕ)
    → how_often l (picks k) events ≡ one_if ((state_reached l events).picked k)

-- an edge is laid by one event where it is laid, and by none elsewhere
abbrev pub AnEdgeIsLaidOnce : Type 0
AnEdgeIsLaidOnce = (l : LayoutValue) → IsLayout l → (events : List Event) (k : ℕ)
    → how_often l (lays k) events ≡ one_if ((state_reached l events).laid k)

-- no worker holds the block, has resumed it or owes it
abbrev pub IsIdle : Machine → ℕ → Type 0
IsIdle m b = (w : ℕ) → (m.stage b ≢ Held w) × (m.stage b ≢ Resumed w) × (m.owes w b ≡ false)

-- in every state that meets the laws: where no block is held, resumed or owed, every block is published
abbrev pub WhereNothingIsOwedAllIsPublished : Type 0
WhereNothingIsOwedAllIsPublished = (l : LayoutValue) → IsLayout l → (m : Machine) → SixLaws l.edges m
    → ((b : ℕ) → b < length l.degrees → IsIdle m b)
    → (b : ℕ) → b < length l.degrees → m.stage b ≡ Published
