-- The statements of the laws of the shelf: what each kind of step does to the state for which the table stands, and what the table
-- says in every such state.
use Rattle.std.specs.Prelude.{◌≡◌, ◌≢◌, ℕ, ◌-◌, ◌<◌, ◌^◌, ◌==◌, true, if◌then◌else◌, List, [], ◌∷◌, ◌++◌, replicate, slice_index, slice_set, bit_or, Option, Some, None}
use mathlib.Core.Option.{some, none}
use lib.ListN.{get_elem?}
use Rattle.std.specs.Int.{bit_at}
use Rattle.atomic_table.specs.Table.{opening}
use Rattle.nichols_core.specs.Layout.{IsLayout}
use Rattle.nichols_core.specs.Machine.{Machine, after}
use Rattle.nichols_core.specs.SixLaws.{SixLaws}
use Rattle.nichols_core.specs.Changes.{take_over}
use Rattle.nichols_core.specs.Runs.{start}
use Rattle.nichols_core.specs.declared.event.Event.TheVariants.{Take, Ask, Pick, Lay, Publish, Release}
use Rattle.nichols_value.specs.Worth.{worth}
use Rattle.nichols_value.specs.declared.shared.Shared.{Shared}
use Rattle.nichols_value.specs.declared.value.BlockValue.{BlockValue}
use Rattle.nichols_shelf.specs.Plan.{PlanValue, IsRightFor}
use Rattle.nichols_shelf.specs.Lists.{is_in, times_in, noted_value}
use Rattle.nichols_shelf.specs.Places.{blocks, edges, edge, desk_place, wait_place, edge_place, all_words}
use Rattle.nichols_shelf.specs.Views.{first_view, take_view, release_view, ask_view, publish_view, draw_view, lay_view, pick_view, one_more, newcomer, joined_view, spent_view}
use Rattle.nichols_shelf.specs.Settled.{HoldsNothing, ResumesNothing}
use Rattle.nichols_shelf.specs.Out.{are_picked, sent_home}
use Rattle.nichols_shelf.specs.Stands.{Tableau, Book, Stands, Holds}
use Rattle.nichols_shelf.specs.Calls.{MayAsk, MayPick, MayLay, MayPublish}
use Rattle.nichols_shelf.specs.declared.view.View.{View}
use Rattle.nichols_shelf.specs.Passes.{stands_for}

-- a table that stands for a state which meets the six laws, over a layout; the seat with this number has this live view
pub record Stood (g : PlanValue) (s : Tableau) (m : Machine) (book : Book) (id : ℕ) (v : View) : Type 0 where
  pub rules : IsLayout g.layout
  pub laws : SixLaws g.layout.edges m
  pub stands : Stands g s m book
  pub there : get_elem? s.views id ≡ some v
  pub live : v.live ≡ true

-- the table after a step of that seat by which no slot moves: a word changes, and the view does
abbrev pub stepped_to : Tableau → ℕ → ℕ → ℕ → View → Tableau
stepped_to s i word id v = record { words = slice_set s.words i word; homes = s.homes; views = slice_set s.views id v }

-- it stands for this state, by some book
abbrev pub StandsFor : PlanValue → Tableau → Machine → Type 0
StandsFor g s m = (book : Book) × Stands g s m book

-- what a table says of blocks, workers and edges is the same in both states
pub record AreAlike (g : PlanValue) (m n : Machine) : Type 0 where
  pub stage : (b : ℕ) → b < blocks g → m.stage b ≡ n.stage b
  pub owes : (w b : ℕ) → m.owes w b ≡ n.owes w b
  pub laid : (k : ℕ) → k < edges g → m.laid k ≡ n.laid k
  pub picked : (k : ℕ) → k < edges g → m.picked k ≡ n.picked k

-- of the states that meet the six laws a table stands for one alone, which its words and views determine, wherever the slots are:
-- each block has one stage by them
abbrev pub ATableStandsForOneState : Type 0
ATableStandsForOneState = (g : PlanValue) (s t : Tableau) (m n : Machine) → t.words ≡ s.words → t.views ≡ s.views → IsLayout g.layout → SixLaws g.layout.edges m → SixLaws g.layout.edges n
    → StandsFor g s m → StandsFor g t n → AreAlike g m n

-- all live views hold one plan, that of the shelf: its braid, layout, keys and rows limit
abbrev pub LiveViewsHoldThePlan : Type 0
LiveViewsHoldThePlan = (g : PlanValue) (s : Tableau) → Holds g s → (id : ℕ) (v : View) → get_elem? s.views id ≡ some v → v.live ≡ true → v.plan ≡ g

-- two live passes never stand for the same worker number
abbrev pub WorkerNumbersAreApart : Type 0
WorkerNumbersAreApart = (g : PlanValue) (s : Tableau) → Holds g s → (i j : ℕ) (u v : View) → get_elem? s.views i ≡ some u → u.live ≡ true → get_elem? s.views j ≡ some v → v.live ≡ true
    → (w : ℕ) → stands_for u w ≡ true → stands_for v w ≡ true → i ≡ j

-- a new table: every word is 0, an empty slot is at home at each edge, and the one view is that of worker 0, who owes every block
abbrev pub new_table : PlanValue → Tableau
new_table g = opening (replicate (all_words g) 0) (replicate (edges g) None) (first_view g)

-- it stands for the start
abbrev pub ANewTableStandsForTheStart : Type 0
ANewTableStandsForTheStart = (g : PlanValue) → IsLayout g.layout → StandsFor g (new_table g) (start (blocks g))

abbrev pub ATakeIsItsEvent : Type 0
ATakeIsItsEvent = (g : PlanValue) (s : Tableau) (m : Machine) (book : Book) (id : ℕ) (v : View) → Stood g s m book id v → (b : ℕ) → b < blocks g
    → let found = slice_index s.words (desk_place b) in
    StandsFor g (stepped_to s (desk_place b) (if found == 0 then 1 else found) id (take_view b found v)) (after g.layout.edges (Take v.worker b) m)

abbrev pub AReleaseIsItsEvent : Type 0
AReleaseIsItsEvent = (g : PlanValue) (s : Tableau) (m : Machine) (book : Book) (id : ℕ) (v : View) → Stood g s m book id v → (b : ℕ) → b < blocks g → is_in b v.resumed ≡ true
    → let found = slice_index s.words (desk_place b) in
    StandsFor g (stepped_to s (desk_place b) 0 id (release_view b found v)) (after g.layout.edges (Release v.worker b) m)

abbrev pub AnAskIsItsEvent : Type 0
AnAskIsItsEvent = (g : PlanValue) (s : Tableau) (m : Machine) (book : Book) (id : ℕ) (v : View) → Stood g s m book id v → (b a : ℕ) (may : MayAsk g b a v)
    → let k = may.number in
    let i = wait_place g (edge g k).lower in
    let found = slice_index s.words i in
    StandsFor g (stepped_to s i (bit_or found (2 ^ ((edge g k).letter - 1))) id (ask_view g k found v)) (after g.layout.edges (Ask v.worker b a) m)

-- any empty slots of edges that the pass picked go home
abbrev pub APublicationIsItsEvent : Type 0
APublicationIsItsEvent = (g : PlanValue) (s : Tableau) (m : Machine) (book : Book) (id : ℕ) (v : View) → Stood g s m book id v → (b : ℕ) → b < blocks g → MayPublish g b v
    → (out : List (ℕ × Option Shared)) → are_picked v out ≡ true
    → let i = wait_place g b in
    let found = slice_index s.words i in
    StandsFor g (record { words = slice_set s.words i (bit_or found (2 ^ 63)); homes = sent_home s.homes out; views = slice_set s.views id (publish_view g b found v) }) (after g.layout.edges (Publish v.worker b) m)

-- the slot comes out, with the value that the pass notes
abbrev pub APickIsItsEvent : Type 0
APickIsItsEvent = (g : PlanValue) (s : Tableau) (m : Machine) (book : Book) (id : ℕ) (v : View) → Stood g s m book id v → (b a : ℕ) (may : MayPick g b a v)
    → let k = may.number in
    let i = edge_place g k in
    let found = slice_index s.words i in
    (shared : Shared) × (get_elem? s.homes k ≡ some (some (Some shared)))
    × StandsFor g (record { words = slice_set s.words i 3; homes = slice_set s.homes k none; views = slice_set s.views id (pick_view g k (worth shared) found v) }) (after g.layout.edges (Pick v.worker b a) m)

abbrev pub ADrawLeavesTheState : Type 0
ADrawLeavesTheState = (g : PlanValue) (s : Tableau) (m : Machine) (book : Book) (id : ℕ) (v : View) → Stood g s m book id v → v.drawn ≡ [] → (b a : ℕ) (value : BlockValue) (may : MayLay g b a value v)
    → let k = may.number in
    let i = edge_place g k in
    let found = slice_index s.words i in
    (get_elem? s.homes k ≡ some (some None))
    × StandsFor g (record { words = slice_set s.words i 1; homes = slice_set s.homes k none; views = slice_set s.views id (draw_view g k found v) }) m

-- an edge that the pass drew, out of a block that it holds, and a value for it that is right and that of its other edges
pub record IsInHand (g : PlanValue) (k : ℕ) (value : BlockValue) (v : View) : Type 0 where
  pub inside : k < edges g
  pub holds : is_in (edge g k).lower v.held ≡ true
  pub drawn : is_in k v.drawn ≡ true
  pub right : IsRightFor g (edge g k).lower value
  pub equal : (j : ℕ) (x : BlockValue) → j < edges g → (edge g j).lower ≡ (edge g k).lower → noted_value j v.laid ≡ Some x → x ≡ value

-- the slot goes home with the value
abbrev pub ALayingIsItsEvent : Type 0
ALayingIsItsEvent = (g : PlanValue) (s : Tableau) (m : Machine) (book : Book) (id : ℕ) (v : View) → Stood g s m book id v → (k : ℕ) (shared : Shared) → IsInHand g k (worth shared) v
    → let i = edge_place g k in
    let found = slice_index s.words i in
    StandsFor g (record { words = slice_set s.words i 2; homes = slice_set s.homes k (some (Some shared)); views = slice_set s.views id (lay_view g k (worth shared) found v) }) (after g.layout.edges (Lay v.worker (edge g k).lower (edge g k).letter) m)

abbrev pub ASplitLeavesTheState : Type 0
ASplitLeavesTheState = (g : PlanValue) (s : Tableau) (m : Machine) (book : Book) (id : ℕ) (v : View) → Stood g s m book id v → v.worker ≡ 0
    → StandsFor g (record { words = s.words; homes = s.homes; views = slice_set s.views id (one_more v) ++ newcomer v ∷ [] }) m

-- worker 0 takes over what the other owed, and all else stays
abbrev pub AJoinPassesDebts : Type 0
AJoinPassesDebts = (g : PlanValue) (s : Tableau) (m : Machine) (book : Book) (id : ℕ) (v : View) → Stood g s m book id v → v.worker ≡ 0
    → (other : ℕ) (u : View) → other ≢ id → get_elem? s.views other ≡ some u → u.live ≡ true → u.worker ≡ v.joined → HoldsNothing u → ResumesNothing u
    → StandsFor g (record { words = s.words; homes = s.homes; views = slice_set (slice_set s.views id (joined_view v u)) other spent_view }) (take_over 0 u.worker m)

-- every value in a slot at home, and every value that a live view notes, is right for the edge's lower block
abbrev pub ValuesAreRight : Type 0
ValuesAreRight = (g : PlanValue) (s : Tableau) → Holds g s
    → ((k : ℕ) (shared : Shared) → k < edges g → get_elem? s.homes k ≡ some (some (Some shared)) → IsRightFor g (edge g k).lower (worth shared))
    × ((id : ℕ) (v : View) (k : ℕ) (x : BlockValue) → get_elem? s.views id ≡ some v → v.live ≡ true → noted_value k v.picked ≡ Some x → IsRightFor g (edge g k).lower x)
    × ((id : ℕ) (v : View) (k : ℕ) (x : BlockValue) → get_elem? s.views id ≡ some v → v.live ≡ true → noted_value k v.laid ≡ Some x → IsRightFor g (edge g k).lower x)

-- a value of the block b: at home at an edge out of it, or noted by a live view as picked from one or as laid at one
pub data IsShown (g : PlanValue) (s : Tableau) (b : ℕ) : BlockValue → Type 0 where
  at_home : (k : ℕ) (shared : Shared) → k < edges g → (edge g k).lower ≡ b → get_elem? s.homes k ≡ some (some (Some shared)) → IsShown g s b (worth shared)
  as_picked : (id : ℕ) (v : View) (k : ℕ) (x : BlockValue) → get_elem? s.views id ≡ some v → v.live ≡ true → (edge g k).lower ≡ b → noted_value k v.picked ≡ Some x → IsShown g s b x
  as_laid : (id : ℕ) (v : View) (k : ℕ) (x : BlockValue) → get_elem? s.views id ≡ some v → v.live ≡ true → (edge g k).lower ≡ b → noted_value k v.laid ≡ Some x → IsShown g s b x

-- so no block has two values
abbrev pub ABlockHasOneValue : Type 0
ABlockHasOneValue = (g : PlanValue) (s : Tableau) → Holds g s → (b : ℕ) (x y : BlockValue) → IsShown g s b x → IsShown g s b y → x ≡ y

-- a block whose wait word says that it is published stands once in what one live pass made, and in what no other made
abbrev pub APublishedBlockWasMadeOnce : Type 0
APublishedBlockWasMadeOnce = (g : PlanValue) (s : Tableau) → Holds g s → (b : ℕ) → b < blocks g
    → bit_at (slice_index s.words (wait_place g b)) 63 ≡ 1
    → (id : ℕ) × ((v : View) × ((get_elem? s.views id ≡ some v) × (v.live ≡ true) × (times_in b v.made ≡ 1)
    × ((j : ℕ) (u : View) → j ≢ id → get_elem? s.views j ≡ some u → u.live ≡ true → times_in b u.made ≡ 0)))

-- and no live pass made another block
abbrev pub NothingElseWasMade : Type 0
NothingElseWasMade = (g : PlanValue) (s : Tableau) → Holds g s → (b : ℕ) (id : ℕ) (v : View) → get_elem? s.views id ≡ some v → v.live ≡ true
    → times_in b v.made ≢ 0 → (b < blocks g) × (bit_at (slice_index s.words (wait_place g b)) 63 ≡ 1)
