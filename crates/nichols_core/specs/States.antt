-- A state as it is kept: lists over its layout, and the machine's state that they are.
use Rattle.std.specs.Prelude.{◌≡◌, ℕ, ◌+◌, ◌*◌, ◌<◌, Bool, false, ◌&&◌, nat_lt, List, length, slice_index_or}
use Rattle.nichols_tensor.specs.declared.TheConstants.{LETTER_LIMIT}
use Rattle.nichols_tensor.specs.Words.{IsLetterOf}
use Rattle.nichols_core.specs.Layout.{LayoutValue, IsLayout}
use Rattle.nichols_core.specs.Machine.{Machine, can, after}
use Rattle.nichols_core.specs.SixLaws.{SixLaws}
use Rattle.nichols_core.specs.declared.edge.Edge.{Edge}
use Rattle.nichols_core.specs.declared.marks.Marks.{Marks}
use Rattle.nichols_core.specs.declared.stage.Stage.{Stage}
use Rattle.nichols_core.specs.declared.stage.Stage.TheVariants.{Published}
use Rattle.nichols_core.specs.declared.event.Event.{Event}
use Rattle.nichols_core.specs.declared.event.Event.TheVariants.{Take, Ask, Pick, Lay, Publish, Release}

-- the stage of each block, what each worker owes (a row of blocks for each worker), and which edges are laid
-- and picked
pub record MarksValue : Type 0 where
  pub stages : List Stage
  pub owed : List Bool
  pub laid : List Bool
  pub picked : List Bool

abbrev pub marks_value : Marks → MarksValue
marks_value m = record { stages = m.stages.items; owed = m.owed.items; laid = m.laid.items; picked = m.picked.items }

-- the layout, the number of workers, and the marks
pub record StateValue : Type 0 where
  pub layout : LayoutValue
  pub workers : ℕ
  pub marks : MarksValue

-- the mark with this number, and none past the end
abbrev pub mark_at : List Bool → ℕ → Bool
mark_at marks k = slice_index_or marks k false

abbrev pub stage_at : List Stage → ℕ → Stage
stage_at stages b = slice_index_or stages b Published

-- the number of the mark that the worker w owes b, in rows of n blocks
abbrev pub place_of : ℕ → ℕ → ℕ → ℕ
place_of n w b = w * n + b

-- the state of the machine that the marks are
abbrev pub machine_in : MarksValue → Machine
machine_in m = record {
  stage = stage_at m.stages;
  owes = λ w b. nat_lt b (length m.stages) && mark_at m.owed (place_of (length m.stages) w b);
  laid = mark_at m.laid;
  picked = mark_at m.picked;
}

abbrev pub machine_of : StateValue → Machine
machine_of s = machine_in s.marks

-- one stage for each block, and a laid and a picked mark for each edge
pub record FitEdges (l : LayoutValue) (m : MarksValue) : Type 0 where
  pub stages : length m.stages ≡ length l.degrees
  pub laid : length m.laid ≡ length l.edges
  pub picked : length m.picked ≡ length l.edges

-- and one mark for each worker and block
pub record AreOver (l : LayoutValue) (workers : ℕ) (m : MarksValue) : Type 0 where
  pub edges : FitEdges l m
  pub owed : length m.owed ≡ workers * length m.stages

-- marks over a layout, that meet the six laws
pub record IsState (s : StateValue) : Type 0 where
  pub layout : IsLayout s.layout
  pub marks : AreOver s.layout s.workers s.marks
  pub laws : SixLaws s.layout.edges (machine_of s)

-- one of the workers, and one of the blocks
abbrev pub IsWithin : StateValue → ℕ → ℕ → Type 0
IsWithin s w b = (w < s.workers) × (b < length s.layout.degrees)

-- worker, block and letter are in range
abbrev pub IsInRange : StateValue → Event → Type 0
IsInRange s (Take w b) = IsWithin s w b
IsInRange s (Ask w b a) = IsWithin s w b × IsLetterOf LETTER_LIMIT a
IsInRange s (Pick w b a) = IsWithin s w b × IsLetterOf LETTER_LIMIT a
IsInRange s (Lay w b a) = IsWithin s w b × IsLetterOf LETTER_LIMIT a
IsInRange s (Publish w b) = IsWithin s w b
IsInRange s (Release w b) = IsWithin s w b

abbrev pub worker_of : Event → ℕ
worker_of (Take w b) = w
worker_of (Ask w b a) = w
worker_of (Pick w b a) = w
worker_of (Lay w b a) = w
worker_of (Publish w b) = w
worker_of (Release w b) = w

abbrev pub block_of : Event → ℕ
block_of (Take w b) = b
block_of (Ask w b a) = b
block_of (Pick w b a) = b
block_of (Lay w b a) = b
block_of (Publish w b) = b
block_of (Release w b) = b

-- the marks have a stage for the block, and a mark for the worker and the block
pub record HavePlace (m : MarksValue) (w b : ℕ) : Type 0 where
  pub stage : b < length m.stages
  pub owed : place_of (length m.stages) w b < length m.owed

-- the lists are as long as they were
pub record SameLengths (old new : MarksValue) : Type 0 where
  pub stages : length new.stages ≡ length old.stages
  pub owed : length new.owed ≡ length old.owed
  pub laid : length new.laid ≡ length old.laid
  pub picked : length new.picked ≡ length old.picked

-- the event was applied where its condition holds, and else nothing changed
pub record Applies (es : List Edge) (event : Event) (old new : MarksValue) (answer : Bool) : Type 0 where
  pub answer_is : answer ≡ can es event (machine_in old)
  pub state_is : machine_in new ≡ after es event (machine_in old)
  pub lengths : SameLengths old new
  pub stays : answer ≡ false → new ≡ old
