-- Rows that the definitions compute: runs of the machine on two blocks with one edge of letter 1. Nothing cites them.
use Rattle.std.proofs.Common.{◌≡◌, ℕ, Bool, true, false, List, [], ◌∷◌, refl}
use Rattle.nichols_core.specs.declared.edge.Edge.{Edge}
use Rattle.nichols_core.specs.declared.event.Event.{Event}
use Rattle.nichols_core.specs.declared.event.Event.TheVariants.{Take, Ask, Pick, Lay, Publish, Release}
use Rattle.nichols_core.specs.declared.stage.Stage.{Stage}
use Rattle.nichols_core.specs.declared.stage.Stage.TheVariants.{Ready, Held, Parked, Resumed, Published}
use Rattle.nichols_core.specs.Layout.{LayoutValue}
use Rattle.nichols_core.specs.Machine.{Machine, every, can, after}
use Rattle.nichols_core.specs.Runs.{run, start, state_reached}

two_blocks : LayoutValue
two_blocks = record { degrees = 1 ∷ 2 ∷ []; edges = record { lower = 0; letter = 1; upper = 1 } ∷ [] }

-- whether each event of a run is applied
all_applied : List Edge → List Event → Machine → List Bool
all_applied es [] m = []
all_applied es (e ∷ later) m = can es e m ∷ all_applied es later (after es e m)

-- the stages of blocks 0 and 1 after each event
stages_on_the_way : List Edge → List Event → Machine → List (Stage × Stage)
stages_on_the_way es [] m = []
stages_on_the_way es (e ∷ later) m = let n = after es e m in (n.stage 0, n.stage 1) ∷ stages_on_the_way es later n

-- whether the worker owes blocks 0 and 1
owes_either : Machine → ℕ → Bool × Bool
owes_either m w = (m.owes w 0, m.owes w 1)

-- whether the edge is laid, and picked
marks_of_edge : Machine → ℕ → Bool × Bool
marks_of_edge m k = (m.laid k, m.picked k)

by_two : List Event
by_two = Take 0 1 ∷ Ask 0 1 1 ∷ Take 1 0 ∷ Lay 1 0 1 ∷ Publish 1 0 ∷ Release 1 1 ∷ []

-- with a take of the upper block between the publication of the lower one and the release
by_one : List Event
by_one = Take 0 1 ∷ Ask 0 1 1 ∷ Take 0 0 ∷ Lay 0 0 1 ∷ Publish 0 0 ∷ Take 0 1 ∷ Release 0 1 ∷ Take 0 1 ∷ Ask 0 1 1 ∷ Pick 0 1 1 ∷ Publish 0 1 ∷ []

-- two workers: all are applied, and the upper block is then ready and owed by worker 1
two_workers : all_applied two_blocks.edges by_two (start 2) ≡ true ∷ true ∷ true ∷ true ∷ true ∷ true ∷ []
unfolding two_blocks by_two all_applied every
two_workers = refl

two_workers_ready : (state_reached two_blocks by_two).stage 1 ≡ Ready
unfolding two_blocks by_two run every
two_workers_ready = refl

two_workers_owed : (state_reached two_blocks by_two).owes 1 1 ≡ true
unfolding two_blocks by_two run every
two_workers_owed = refl

no_second_publication : can two_blocks.edges (Publish 1 0) (state_reached two_blocks by_two) ≡ false
unfolding two_blocks by_two run every
no_second_publication = refl

-- one worker: each event is applied, and the stages of both blocks after it
one_worker : all_applied two_blocks.edges by_one (start 2)
    ≡ true ∷ true ∷ true ∷ true ∷ true ∷ true ∷ true ∷ true ∷ true ∷ true ∷ true ∷ []
unfolding two_blocks by_one all_applied every
one_worker = refl

one_worker_stages : stages_on_the_way two_blocks.edges by_one (start 2)
    ≡ (Ready, Held 0)
    ∷ (Ready, Parked 0)
    ∷ (Held 0, Parked 0)
    ∷ (Held 0, Parked 0)
    ∷ (Published, Resumed 0)
    ∷ (Published, Resumed 0)
    ∷ (Published, Ready)
    ∷ (Published, Held 0)
    ∷ (Published, Held 0)
    ∷ (Published, Held 0)
    ∷ (Published, Published)
    ∷ []
unfolding two_blocks by_one stages_on_the_way every
one_worker_stages = refl

-- and at the end nothing is owed, and the edge is laid and picked
one_worker_owes : owes_either (state_reached two_blocks by_one) 0 ≡ (false, false)
unfolding two_blocks by_one owes_either run every
one_worker_owes = refl

one_worker_edge : marks_of_edge (state_reached two_blocks by_one) 0 ≡ (true, true)
unfolding two_blocks by_one marks_of_edge run every
one_worker_edge = refl
