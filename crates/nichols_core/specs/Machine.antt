-- The shelf machine: its states, and its events with their conditions and effects.
use Rattle.std.specs.Prelude.{ℕ, zero, suc, Bool, true, false, not, ◌==◌, ◌&&◌, ◌||◌, if◌then◌else◌, List, length, Option, Some, None}
use Rattle.nichols_core.specs.Layout.{edge_at, edge_into, edge_out}
use Rattle.nichols_core.specs.declared.edge.Edge.{Edge}
use Rattle.nichols_core.specs.declared.stage.Stage.{Stage}
use Rattle.nichols_core.specs.declared.stage.Stage.TheVariants.{Ready, Held, Parked, Resumed, Published}
use Rattle.nichols_core.specs.declared.event.Event.{Event}
use Rattle.nichols_core.specs.declared.event.Event.TheVariants.{Take, Ask, Pick, Lay, Publish, Release}

-- A state: the stage of each block, whether a worker owes a block, and which edges are laid and picked, by
-- their numbers in the layout.
pub record Machine : Type 0 where
  pub stage : ℕ → Stage
  pub owes : ℕ → ℕ → Bool
  pub laid : ℕ → Bool
  pub picked : ℕ → Bool

-- f with the value v at b
abbrev pub put : {A : Type 0} → (ℕ → A) → ℕ → A → ℕ → A
put f b v c = if c == b then v else f c

-- whether each worker owes each block, where now the worker w owes b, or doesn't
abbrev pub put_owed : (ℕ → ℕ → Bool) → ℕ → ℕ → Bool → ℕ → ℕ → Bool
put_owed f w b v u c = if (u == w) && (c == b) then v else f u c

abbrev pub is_held_by : ℕ → Stage → Bool
is_held_by w (Held v) = v == w
is_held_by w _ = false

abbrev pub is_parked : Stage → Bool
is_parked (Parked l) = true
is_parked _ = false

abbrev pub is_parked_on : ℕ → Stage → Bool
is_parked_on l (Parked k) = k == l
is_parked_on l _ = false

abbrev pub is_resumed : Stage → Bool
is_resumed (Resumed w) = true
is_resumed _ = false

abbrev pub is_resumed_by : ℕ → Stage → Bool
is_resumed_by w (Resumed v) = v == w
is_resumed_by w _ = false

abbrev pub is_published : Stage → Bool
is_published Published = true
is_published _ = false

-- whether p holds of every number below n
unfoldable pub every : ℕ → (ℕ → Bool) → Bool
every zero p = true
every (suc n) p = every n p && p n

-- whether no edge into b is picked, all of them are, and all edges out of b are laid
abbrev pub none_picked : List Edge → (ℕ → Bool) → ℕ → Bool
none_picked es picked b = every (length es) (λ k. not (((edge_at es k).upper == b) && picked k))

abbrev pub all_picked : List Edge → (ℕ → Bool) → ℕ → Bool
all_picked es picked b = every (length es) (λ k. not ((edge_at es k).upper == b) || picked k)

abbrev pub all_laid : List Edge → (ℕ → Bool) → ℕ → Bool
all_laid es laid b = every (length es) (λ k. not ((edge_at es k).lower == b) || laid k)

-- whether there is such an edge, and p holds of its number
abbrev pub some_edge : Option ℕ → (ℕ → Bool) → Bool
some_edge None p = false
some_edge (Some k) p = p k

-- the condition of an event
abbrev pub can : List Edge → Event → Machine → Bool
can es (Take w b) m = true
can es (Ask w b a) m = is_held_by w (m.stage b) && some_edge (edge_into es b a) (λ k. true) && none_picked es m.picked b
can es (Pick w b a) m =
    is_held_by w (m.stage b)
    && some_edge (edge_into es b a) (λ k. is_published (m.stage (edge_at es k).lower) && m.laid k && not (m.picked k))
can es (Lay w b a) m =
    is_held_by w (m.stage b) && all_picked es m.picked b && some_edge (edge_out es b a) (λ k. not (m.laid k))
can es (Publish w b) m = is_held_by w (m.stage b) && all_picked es m.picked b && all_laid es m.laid b
can es (Release w b) m = is_resumed_by w (m.stage b)

-- the worker w takes a block: a Ready one is Held by w
abbrev pub stage_after_take : ℕ → Stage → Stage
stage_after_take w Ready = Held w
stage_after_take w s = s

-- the worker w takes b: whatever b was, w no longer owes it
abbrev pub take : ℕ → ℕ → Machine → Machine
take w b m = record m { stage = put m.stage b (stage_after_take w (m.stage b)); owes = put_owed m.owes w b false }

-- b is parked on l, where l isn't published
abbrev pub ask : ℕ → ℕ → Machine → Machine
ask b l m = if is_published (m.stage l) then m else record m { stage = put m.stage b (Parked l) }

abbrev pub pick : ℕ → Machine → Machine
pick k m = record m { picked = put m.picked k true }

abbrev pub lay : ℕ → Machine → Machine
lay k m = record m { laid = put m.laid k true }

-- the worker w publishes b: a block that is parked on b is Resumed by w
abbrev pub stage_after_publication : ℕ → ℕ → Stage → Stage
stage_after_publication w b (Parked l) = if l == b then Resumed w else Parked l
stage_after_publication w b s = s

abbrev pub publish : ℕ → ℕ → Machine → Machine
publish w b m = record m { stage = put (λ c. stage_after_publication w b (m.stage c)) b Published }

abbrev pub release : ℕ → ℕ → Machine → Machine
release w b m = record m { stage = put m.stage b Ready; owes = put_owed m.owes w b true }

-- what the edge with this number, if there is one, does to the state
abbrev pub by_edge : Option ℕ → (ℕ → Machine → Machine) → Machine → Machine
by_edge None f m = m
by_edge (Some k) f m = f k m

-- the effect of an event whose condition holds
abbrev pub effect : List Edge → Event → Machine → Machine
effect es (Take w b) m = take w b m
effect es (Ask w b a) m = by_edge (edge_into es b a) (λ k. ask b (edge_at es k).lower) m
effect es (Pick w b a) m = by_edge (edge_into es b a) pick m
effect es (Lay w b a) m = by_edge (edge_out es b a) lay m
effect es (Publish w b) m = publish w b m
effect es (Release w b) m = release w b m

-- the state after an event, which changes nothing where its condition fails
abbrev pub after : List Edge → Event → Machine → Machine
after es event m = if can es event m then effect es event m else m
