-- What a pass knows, and how each step changes it.
use Rattle.std.specs.Prelude.{ℕ, pos, ◌+◌, ◌-◌, Bool, true, false, ◌==◌, ◌&&◌, if◌then◌else◌, List, [], ◌∷◌, ◌++◌}
use Rattle.std.specs.Int.{bit_at}
use Rattle.nichols_field.specs.Field.{prime_field}
use Rattle.nichols_core.specs.declared.edge.Edge.{Edge}
use Rattle.nichols_value.specs.declared.value.BlockValue.{BlockValue}
use Rattle.nichols_shelf.specs.Plan.{PlanValue}
use Rattle.nichols_shelf.specs.Lists.{without, below}
use Rattle.nichols_shelf.specs.Places.{blocks, edge, desk_place, wait_place, edge_place}
use Rattle.nichols_shelf.specs.declared.view.View.{View}

-- the pass of the start: worker 0, who owes every block
abbrev pub first_view : PlanValue → View
first_view g = record { live = true; worker = 0; passes = 1; joined = 1; plan = g; held = []; resumed = []; owed = below (blocks g); known = []; made = []; drawn = []; picked = []; laid = []; seen = [] }

-- after a split: the pass that shows one pass more, and the new one
abbrev pub one_more : View → View
one_more v = record v { passes = v.passes + 1 }

abbrev pub newcomer : View → View
newcomer v = record { live = true; worker = v.passes; passes = 1; joined = 1; plan = v.plan; held = []; resumed = []; owed = []; known = []; made = []; drawn = []; picked = []; laid = []; seen = [] }

-- after a join: the pass that was kept, and the one that was joined into it
abbrev pub joined_view : View → View → View
joined_view v u = record v { joined = v.joined + 1; owed = v.owed ++ u.owed; known = v.known ++ u.known; made = v.made ++ u.made; picked = v.picked ++ u.picked; laid = v.laid ++ u.laid }

-- what is left of it; its plan says nothing
abbrev pub no_plan : PlanValue
no_plan = record { braid = record { field = prime_field (pos 0); letters = 0; rack = []; cocycle = [] }; layout = record { degrees = []; edges = [] }; keys = []; rows_limit = 0 }

abbrev pub spent_view : View
spent_view = record { live = false; worker = 0; passes = 0; joined = 0; plan = no_plan; held = []; resumed = []; owed = []; known = []; made = []; drawn = []; picked = []; laid = []; seen = [] }

-- whether the last bit of a wait word says that the block is published
abbrev pub says_published : ℕ → Bool
says_published found = bit_at found 63 == 1

-- the upper blocks of the edges out of b whose bits a wait word has
abbrev pub askers : List Edge → ℕ → ℕ → List ℕ
askers [] b word = []
askers (e ∷ es) b word = if (e.lower == b) && (bit_at word (e.letter - 1) == 1) then e.upper ∷ askers es b word else askers es b word

-- after the steps, each by the number that it found in its word, over the plan of the pass

abbrev pub take_view : ℕ → ℕ → View → View
take_view b found v = record v { held = if found == 0 then b ∷ v.held else v.held; owed = without b v.owed; seen = (desk_place b, found) ∷ v.seen }

abbrev pub release_view : ℕ → ℕ → View → View
release_view b found v = record v { resumed = without b v.resumed; owed = b ∷ v.owed; seen = (desk_place b, found) ∷ v.seen }

abbrev pub ask_view : PlanValue → ℕ → ℕ → View → View
ask_view g k found v = record v {
  held = if says_published found then v.held else without (edge g k).upper v.held;
  known = if says_published found then (edge g k).lower ∷ v.known else v.known;
  seen = (wait_place g (edge g k).lower, found) ∷ v.seen;
}

abbrev pub publish_view : PlanValue → ℕ → ℕ → View → View
publish_view g b found v = record v {
  held = without b v.held;
  resumed = v.resumed ++ askers g.layout.edges b found;
  made = v.made ++ b ∷ [];
  seen = (wait_place g b, found) ∷ v.seen;
}

abbrev pub draw_view : PlanValue → ℕ → ℕ → View → View
draw_view g k found v = record v { drawn = k ∷ v.drawn; seen = (edge_place g k, found) ∷ v.seen }

abbrev pub lay_view : PlanValue → ℕ → BlockValue → ℕ → View → View
lay_view g k value found v = record v { drawn = without k v.drawn; laid = (k, value) ∷ v.laid; seen = (edge_place g k, found) ∷ v.seen }

abbrev pub pick_view : PlanValue → ℕ → BlockValue → ℕ → View → View
pick_view g k value found v = record v { picked = (k, value) ∷ v.picked; seen = (edge_place g k, found) ∷ v.seen }
