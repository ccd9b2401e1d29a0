-- What each kind of step tells the pass that makes it: what the pass then knows, by the number that the step found.
use Rattle.std.specs.Prelude.{◌≡◌, ◌≢◌, ℕ, ◌+◌, ◌-◌, ◌*◌, ◌^◌, ◌<◌, List, ◌∷◌, [], Option, Some, None}
use Rattle.atomic_table.specs.Table.{Step, Me, rest}
use Rattle.nichols_value.specs.Worth.{worth}
use Rattle.nichols_value.specs.declared.value.BlockValue.{BlockValue}
use Rattle.nichols_value.specs.declared.value.BlockValue.TheVariants.{Starved}
use Rattle.nichols_value.specs.declared.shared.Shared.{Shared}
use Rattle.nichols_shelf.specs.Plan.{IsRightFor}
use Rattle.nichols_shelf.specs.Places.{blocks, edges, edge, wait_place}
use Rattle.nichols_shelf.specs.Views.{take_view, release_view, ask_view, publish_view, draw_view, lay_view, pick_view}
use Rattle.nichols_shelf.specs.Words.{HasLetter}
use Rattle.nichols_shelf.specs.Untouched.{IsUntouched}
use Rattle.nichols_shelf.specs.declared.view.View.{View}
use Rattle.std.specs.Int.{bit_at}

-- a pass as the table has it: its view, and the slots that are out with it
abbrev pub Mine : Type 0
Mine = Me (Option Shared) View

-- the value in a slot, and in the slot that was taken last
abbrev pub value_in : Option Shared → BlockValue
value_in (Some shared) = worth shared
value_in None = Starved

abbrev pub value_out : List (ℕ × Option Shared) → BlockValue
value_out [] = Starved
value_out (x ∷ xs) = value_in x.1

-- a block that is ready was left untouched by every pass
abbrev pub take_step : Step (Option Shared) → Mine → ℕ → Mine → Type 0
take_step st m found n = (n ≡ (take_view (st.word - 1) found m.0, m.1)) × (found ≡ 0 → st.word - 1 < blocks m.0.plan → IsUntouched m.0.plan (st.word - 1) m.0)

abbrev pub release_step : Step (Option Shared) → Mine → ℕ → Mine → Type 0
release_step st m found n = n ≡ (release_view (st.word - 1) found m.0, m.1)

-- the step is that of the edge with number k, in whose lower block's wait word it sets the bit of its letter
abbrev pub ask_step : Step (Option Shared) → Mine → ℕ → Mine → Type 0
ask_step st m found n = (k : ℕ) → k < edges m.0.plan → st.word ≡ wait_place m.0.plan (edge m.0.plan k).lower → st.first ≡ 2 ^ ((edge m.0.plan k).letter - 1) → n ≡ (ask_view m.0.plan k found m.0, m.1)

-- all empty slots go home; and each bit of the word but the last is one of an edge out of the block
abbrev pub publish_step : Step (Option Shared) → Mine → ℕ → Mine → Type 0
publish_step st m found n =
    let b = st.word - (1 + blocks m.0.plan) in
    (n ≡ (publish_view m.0.plan b found m.0, [])) × ((i : ℕ) → i ≢ 63 → bit_at found i ≡ 1 → HasLetter m.0.plan b i)

abbrev pub draw_step : Step (Option Shared) → Mine → ℕ → Mine → Type 0
draw_step st m found n = let k = st.word - (1 + 2 * blocks m.0.plan) in n ≡ (draw_view m.0.plan k found m.0, (k, None) ∷ m.1)

-- the slot that was taken last goes home, with what was written into it
abbrev pub lay_step : Step (Option Shared) → Mine → ℕ → Mine → Type 0
lay_step st m found n = n ≡ (lay_view m.0.plan (st.word - (1 + 2 * blocks m.0.plan)) (value_out m.1) found m.0, rest m.1)

abbrev pub pick_step : Step (Option Shared) → Mine → ℕ → Mine → Type 0
pick_step st m found n = let k = st.word - (1 + 2 * blocks m.0.plan) in (x : Shared) × (n ≡ (pick_view m.0.plan k (worth x) found m.0, (k, Some x) ∷ m.1)) × IsRightFor m.0.plan (edge m.0.plan k).lower (worth x)
