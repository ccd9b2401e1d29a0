-- The slots that are out with a pass between its calls, and slots that go home.
use Rattle.std.specs.Prelude.{ℕ, Bool, true, not, nat_lt, ◌&&◌, List, [], ◌∷◌, Option, is_some, slice_set}
use mathlib.Core.Option as table
use mathlib.Core.Option.{some}
use Rattle.nichols_value.specs.declared.shared.Shared.{Shared}
use Rattle.nichols_shelf.specs.Lists.{is_in, noted_value}
use Rattle.nichols_shelf.specs.Places.{edge, edges}
use Rattle.nichols_shelf.specs.declared.view.View.{View}

-- each is empty, and the pass noted that it picked its edge, whose upper block it holds
abbrev pub are_picked : View → List (ℕ × Option Shared) → Bool
are_picked v [] = true
are_picked v (x ∷ xs) =
    (not (is_some x.1) && (nat_lt x.0 (edges v.plan) && (is_some (noted_value x.0 v.picked) && is_in (edge v.plan x.0).upper v.held))) && are_picked v xs

-- the homes of all slots, once these went home
abbrev pub sent_home : List (table.Option (Option Shared)) → List (ℕ × Option Shared) → List (table.Option (Option Shared))
sent_home homes [] = homes
sent_home homes (x ∷ xs) = sent_home (slice_set homes x.0 (some x.1)) xs
