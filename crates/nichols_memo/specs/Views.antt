-- What a seat knows, and how each step changes it.
use Rattle.std.specs.Prelude.{ℕ, pos, true, false, [], ◌∷◌, Option, Some, None}
use Rattle.nichols_field.specs.Field.{prime_field}
use Rattle.nichols_braid.specs.Braid.{BraidValue}
use Rattle.nichols_memo.specs.declared.entry.Entry.{Entry}
use Rattle.nichols_memo.specs.declared.view.View.{View}

-- the first seat
abbrev pub first_view : BraidValue → View
first_view braid = record { live = true; braid = braid; out = None; took = []; put = []; seen = [] }

-- the new seat of a split
abbrev pub newcomer : View → View
newcomer v = first_view v.braid

-- what is left of a seat that was joined into another; its braid says nothing
abbrev pub spent_view : View
spent_view = record { live = false; braid = record { field = prime_field (pos 0); letters = 0; rack = []; cocycle = [] }; out = None; took = []; put = []; seen = [] }

-- after a try of slot k that found its turn free and x in it, and after one that found another number
abbrev pub won_view : ℕ → Option Entry → View → View
won_view k x v = record v { out = Some k; took = x ∷ v.took; seen = (k, 0) ∷ v.seen }

abbrev pub lost_view : ℕ → ℕ → View → View
lost_view k found v = record v { seen = (k, found) ∷ v.seen }

-- after slot k went home with x in it
abbrev pub back_view : ℕ → Option Entry → ℕ → View → View
back_view k x found v = record v { out = None; put = x ∷ v.put; seen = (k, found) ∷ v.seen }
