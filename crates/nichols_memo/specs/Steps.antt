-- What each kind of step tells the seat that makes it, by the number that the step found.
use Rattle.std.specs.Prelude.{◌≡◌, ◌≢◌, ℕ, List, [], ◌∷◌, Option, None}
use Rattle.atomic_table.specs.Table.{Step, Me, rest}
use Rattle.nichols_memo.specs.declared.entry.Entry.{Entry}
use Rattle.nichols_memo.specs.declared.view.View.{View}
use Rattle.nichols_memo.specs.Forms.{IsRight}
use Rattle.nichols_memo.specs.Views.{won_view, lost_view, back_view}

-- a seat as the table has it: its view, and the slots that are out with it
abbrev pub Mine : Type 0
Mine = Me (Option Entry) View

-- what is in the slot that came out last
abbrev pub entry_out : List (ℕ × Option Entry) → Option Entry
entry_out [] = None
entry_out (x ∷ xs) = x.1

-- where the turn was free, the slot comes out
abbrev pub try_step : Step (Option Entry) → Mine → ℕ → Mine → Type 0
try_step st m found n =
    (found ≡ 0 → (x : Option Entry) × IsRight m.0.braid x × (n ≡ (won_view st.word x m.0, (st.word, x) ∷ m.1)))
    × (found ≢ 0 → n ≡ (lost_view st.word found m.0, m.1))

-- the slot that came out last goes home, with what was written into it
abbrev pub back_step : Step (Option Entry) → Mine → ℕ → Mine → Type 0
back_step st m found n = n ≡ (back_view st.word (entry_out m.1) found m.0, rest m.1)
