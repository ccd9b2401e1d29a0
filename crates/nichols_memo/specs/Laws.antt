-- The statements of the laws of the memo: what its table says between any two steps, and that each kind of step keeps its rule.
use Rattle.std.specs.Prelude.{◌≡◌, ◌≢◌, ℕ, ◌<◌, ◌⊎◌, true, length, [], ◌∷◌, ◌++◌, replicate, slice_index, slice_set, Option, Some, None}
use mathlib.Core.Option.{some, none}
use lib.ListN.{get_elem?}
use Rattle.atomic_table.specs.Table.{opening}
use Rattle.nichols_braid.specs.Braid.{BraidValue}
use Rattle.nichols_memo.specs.declared.entry.Entry.{Entry}
use Rattle.nichols_memo.specs.declared.view.View.{View}
use Rattle.nichols_memo.specs.Forms.{form_of, IsRight}
use Rattle.nichols_memo.specs.Rule.{Tableau, Holds}
use Rattle.nichols_memo.specs.Views.{first_view, newcomer, spent_view, won_view, lost_view, back_view}

-- all live seats know one braid, that of the memo
abbrev pub LiveSeatsHoldOneBraid : Type 0
LiveSeatsHoldOneBraid = (braid : BraidValue) (s : Tableau) → Holds braid s → (id : ℕ) (v : View) → get_elem? s.views id ≡ some v → v.live ≡ true → v.braid ≡ braid

-- an entry in a slot at home is a word with its normal form
abbrev pub EntriesAtHomeAreNormalForms : Type 0
EntriesAtHomeAreNormalForms = (braid : BraidValue) (s : Tableau) → Holds braid s → (k : ℕ) (e : Entry) → get_elem? s.homes k ≡ some (some (Some e)) → e.form ≡ form_of braid e.word

-- a live seat has the slot out, and no other seat has
pub record HasOneHolder (s : Tableau) (k : ℕ) : Type 0 where
  pub id : ℕ
  pub view : View
  pub there : get_elem? s.views id ≡ some view
  pub live : view.live ≡ true
  pub out : view.out ≡ Some k
  pub only : (j : ℕ) (v : View) → get_elem? s.views j ≡ some v → v.out ≡ Some k → j ≡ id

-- no seat has the slot out
abbrev pub HasNoHolder : Tableau → ℕ → Type 0
HasNoHolder s k = (j : ℕ) (v : View) → get_elem? s.views j ≡ some v → v.out ≢ Some k

-- a turn is free or held, and is held exactly where one live seat has its slot out
abbrev pub ATurnIsHeldWhereOneSeatHasTheSlot : Type 0
ATurnIsHeldWhereOneSeatHasTheSlot = (braid : BraidValue) (s : Tableau) → Holds braid s → (k : ℕ) → k < length s.words
    → ((slice_index s.words k ≡ 0) × HasNoHolder s k) ⊎ ((slice_index s.words k ≡ 1) × HasOneHolder s k)

-- a new table, whose turns are free and whose slots are all empty, meets the rule
abbrev pub ANewMemoIsEmpty : Type 0
ANewMemoIsEmpty = (braid : BraidValue) (slots : ℕ) → Holds braid (opening (replicate slots 0) (replicate slots None) (first_view braid))

-- the rule holds, and the seat with this number has this live view
pub record Stood (braid : BraidValue) (s : Tableau) (id : ℕ) (v : View) : Type 0 where
  pub rule : Holds braid s
  pub there : get_elem? s.views id ≡ some v
  pub live : v.live ≡ true

-- a try: where the turn was free, what was in the slot is nothing or a word with its normal form, and the slot comes out
abbrev pub ATryKeepsTheRule : Type 0
ATryKeepsTheRule = (braid : BraidValue) (s : Tableau) (id : ℕ) (v : View) → Stood braid s id v → v.out ≡ None → (k : ℕ) → k < length s.words
    → ((slice_index s.words k ≡ 0) × ((x : Option Entry) × (get_elem? s.homes k ≡ some (some x)) × IsRight braid x
    × Holds braid (record { words = slice_set s.words k 1; homes = slice_set s.homes k none; views = slice_set s.views id (won_view k x v) })))
    ⊎ ((slice_index s.words k ≢ 0) × Holds braid (record { words = s.words; homes = s.homes; views = slice_set s.views id (lost_view k (slice_index s.words k) v) }))

-- a back: the slot goes home with what the seat put into it
abbrev pub ABackKeepsTheRule : Type 0
ABackKeepsTheRule = (braid : BraidValue) (s : Tableau) (id : ℕ) (v : View) → Stood braid s id v → (k : ℕ) → v.out ≡ Some k → (x : Option Entry) → IsRight braid x
    → Holds braid (record { words = slice_set s.words k 0; homes = slice_set s.homes k (some x); views = slice_set s.views id (back_view k x (slice_index s.words k) v) })

-- a split: there is one seat more
abbrev pub ASplitKeepsTheRule : Type 0
ASplitKeepsTheRule = (braid : BraidValue) (s : Tableau) (id : ℕ) (v : View) → Stood braid s id v → Holds braid (record { words = s.words; homes = s.homes; views = s.views ++ newcomer v ∷ [] })

-- a join: the other seat, which has no slot out, is one no more
abbrev pub AJoinKeepsTheRule : Type 0
AJoinKeepsTheRule = (braid : BraidValue) (s : Tableau) (id : ℕ) (v : View) → Stood braid s id v → (other : ℕ) (u : View) → other ≢ id → get_elem? s.views other ≡ some u → u.out ≡ None
    → Holds braid (record { words = s.words; homes = s.homes; views = slice_set s.views other spent_view })
