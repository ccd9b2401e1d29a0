-- The rule of the table: each slot is at home under a free turn, or out with the one seat that holds its turn.
use Rattle.std.specs.Prelude.{◌≡◌, ℕ, ◌<◌, ◌⊎◌, true, length, slice_index, Option, Some}
use mathlib.Core.Option.{some, none}
use lib.ListN.{get_elem?}
use Rattle.atomic_table.specs.Table.{State}
use Rattle.nichols_braid.specs.Braid.{BraidValue}
use Rattle.nichols_memo.specs.declared.entry.Entry.{Entry}
use Rattle.nichols_memo.specs.declared.view.View.{View}
use Rattle.nichols_memo.specs.Forms.{IsRight}

-- the table as plain data: for each slot the word of its turn, 0 where it is free and 1 where it is held
abbrev pub Tableau : Type 0
Tableau = State (Option Entry) View

-- the turn of slot k is free; the slot is at home, with nothing in it or a word with its normal form
pub record IsFree (braid : BraidValue) (s : Tableau) (k : ℕ) : Type 0 where
  pub word : slice_index s.words k ≡ 0
  pub entry : Option Entry
  pub home : get_elem? s.homes k ≡ some (some entry)
  pub right : IsRight braid entry

-- the turn of slot k is held; the slot is out with the seat of this number
pub record IsHeldBy (s : Tableau) (owner k : ℕ) : Type 0 where
  pub word : slice_index s.words k ≡ 1
  pub away : get_elem? s.homes k ≡ some none
  pub view : View
  pub there : get_elem? s.views owner ≡ some view
  pub live : view.live ≡ true
  pub out : view.out ≡ Some k

-- the seat of this number, with what it knows: one that is live knows the braid, and what it has out it alone has
pub record IsKept (braid : BraidValue) (s : Tableau) (slots : ℕ) (owner : ℕ → ℕ) (id : ℕ) (v : View) : Type 0 where
  pub braid_is : v.live ≡ true → v.braid ≡ braid
  pub inside : (k : ℕ) → v.out ≡ Some k → k < slots
  pub alone : (k : ℕ) → v.out ≡ Some k → owner k ≡ id
  pub held : (k : ℕ) → v.out ≡ Some k → slice_index s.words k ≡ 1

pub record Holds (braid : BraidValue) (s : Tableau) : Type 0 where
  pub slots : ℕ
  pub owner : ℕ → ℕ
  pub wide : length s.words ≡ slots
  pub deep : length s.homes ≡ slots
  pub each_slot : (k : ℕ) → k < slots → IsFree braid s k ⊎ IsHeldBy s (owner k) k
  pub each_seat : (id : ℕ) (v : View) → get_elem? s.views id ≡ some v → IsKept braid s slots owner id v
