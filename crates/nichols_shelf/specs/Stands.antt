-- The rule of the table: its words, slots and live views stand for a state of the machine that meets the six laws.
use Rattle.std.specs.Prelude.{ℕ, Bool, Option}
use Rattle.atomic_table.specs.Table.{State}
use Rattle.nichols_core.specs.Layout.{IsLayout}
use Rattle.nichols_core.specs.Machine.{Machine}
use Rattle.nichols_core.specs.SixLaws.{SixLaws}
use Rattle.nichols_value.specs.declared.shared.Shared.{Shared}
use Rattle.nichols_value.specs.declared.value.BlockValue.{BlockValue}
use Rattle.nichols_shelf.specs.Plan.{PlanValue}
use Rattle.nichols_shelf.specs.Words.{WordsStand}
use Rattle.nichols_shelf.specs.Seats.{SeatsStand}
use Rattle.nichols_shelf.specs.Slots.{SlotsStand}
use Rattle.nichols_shelf.specs.declared.view.View.{View}

-- the table as plain data
abbrev pub Tableau : Type 0
Tableau = State (Option Shared) View

-- beside the state: the seat of each worker number, how many passes there have been, below which number worker 0 stands for all
-- worker numbers, who made each published block, what its value is, and which edges are drawn
pub record Book : Type 0 where
  pub seat : ℕ → ℕ
  pub count : ℕ
  pub first : ℕ
  pub maker : ℕ → ℕ
  pub value : ℕ → BlockValue
  pub drawn : ℕ → Bool

-- the table stands for the state
pub record Stands (g : PlanValue) (s : Tableau) (m : Machine) (book : Book) : Type 0 where
  pub words : WordsStand g s.words m
  pub seats : SeatsStand g s.views m book.seat book.count book.first book.maker
  pub slots : SlotsStand g s.words s.homes s.views m book.maker book.value book.drawn

-- there is a state for which it stands, and which meets the laws
pub record Holds (g : PlanValue) (s : Tableau) : Type 0 where
  pub machine : Machine
  pub book : Book
  pub rules : IsLayout g.layout
  pub laws : SixLaws g.layout.edges machine
  pub stands : Stands g s machine book
