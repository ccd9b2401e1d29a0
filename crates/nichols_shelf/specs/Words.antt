-- The words of blocks stand for their stages.
use Rattle.std.specs.Prelude.{◌≡◌, ◌≢◌, ℕ, ◌+◌, ◌-◌, ◌<◌, List, length, slice_index}
use Rattle.std.specs.Int.{bit_at}
use Rattle.nichols_core.specs.Machine.{Machine}
use Rattle.nichols_core.specs.declared.stage.Stage.{Stage}
use Rattle.nichols_core.specs.declared.stage.Stage.TheVariants.{Ready, Parked, Published}
use Rattle.nichols_shelf.specs.Plan.{PlanValue}
use Rattle.nichols_shelf.specs.Places.{blocks, edges, edge, desk_place, wait_place, all_words}

-- READY or TAKEN
abbrev pub desk_word : Stage → ℕ
desk_word Ready = 0
desk_word _ = 1

-- the last bit of a wait word
abbrev pub done_bit : Stage → ℕ
done_bit Published = 1
done_bit _ = 0

-- the bit of the letter of the edge with number k, in the wait word of its lower block
abbrev pub wait_bit : PlanValue → List ℕ → ℕ → ℕ
wait_bit g words k = bit_at (slice_index words (wait_place g (edge g k).lower)) ((edge g k).letter - 1)

-- the wait word of low has the bit of an edge from low to b
pub record IsMarked (g : PlanValue) (words : List ℕ) (low b : ℕ) : Type 0 where
  pub number : ℕ
  pub inside : number < edges g
  pub lower : (edge g number).lower ≡ low
  pub upper : (edge g number).upper ≡ b
  pub bit : wait_bit g words number ≡ 1

-- the bit i belongs to an edge out of low
pub record HasLetter (g : PlanValue) (low i : ℕ) : Type 0 where
  pub number : ℕ
  pub inside : number < edges g
  pub lower : (edge g number).lower ≡ low
  pub letter : (edge g number).letter ≡ i + 1

-- a desk word is READY where the block is ready; the last bit of a wait word says that the block is published; where it isn't, a
-- block is parked on it exactly where the bit of an edge between the two stands there; and no bit stands there for no edge
pub record WordsStand (g : PlanValue) (words : List ℕ) (m : Machine) : Type 0 where
  pub wide : length words ≡ all_words g
  pub desk : (b : ℕ) → b < blocks g → slice_index words (desk_place b) ≡ desk_word (m.stage b)
  pub done : (b : ℕ) → b < blocks g → bit_at (slice_index words (wait_place g b)) 63 ≡ done_bit (m.stage b)
  pub parked : (b low : ℕ) → m.stage b ≡ Parked low → IsMarked g words low b
  pub waits : (k : ℕ) → k < edges g → m.stage (edge g k).lower ≢ Published → wait_bit g words k ≡ 1 → m.stage (edge g k).upper ≡ Parked (edge g k).lower
  pub lettered : (low i : ℕ) → low < blocks g → i ≢ 63 → bit_at (slice_index words (wait_place g low)) i ≡ 1 → HasLetter g low i
