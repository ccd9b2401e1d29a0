-- What the calls answer, by the number that their step found.
use Rattle.std.specs.Prelude.{◌≡◌, ℕ, ◌^◌, ◌<◌, Bool, true, false, ◌==◌, Some, None}
use Rattle.std.specs.Int.{bit_at}
use Rattle.nichols_tensor.specs.declared.TheConstants.{LETTER_LIMIT}
use Rattle.nichols_core.specs.Conditions.{IsInto, IsOutOf}
use Rattle.nichols_value.specs.declared.value.BlockValue.{BlockValue}
use Rattle.nichols_shelf.specs.Plan.{PlanValue, IsRightFor}
use Rattle.nichols_shelf.specs.Lists.{is_in, noted_value}
use Rattle.nichols_shelf.specs.Places.{edges, edge}
use Rattle.nichols_shelf.specs.Views.{says_published, take_view, release_view, ask_view, publish_view, draw_view, lay_view, pick_view}
use Rattle.nichols_shelf.specs.Words.{HasLetter}
use Rattle.nichols_shelf.specs.Passes.{HasPickedAll, HasPickedNone, HasLaidAll}
use Rattle.nichols_shelf.specs.Untouched.{IsUntouched}
use Rattle.nichols_shelf.specs.declared.view.View.{View}
use Rattle.nichols_shelf.specs.declared.asked.Asked.{Asked}
use Rattle.nichols_shelf.specs.declared.asked.Asked.TheVariants as asked

-- a take of b: true where its step found READY; the pass then had made nothing of b
pub record Takes (b : ℕ) (old new : View) (answer : Bool) : Type 0 where
  pub found : ℕ
  pub view : new ≡ take_view b found old
  pub answer_is : answer ≡ (found == 0)
  pub untouched : answer ≡ true → IsUntouched old.plan b old

-- a release of b
pub record Releases (b : ℕ) (old new : View) : Type 0 where
  pub found : ℕ
  pub view : new ≡ release_view b found old

-- the pass holds b, has picked no edge into it, and there is an edge of that letter into it
pub record MayAsk (g : PlanValue) (b a : ℕ) (v : View) : Type 0 where
  pub holds : is_in b v.held ≡ true
  pub unpicked : HasPickedNone g v b
  pub number : ℕ
  pub into : IsInto g.layout.edges b a number

abbrev pub asked_of : Bool → Asked
asked_of true = asked.Published
asked_of false = asked.Parked

-- an ask by b for the lower block of the edge of that letter: Parked where its step found it unpublished
pub record AsksFor (g : PlanValue) (b a : ℕ) (old new : View) (answer : Asked) : Type 0 where
  pub number : ℕ
  pub into : IsInto g.layout.edges b a number
  pub found : ℕ
  pub view : new ≡ ask_view g number found old
  pub answer_is : answer ≡ asked_of (says_published found)

-- the pass holds b, knows that the lower block of the edge of that letter is published, and hasn't picked the edge
pub record MayPick (g : PlanValue) (b a : ℕ) (v : View) : Type 0 where
  pub holds : is_in b v.held ≡ true
  pub number : ℕ
  pub into : IsInto g.layout.edges b a number
  pub knows : is_in (edge g number).lower v.known ≡ true
  pub unpicked : noted_value number v.picked ≡ None

-- a pick of the edge of that letter into b: the value that the pass notes is right for the lower block
pub record PicksUp (g : PlanValue) (b a : ℕ) (old new : View) (value : BlockValue) : Type 0 where
  pub number : ℕ
  pub into : IsInto g.layout.edges b a number
  pub found : ℕ
  pub view : new ≡ pick_view g number value found old
  pub right : IsRightFor g (edge g number).lower value

-- the pass holds b, has picked all edges into it, hasn't laid the edge of that letter out of it, and the value is right for b and
-- the one that it laid at other edges out of b
pub record MayLay (g : PlanValue) (b a : ℕ) (value : BlockValue) (v : View) : Type 0 where
  pub holds : is_in b v.held ≡ true
  pub picked : HasPickedAll g v b
  pub number : ℕ
  pub out_of : IsOutOf g.layout.edges b a number
  pub unlaid : noted_value number v.laid ≡ None
  pub right : IsRightFor g b value
  pub equal : (k : ℕ) (x : BlockValue) → k < edges g → (edge g k).lower ≡ b → noted_value k v.laid ≡ Some x → x ≡ value

-- a draw of the edge of that letter out of b, and then its laying with the value
pub record LaysDown (g : PlanValue) (b a : ℕ) (old new : View) (value : BlockValue) : Type 0 where
  pub number : ℕ
  pub out_of : IsOutOf g.layout.edges b a number
  pub drawn_found : ℕ
  pub laid_found : ℕ
  pub view : new ≡ lay_view g number value laid_found (draw_view g number drawn_found old)

-- the pass holds b, picked all edges into it and laid all out of it
pub record MayPublish (g : PlanValue) (b : ℕ) (v : View) : Type 0 where
  pub holds : is_in b v.held ≡ true
  pub picked : HasPickedAll g v b
  pub laid : HasLaidAll g v b

-- a publication of b: the answer has the bits of the letters by which others asked, each of an edge out of b
pub record PublishesWith (g : PlanValue) (b : ℕ) (old new : View) (answer : ℕ) : Type 0 where
  pub found : ℕ
  pub view : new ≡ publish_view g b found old
  pub few : answer < 2 ^ LETTER_LIMIT
  pub bits : (i : ℕ) → i < LETTER_LIMIT → bit_at answer i ≡ bit_at found i
  pub lettered : (i : ℕ) → bit_at answer i ≡ 1 → HasLetter g b i
