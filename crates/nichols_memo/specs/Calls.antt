-- What the calls answer, by what their steps found.
use Rattle.std.specs.Prelude.{◌≡◌, ◌≢◌, ◌⊎◌, ℕ, ◌+◌, ◌-◌, ◌^◌, min, List, Option, Some, None, Result, Ok, Err, IfOk}
use Rattle.nichols_braid.specs.Braid.{BraidValue}
use Rattle.nichols_memo.specs.declared.entry.Entry.{Entry}
use Rattle.nichols_memo.specs.declared.entry.Memoized.{Memoized}
use Rattle.nichols_memo.specs.declared.entry.Memoized.TheVariants.{Hit, Miss}
use Rattle.nichols_memo.specs.declared.view.View.{View}
use Rattle.nichols_memo.specs.Forms.{form_of}
use Rattle.nichols_memo.specs.Views.{won_view, lost_view, back_view}

-- a form that was found is the normal form of the word
abbrev pub IsHitOf : BraidValue → List ℕ → Memoized → Type 0
IsHitOf braid word (Hit form) = form ≡ form_of braid word
IsHitOf braid word Miss = Unit {0}

-- one step on slot k, a try that found its turn held
pub record IsLost (k : ℕ) (old new : View) : Type 0 where
  pub found : ℕ
  pub held : found ≢ 0
  pub view : new ≡ lost_view k found old

-- a try of slot k by which it came out with x in it, and then a back by which it went home with y in it
pub record IsExchanged (k : ℕ) (x y : Option Entry) (old new : View) : Type 0 where
  pub found : ℕ
  pub view : new ≡ back_view k y found (won_view k x old)

-- what an entry tells of the word: its form where it is that of the word, if there is memory for the copy; else nothing
abbrev pub Tells : {E : Type 0} → List ℕ → Option Entry → Result Memoized E → Type 0
Tells word None answer = answer ≡ Ok Miss
Tells word (Some e) answer = (e.word ≡ word → IfOk answer (λ a. a ≡ Hit e.form)) × (e.word ≢ word → answer ≡ Ok Miss)

-- a look at slot k: a miss where its turn is held; else what is in it tells, and is in it again
abbrev pub Looks : {E : Type 0} → ℕ → List ℕ → View → View → Result Memoized E → Type 0
Looks k word old new answer = (IsLost k old new × (answer ≡ Ok Miss)) ⊎ ((x : Option Entry) × IsExchanged k x x old new × Tells word x answer)

-- one hit more after a form that was found, up to the last number of 64 bits
abbrev pub hits_after : {E : Type 0} → Result Memoized E → ℕ → ℕ
hits_after (Ok (Hit form)) hits = min (hits + 1) (2 ^ 64 - 1)
hits_after (Ok Miss) hits = hits
hits_after (Err e) hits = hits
