-- A step on a desk word leaves the wait words.
use Rattle.std.proofs.Common.{◌≡◌, ℕ, ◌-◌, ◌<◌, Bool, List, get_or, set, sym, ap, ◌∙◌, arith, length-set, get_or-set_other, get_or-set_same}
use Rattle.std.specs.Int.{bit_at}
use mathlib.Core.Logic.{dite}
use native.Mathlib.Decide.{ℕ_discrete}
use Rattle.nichols_core.specs.declared.stage.Stage.{Stage}
use Rattle.nichols_core.specs.declared.stage.Stage.TheVariants.{Parked, Published}
use Rattle.nichols_core.specs.Machine.{Machine, put}
use Rattle.nichols_core.proofs.Stages.{put_is, put_here, put_else}
use Rattle.nichols_shelf.specs.Plan.{PlanValue}
use Rattle.nichols_shelf.specs.Places.{blocks, edge, desk_place, wait_place, edge_place}
use Rattle.nichols_shelf.specs.Words.{desk_word, done_bit, WordsStand}
use Rattle.nichols_shelf.proofs.StageTests.{put_same}

-- one stage for another, where both are published, or parked on the same block, or neither
pub record IsLike (s t : Stage) : Type 0 where
  pub done : done_bit t ≡ done_bit s
  pub unparked : (l : ℕ) → t ≡ Parked l → s ≡ Parked l
  pub parked : (l : ℕ) → s ≡ Parked l → t ≡ Parked l
  pub published : s ≡ Published → t ≡ Published

module _ (g : PlanValue) (words : List ℕ) (m : Machine) (st : WordsStand g words m) (b : ℕ) (inside : b < blocks g) (x : ℕ) (t : Stage) (owes : ℕ → ℕ → Bool) where
  abbrev ws : List ℕ
  ws = set words (desk_place b) x

  abbrev n : Machine
  n = record m { stage = put m.stage b t; owes = owes }

  pub waits_stay : (c : ℕ) → get_or ws (wait_place g c) 0 ≡ get_or words (wait_place g c) 0
  waits_stay c = get_or-set_other words (desk_place b) (wait_place g c) x 0 (λ e. omega arith)

  pub edges_stay : (k : ℕ) → get_or ws (edge_place g k) 0 ≡ get_or words (edge_place g k) 0
  edges_stay k = get_or-set_other words (desk_place b) (edge_place g k) x 0 (λ e. omega arith)

  pub desk_step : x ≡ desk_word t → IsLike (m.stage b) t → WordsStand g ws n
  desk_step word like = record {
    wide = length-set words (desk_place b) x ∙ st.wide;
    desk = λ c in_c. dite (ℕ_discrete c b)
        (λ e. ap (λ d. get_or ws (desk_place d) 0) e ∙ get_or-set_same words (desk_place b) x 0 (let w = st.wide in omega arith) ∙ word ∙ ap desk_word (sym (put_here m.stage b t c e)))
        (λ ne. get_or-set_other words (desk_place b) (desk_place c) x 0 (λ e. ne (omega arith)) ∙ st.desk c in_c ∙ ap desk_word (sym (put_else m.stage b t c ne)));
    done = λ c in_c. ap (λ y. bit_at y 63) (waits_stay c) ∙ st.done c in_c ∙ sym (put_same m.stage b t done_bit like.done c);
    parked = λ c low p. let r = st.parked c low (back c low p) in
        record { number = r.number; inside = r.inside; lower = r.lower; upper = r.upper; bit = ap (λ y. bit_at y ((edge g r.number).letter - 1)) (waits_stay (edge g r.number).lower) ∙ r.bit };
    waits = λ k in_k yet bit. let p = st.waits k in_k (λ q. yet (kept (edge g k).lower q)) (ap (λ y. bit_at y ((edge g k).letter - 1)) (sym (waits_stay (edge g k).lower)) ∙ bit) in
        put_is m.stage b t (edge g k).upper (λ s. s ≡ Parked (edge g k).lower) (λ e. like.parked (edge g k).lower (ap m.stage (sym e) ∙ p)) (λ _. p);
    lettered = λ low i in_low last bit. st.lettered low i in_low last (ap (λ y. bit_at y i) (sym (waits_stay low)) ∙ bit);
  }
    where
      back : (c l : ℕ) → put m.stage b t c ≡ Parked l → m.stage c ≡ Parked l
      back c l = put_is m.stage b t c (λ s. s ≡ Parked l → m.stage c ≡ Parked l) (λ e h. ap m.stage e ∙ like.unparked l h) (λ _ h. h)

      kept : (c : ℕ) → m.stage c ≡ Published → put m.stage b t c ≡ Published
      kept c q = put_is m.stage b t c (λ s. s ≡ Published) (λ e. like.published (ap m.stage (sym e) ∙ q)) (λ _. q)
