-- What the events do to single stages, and functions changed at one number.
use Rattle.std.proofs.Common.{◌≡◌, ◌≢◌, ℕ, zero, suc, ◌<◌, Bool, true, false, true≢false, cond, eqb, ◌&&◌, refl, sym, ap, ◌∙◌, subst, eq-eqb, ne_eqb, arith}
use Rattle.std.proofs.lemmas.Bool.{eqb-true, and_from, and_parts, cond-true, cond-false}
use mathlib.Core.Logic.{dite}
use native.Mathlib.Decide.{ℕ_discrete}
use Rattle.nichols_core.specs.declared.stage.Stage.{Stage}
use Rattle.nichols_core.specs.declared.stage.Stage.TheVariants.{Ready, Held, Parked, Resumed, Published}
use Rattle.nichols_core.specs.Machine.{put, put_owed, is_held_by, is_resumed_by, is_published, every, stage_after_take, stage_after_publication}
use Rattle.nichols_core.specs.SixLaws.{IsBegun, IsWaiting}

module _ {A : Type 0} where
  -- a fact of the changed function, by the two cases
  pub put_is : (f : ℕ → A) (b : ℕ) (v : A) (c : ℕ) (P : A → Type 0) → (c ≡ b → P v) → (c ≢ b → P (f c)) → P (put f b v c)
  put_is f b v c P here else = dite (ℕ_discrete c b) (λ e. subst (λ t. P (cond t v (f c))) (sym (eq-eqb c b e)) (here e)) (λ n. subst (λ t. P (cond t v (f c))) (sym (ne_eqb c b n)) (else n))

  pub put_here : (f : ℕ → A) (b : ℕ) (v : A) (c : ℕ) → c ≡ b → put f b v c ≡ v
  put_here f b v c e = ap (λ t. cond t v (f c)) (eq-eqb c b e)

  pub put_else : (f : ℕ → A) (b : ℕ) (v : A) (c : ℕ) → c ≢ b → put f b v c ≡ f c
  put_else f b v c n = ap (λ t. cond t v (f c)) (ne_eqb c b n)

-- whether w owes b, where that was put: both numbers are these, or one of them differs
pub put_both : (f : ℕ → ℕ → Bool) (w b : ℕ) (v : Bool) (u c : ℕ) → u ≡ w → c ≡ b → put_owed f w b v u c ≡ v
put_both f w b v u c p q = ap (λ t. cond (t && eqb c b) v (f u c)) (eq-eqb u w p) ∙ ap (λ t. cond t v (f u c)) (eq-eqb c b q)

pub put_other : (f : ℕ → ℕ → Bool) (w b : ℕ) (v : Bool) (u c : ℕ) → (u ≡ w → c ≡ b → ⊥) → put_owed f w b v u c ≡ f u c
put_other f w b v u c differ =
    dite (ℕ_discrete u w)
    (λ p. ap (λ t. cond (t && eqb c b) v (f u c)) (eq-eqb u w p) ∙ ap (λ t. cond t v (f u c)) (ne_eqb c b (differ p)))
    (λ p. ap (λ t. cond (t && eqb c b) v (f u c)) (ne_eqb u w p))

-- whether p holds of every number below n, as a fact
pub every_true : (n : ℕ) (p : ℕ → Bool) → every n p ≡ true → (k : ℕ) → k < n → p k ≡ true
unfolding every
every_true zero p e k h = absurd (omega arith)
every_true (suc n) p e k h =
    let both = and_parts (every n p) (p n) e in
    dite (ℕ_discrete k n) (λ same. ap p same ∙ both.1) (λ other. every_true n p both.0 k (omega arith))

pub true_every : (n : ℕ) (p : ℕ → Bool) → ((k : ℕ) → k < n → p k ≡ true) → every n p ≡ true
unfolding every
true_every zero p h = refl
true_every (suc n) p h = and_from (every n p) (p n) (true_every n p (λ k below. h k (omega arith))) (h n (omega arith))

-- what the tests of a stage say
pub held_by : (w : ℕ) (s : Stage) → is_held_by w s ≡ true → s ≡ Held w
held_by w Ready e = absurd (true≢false (sym e))
held_by w (Held v) e = ap Held (eqb-true v w e)
held_by w (Parked l) e = absurd (true≢false (sym e))
held_by w (Resumed v) e = absurd (true≢false (sym e))
held_by w Published e = absurd (true≢false (sym e))

pub resumed_by : (w : ℕ) (s : Stage) → is_resumed_by w s ≡ true → s ≡ Resumed w
resumed_by w Ready e = absurd (true≢false (sym e))
resumed_by w (Held v) e = absurd (true≢false (sym e))
resumed_by w (Parked l) e = absurd (true≢false (sym e))
resumed_by w (Resumed v) e = ap Resumed (eqb-true v w e)
resumed_by w Published e = absurd (true≢false (sym e))

pub published : (s : Stage) → is_published s ≡ true → s ≡ Published
published Ready e = absurd (true≢false (sym e))
published (Held v) e = absurd (true≢false (sym e))
published (Parked l) e = absurd (true≢false (sym e))
published (Resumed v) e = absurd (true≢false (sym e))
published Published e = refl

pub not_published : (s : Stage) → is_published s ≡ false → s ≢ Published
not_published s e is = true≢false (sym (ap is_published is) ∙ e)

-- a take: what a stage is afterwards, and what it was
pub taken_ready : (s : Stage) (w : ℕ) → stage_after_take w s ≢ Ready
taken_ready Ready w e = cc
taken_ready (Held v) w e = cc
taken_ready (Parked v) w e = cc
taken_ready (Resumed v) w e = cc
taken_ready Published w e = cc

pub taken_parked : (s : Stage) (w l : ℕ) → stage_after_take w s ≡ Parked l → s ≡ Parked l
taken_parked Ready w l e = absurd (cc)
taken_parked (Held v) w l e = e
taken_parked (Parked v) w l e = e
taken_parked (Resumed v) w l e = e
taken_parked Published w l e = e

pub taken_published : (s : Stage) (w : ℕ) → stage_after_take w s ≡ Published → s ≡ Published
taken_published Ready w e = absurd (cc)
taken_published (Held v) w e = e
taken_published (Parked v) w e = e
taken_published (Resumed v) w e = e
taken_published Published w e = e

pub begun_taken : (s : Stage) (w : ℕ) → IsBegun s → IsBegun (stage_after_take w s)
begun_taken Ready w h = tt
begun_taken (Held v) w h = h
begun_taken (Parked v) w h = h
begun_taken (Resumed v) w h = h
begun_taken Published w h = h

pub unready_after_take : (w : ℕ) (s : Stage) → s ≢ Ready → stage_after_take w s ≡ s
unready_after_take w Ready other = absurd (other refl)
unready_after_take w (Held v) other = refl
unready_after_take w (Parked l) other = refl
unready_after_take w (Resumed v) other = refl
unready_after_take w Published other = refl

-- a resumption: what a stage was
pub resumed_ready : (w b : ℕ) (s : Stage) → stage_after_publication w b s ≡ Ready → s ≡ Ready
resumed_ready w b Ready e = e
resumed_ready w b (Held v) e = absurd (cc)
resumed_ready w b (Parked l) e = two (eqb l b) e
  where
    two : (t : Bool) → cond t (Resumed w) (Parked l) ≡ Ready → Parked l ≡ Ready
    two true is = absurd (cc)
    two false is = absurd (cc)
resumed_ready w b (Resumed v) e = absurd (cc)
resumed_ready w b Published e = absurd (cc)

pub resumed_published : (w b : ℕ) (s : Stage) → stage_after_publication w b s ≡ Published → s ≡ Published
resumed_published w b Ready e = e
resumed_published w b (Held v) e = e
resumed_published w b (Parked l) e = two (eqb l b) e
  where
    two : (t : Bool) → cond t (Resumed w) (Parked l) ≡ Published → Parked l ≡ Published
    two true is = absurd (cc)
    two false is = absurd (cc)
resumed_published w b (Resumed v) e = e
resumed_published w b Published e = e

pub resumed_parked : (w b : ℕ) (s : Stage) (l : ℕ) → stage_after_publication w b s ≡ Parked l → (s ≡ Parked l) × (l ≢ b)
resumed_parked w b Ready l e = absurd (cc)
resumed_parked w b (Held v) l e = absurd (cc)
resumed_parked w b (Parked j) l e =
    dite (ℕ_discrete j b)
    (λ p. let q : Resumed w ≡ Parked l = sym (ap (λ t. cond t (Resumed w) (Parked j)) (eq-eqb j b p)) ∙ e in absurd (cc))
    (λ n. let q : Parked j ≡ Parked l = sym (ap (λ t. cond t (Resumed w) (Parked j)) (ne_eqb j b n)) ∙ e in (q, λ is. n (same q ∙ is)))
  where
    same : {x y : ℕ} → Parked x ≡ Parked y → x ≡ y
    same p = cc
resumed_parked w b (Resumed v) l e = absurd (cc)
resumed_parked w b Published l e = absurd (cc)

pub unparked_after_publication : (w b : ℕ) (s : Stage) → s ≢ Parked b → stage_after_publication w b s ≡ s
unparked_after_publication w b Ready apart = refl
unparked_after_publication w b (Held v) apart = refl
unparked_after_publication w b (Parked l) apart = cond-false (eqb l b) (Resumed w) (Parked l) (ne_eqb l b (λ e. apart (ap Parked e)))
unparked_after_publication w b (Resumed v) apart = refl
unparked_after_publication w b Published apart = refl

-- a block that is parked on one that w holds and publishes
pub resumed_by_publication : (stage : ℕ → Stage) (w b c : ℕ) → stage b ≡ Held w → stage c ≡ Parked b → put (λ d. stage_after_publication w b (stage d)) b Published c ≡ Resumed w
resumed_by_publication stage w b c held waits =
    let other : c ≢ b = λ e. let both : Parked b ≡ Held w = sym waits ∙ (ap stage e ∙ held) in cc in
    put_else (λ d. stage_after_publication w b (stage d)) b Published c other
    ∙ (ap (stage_after_publication w b) waits ∙ cond-true (eqb b b) (Resumed w) (Parked b) (eq-eqb b b refl))

pub begun_resumed : (w b : ℕ) (s : Stage) → IsBegun s → IsBegun (stage_after_publication w b s)
begun_resumed w b Ready h = absurd h
begun_resumed w b (Held v) h = tt
begun_resumed w b (Parked l) h = absurd h
begun_resumed w b (Resumed v) h = absurd h
begun_resumed w b Published h = tt

-- no stage is begun and waiting
pub begun_or_waiting : (s : Stage) → IsBegun s → IsWaiting s → ⊥
begun_or_waiting Ready b w = b
begun_or_waiting (Held v) b w = w
begun_or_waiting (Parked l) b w = b
begun_or_waiting (Resumed v) b w = b
begun_or_waiting Published b w = w

pub every_false : (n : ℕ) (p : ℕ → Bool) (k : ℕ) → k < n → p k ≡ false → every n p ≡ false
every_false n p k inside fails = two (every n p) refl
  where
    two : (t : Bool) → every n p ≡ t → every n p ≡ false
    two true is = absurd (true≢false (sym (every_true n p is k inside) ∙ fails))
    two false is = is
