-- What the tests of stages say of the stages before and after a step.
use Rattle.std.proofs.Common.{◌≡◌, ◌≢◌, ◌⊎◌, ℕ, Bool, true, false, true≢false, cond, eqb, ◌&&◌, ◌||◌, refl, sym, ap, ◌∙◌, inl, inr, eq-eqb, ne_eqb, arith}
use Rattle.std.proofs.lemmas.Bool.{eqb-true}
use Rattle.std.proofs.Math.Bool.{or-false}
use Rattle.nichols_core.specs.declared.stage.Stage.{Stage}
use Rattle.nichols_core.specs.declared.stage.Stage.TheVariants.{Ready, Held, Parked, Resumed, Published}
use Rattle.nichols_core.specs.Machine.{put, put_owed, is_held_by, is_resumed_by, is_published, is_parked_on, stage_after_take, stage_after_publication}
use Rattle.nichols_core.proofs.Stages.{put_is}
use Rattle.nichols_shelf.specs.Words.{desk_word, done_bit}

-- the stage that a word tells
pub done_is : (t : Stage) → done_bit t ≡ 1 → t ≡ Published
done_is Ready e = absurd (omega arith)
done_is (Held x) e = absurd (omega arith)
done_is (Parked x) e = absurd (omega arith)
done_is (Resumed x) e = absurd (omega arith)
done_is Published e = refl

pub ready_is : (t : Stage) → desk_word t ≡ 0 → t ≡ Ready
ready_is Ready e = refl
ready_is (Held x) e = absurd (omega arith)
ready_is (Parked x) e = absurd (omega arith)
ready_is (Resumed x) e = absurd (omega arith)
ready_is Published e = absurd (omega arith)

-- what a change at one number leaves
module _ {A B : Type 0} where
  pub put_same : (f : ℕ → A) (b : ℕ) (v : A) (F : A → B) → F v ≡ F (f b) → (c : ℕ) → F (put f b v c) ≡ F (f c)
  put_same f b v F same c = put_is f b v c (λ t. F t ≡ F (f c)) (λ e. same ∙ ap (λ d. F (f d)) (sym e)) (λ _. refl)

pub owed_of_other : (f : ℕ → ℕ → Bool) (w b : ℕ) (t : Bool) (u c : ℕ) → u ≢ w → put_owed f w b t u c ≡ f u c
owed_of_other f w b t u c n = ap (λ s. cond (s && eqb c b) t (f u c)) (ne_eqb u w n)

pub owed_of_mine : (f : ℕ → ℕ → Bool) (w b : ℕ) (t : Bool) (c : ℕ) → put_owed f w b t w c ≡ cond (eqb c b) t (f w c)
owed_of_mine f w b t c = ap (λ s. cond (s && eqb c b) t (f w c)) (eq-eqb w w refl)

pub not_held_by : (w u : ℕ) (s : Stage) → s ≡ Held w → u ≢ w → is_held_by u s ≡ false
not_held_by w u s e n = ap (is_held_by u) e ∙ ne_eqb w u (λ q. n (sym q))

pub not_resumed_by : (w u : ℕ) (s : Stage) → s ≡ Resumed w → u ≢ w → is_resumed_by u s ≡ false
not_resumed_by w u s e n = ap (is_resumed_by u) e ∙ ne_eqb w u (λ q. n (sym q))

-- a take
pub held_taken : (w u : ℕ) (s : Stage) → u ≢ w → is_held_by u (stage_after_take w s) ≡ is_held_by u s
held_taken w u Ready n = ne_eqb w u (λ q. n (sym q))
held_taken w u (Held x) n = refl
held_taken w u (Parked x) n = refl
held_taken w u (Resumed x) n = refl
held_taken w u Published n = refl

pub resumed_taken : (w u : ℕ) (s : Stage) → is_resumed_by u (stage_after_take w s) ≡ is_resumed_by u s
resumed_taken w u Ready = refl
resumed_taken w u (Held x) = refl
resumed_taken w u (Parked x) = refl
resumed_taken w u (Resumed x) = refl
resumed_taken w u Published = refl

pub published_taken : (w : ℕ) (s : Stage) → is_published (stage_after_take w s) ≡ is_published s
published_taken w Ready = refl
published_taken w (Held x) = refl
published_taken w (Parked x) = refl
published_taken w (Resumed x) = refl
published_taken w Published = refl

pub done_taken : (w : ℕ) (s : Stage) → done_bit (stage_after_take w s) ≡ done_bit s
done_taken w Ready = refl
done_taken w (Held x) = refl
done_taken w (Parked x) = refl
done_taken w (Resumed x) = refl
done_taken w Published = refl

-- who holds a block after a take, held it or took it
pub held_was : (w u : ℕ) (s : Stage) → stage_after_take w s ≡ Held u → (s ≡ Held u) ⊎ (s ≡ Ready)
held_was w u Ready e = inr refl
held_was w u (Held x) e = inl e
held_was w u (Parked x) e = absurd (cc)
held_was w u (Resumed x) e = absurd (cc)
held_was w u Published e = absurd (cc)

-- a publication
module _ (w b : ℕ) where
  pub held_published : (u : ℕ) (s : Stage) → is_held_by u (stage_after_publication w b s) ≡ is_held_by u s
  held_published u Ready = refl
  held_published u (Held x) = refl
  held_published u (Parked l) = two (eqb l b)
    where
      two : (t : Bool) → is_held_by u (cond t (Resumed w) (Parked l)) ≡ false
      two true = refl
      two false = refl
  held_published u (Resumed x) = refl
  held_published u Published = refl

  pub resumed_theirs : (u : ℕ) (s : Stage) → u ≢ w → is_resumed_by u (stage_after_publication w b s) ≡ is_resumed_by u s
  resumed_theirs u Ready n = refl
  resumed_theirs u (Held x) n = refl
  resumed_theirs u (Parked l) n = two (eqb l b)
    where
      two : (t : Bool) → is_resumed_by u (cond t (Resumed w) (Parked l)) ≡ false
      two true = ne_eqb w u (λ q. n (sym q))
      two false = refl
  resumed_theirs u (Resumed x) n = refl
  resumed_theirs u Published n = refl

  pub resumed_mine : (s : Stage) → (is_resumed_by w s || is_parked_on b s) ≡ is_resumed_by w (stage_after_publication w b s)
  resumed_mine Ready = refl
  resumed_mine (Held x) = refl
  resumed_mine (Parked l) = two (eqb l b)
    where
      two : (t : Bool) → t ≡ is_resumed_by w (cond t (Resumed w) (Parked l))
      two true = sym (eq-eqb w w refl)
      two false = refl
  resumed_mine (Resumed x) = or-false (eqb x w)
  resumed_mine Published = refl

  pub published_published : (s : Stage) → is_published (stage_after_publication w b s) ≡ is_published s
  published_published Ready = refl
  published_published (Held x) = refl
  published_published (Parked l) = two (eqb l b)
    where
      two : (t : Bool) → is_published (cond t (Resumed w) (Parked l)) ≡ false
      two true = refl
      two false = refl
  published_published (Resumed x) = refl
  published_published Published = refl

  pub desk_published : (s : Stage) → desk_word (stage_after_publication w b s) ≡ desk_word s
  desk_published Ready = refl
  desk_published (Held x) = refl
  desk_published (Parked l) = two (eqb l b)
    where
      two : (t : Bool) → desk_word (cond t (Resumed w) (Parked l)) ≡ 1
      two true = refl
      two false = refl
  desk_published (Resumed x) = refl
  desk_published Published = refl

  pub done_published : (s : Stage) → done_bit (stage_after_publication w b s) ≡ done_bit s
  done_published Ready = refl
  done_published (Held x) = refl
  done_published (Parked l) = two (eqb l b)
    where
      two : (t : Bool) → done_bit (cond t (Resumed w) (Parked l)) ≡ 0
      two true = refl
      two false = refl
  done_published (Resumed x) = refl
  done_published Published = refl

  pub held_before : (u : ℕ) (s : Stage) → stage_after_publication w b s ≡ Held u → s ≡ Held u
  held_before u Ready e = absurd (cc)
  held_before u (Held x) e = e
  held_before u (Parked l) e = absurd (two (eqb l b) e)
    where
      two : (t : Bool) → cond t (Resumed w) (Parked l) ≡ Held u → ⊥
      two true e = cc
      two false e = cc
  held_before u (Resumed x) e = absurd (cc)
  held_before u Published e = absurd (cc)

pub parked_on : (b : ℕ) (s : Stage) → is_parked_on b s ≡ true → s ≡ Parked b
parked_on b Ready e = absurd (true≢false (sym e))
parked_on b (Held x) e = absurd (true≢false (sym e))
parked_on b (Parked l) e = ap (λ x. Parked x) (eqb-true l b e)
parked_on b (Resumed x) e = absurd (true≢false (sym e))
parked_on b Published e = absurd (true≢false (sym e))

-- the last bit of a wait word, by the stage
pub says_so : (s : Stage) → eqb (done_bit s) 1 ≡ is_published s
says_so Ready = refl
says_so (Held x) = refl
says_so (Parked x) = refl
says_so (Resumed x) = refl
says_so Published = refl
