-- What one event does to the stage of one block, and to the marks of one edge.
use Rattle.std.proofs.Common.{◌≡◌, ◌⊎◌, inl, inr, ℕ, ◌+◌, Bool, true, false, true≢false, cond, eqb, not, ◌&&◌, List, refl, sym, ap, ◌∙◌, subst, arith}
use Rattle.std.specs.Prelude.{Option, Some, None}
use Rattle.std.proofs.lemmas.Bool.{eqb-true, and_parts}
use Rattle.std.proofs.Math.Bool.{and-false}
use Rattle.nichols_core.specs.declared.edge.Edge.{Edge}
use Rattle.nichols_core.specs.declared.event.Event.{Event}
use Rattle.nichols_core.specs.declared.event.Event.TheVariants.{Take, Ask, Pick, Lay, Publish, Release}
use Rattle.nichols_core.specs.declared.stage.Stage.{Stage}
use Rattle.nichols_core.specs.declared.stage.Stage.TheVariants.{Ready, Held, Parked, Resumed, Published}
use Rattle.nichols_core.specs.Layout.{edge_at, edge_into, edge_out}
use Rattle.nichols_core.specs.Machine.{Machine, put, some_edge, by_edge, is_parked, is_parked_on, is_resumed, is_published, can, after, stage_after_take, ask, pick, lay, stage_after_publication, publish, release}
use Rattle.nichols_core.specs.SixLaws.{NonePicked}
use Rattle.nichols_core.specs.Runs.{one_if, publishes, parks, resumes, releases, picks, lays}
use Rattle.nichols_core.proofs.Passes.{passes}

-- the stage of a block before and after an event, and whether the event publishes, parks, resumes or releases it
pub data Step : Stage → Stage → Bool → Bool → Bool → Bool → Type 0 where
  stays : (s : Stage) → Step s s false false false false
  takes : (w : ℕ) → Step Ready (Held w) false false false false
  publishing : (w : ℕ) → Step (Held w) Published true false false false
  parking : (w l : ℕ) → Step (Held w) (Parked l) false true false false
  resuming : (w l : ℕ) → Step (Parked l) (Resumed w) false false true false
  releasing : (w : ℕ) → Step (Resumed w) Ready false false false true

taken_step : (w : ℕ) (s : Stage) → Step s (stage_after_take w s) false false false false
taken_step w Ready = takes w
taken_step w (Held v) = stays (Held v)
taken_step w (Parked l) = stays (Parked l)
taken_step w (Resumed v) = stays (Resumed v)
taken_step w Published = stays Published

take_step : (w : ℕ) (x : Bool) (s t : Stage) → (x ≡ true → s ≡ t) → Step s (cond x (stage_after_take w t) s) false false false false
take_step w true s t same = subst (λ u. Step s (stage_after_take w u) false false false false) (same refl) (taken_step w s)
take_step w false s t same = stays s

park_step : (w l : ℕ) (x : Bool) (s : Stage) → (x ≡ true → s ≡ Held w) → Step s (cond x (Parked l) s) false (x && true) false false
park_step w l true s held = subst (λ u. Step u (Parked l) false true false false) (sym (held refl)) (parking w l)
park_step w l false s held = stays s

resumed_step : (w b : ℕ) (s : Stage) → Step s (stage_after_publication w b s) false false (is_parked_on b s) false
resumed_step w b Ready = stays Ready
resumed_step w b (Held v) = stays (Held v)
resumed_step w b (Parked l) = two (eqb l b)
  where
    two : (t : Bool) → Step (Parked l) (cond t (Resumed w) (Parked l)) false false t false
    two true = resuming w l
    two false = stays (Parked l)
resumed_step w b (Resumed v) = stays (Resumed v)
resumed_step w b Published = stays Published

publish_step : (w b : ℕ) (x : Bool) (s : Stage) → (x ≡ true → s ≡ Held w) → Step s (cond x Published (stage_after_publication w b s)) x false (is_parked_on b s) false
publish_step w b true s held = subst (λ u. Step u Published true false (is_parked_on b u) false) (sym (held refl)) (publishing w)
publish_step w b false s held = resumed_step w b s

release_step : (w : ℕ) (x : Bool) (s : Stage) → (x ≡ true → s ≡ Resumed w) → Step s (cond x Ready s) false false false x
release_step w true s was = subst (λ u. Step u Ready false false false true) (sym (was refl)) (releasing w)
release_step w false s was = stays s

module _ (es : List Edge) (m : Machine) (b : ℕ) where
  -- b has the stage of c, where b is c
  there : (c : ℕ) (s : Stage) → m.stage c ≡ s → eqb b c ≡ true → m.stage b ≡ s
  there c s is e = ap m.stage (eqb-true b c e) ∙ is

  asked_step : (w c l : ℕ) (u : Bool) → m.stage c ≡ Held w → Step (m.stage b) (let n : Machine = cond u m (record m { stage = put m.stage c (Parked l) }) in n.stage b) false (eqb b c && not u) false false
  asked_step w c l true held = subst (λ q. Step (m.stage b) (m.stage b) false q false false) (sym (and-false (eqb b c))) (stays (m.stage b))
  asked_step w c l false held = park_step w l (eqb b c) (m.stage b) (there c (Held w) held)

  ask_step : (w c : ℕ) (at : Option ℕ) (t : Bool) → (t ≡ true → m.stage c ≡ Held w)
      → Step (m.stage b) (let n : Machine = cond t (by_edge at (λ k. ask c (edge_at es k).lower) m) m in n.stage b) false (t && eqb b c && some_edge at (λ k. not (is_published (m.stage (edge_at es k).lower)))) false false
  ask_step w c at false held = stays (m.stage b)
  ask_step w c None true held = subst (λ q. Step (m.stage b) (m.stage b) false q false false) (sym (and-false (eqb b c))) (stays (m.stage b))
  ask_step w c (Some k) true held = asked_step w c (edge_at es k).lower (is_published (m.stage (edge_at es k).lower)) (held refl)

  pick_step : (at : Option ℕ) (t : Bool) → Step (m.stage b) (let n : Machine = cond t (by_edge at pick m) m in n.stage b) false false false false
  pick_step at false = stays (m.stage b)
  pick_step None true = stays (m.stage b)
  pick_step (Some k) true = stays (m.stage b)

  lay_step : (at : Option ℕ) (t : Bool) → Step (m.stage b) (let n : Machine = cond t (by_edge at lay m) m in n.stage b) false false false false
  lay_step at false = stays (m.stage b)
  lay_step None true = stays (m.stage b)
  lay_step (Some k) true = stays (m.stage b)

  published_step : (w c : ℕ) (t : Bool) → (t ≡ true → m.stage c ≡ Held w)
      → Step (m.stage b) (let n : Machine = cond t (publish w c m) m in n.stage b) (t && eqb b c) false (t && is_parked_on c (m.stage b)) false
  published_step w c false held = stays (m.stage b)
  published_step w c true held = publish_step w c (eqb b c) (m.stage b) (there c (Held w) (held refl))

  released_step : (w c : ℕ) (t : Bool) → (t ≡ true → m.stage c ≡ Resumed w)
      → Step (m.stage b) (let n : Machine = cond t (release w c m) m in n.stage b) false false false (t && eqb b c)
  released_step w c false was = stays (m.stage b)
  released_step w c true was = release_step w (eqb b c) (m.stage b) (there c (Resumed w) (was refl))

  pub step : (event : Event) → Step (m.stage b) ((after es event m).stage b) (publishes b es event m) (parks b es event m) (resumes b es event m) (releases b es event m)
  step (Take w c) = take_step w (eqb b c) (m.stage b) (m.stage c) (λ e. ap m.stage (eqb-true b c e))
  step (Ask w c a) = ask_step w c (edge_into es c a) (can es (Ask w c a) m) (λ h. (passes es m (Ask w c a) h).0)
  step (Pick w c a) = pick_step (edge_into es c a) (can es (Pick w c a) m)
  step (Lay w c a) = lay_step (edge_out es c a) (can es (Lay w c a) m)
  step (Publish w c) = published_step w c (can es (Publish w c) m) (λ h. (passes es m (Publish w c) h).0)
  step (Release w c) = released_step w c (can es (Release w c) m) (passes es m (Release w c))

  -- where an event parks b, no edge into b is picked
  pub parks_untouched : (event : Event) → parks b es event m ≡ true → NonePicked es m b
  parks_untouched (Ask w c a) h =
      let yet : Bool = some_edge (edge_into es c a) (λ k. not (is_published (m.stage (edge_at es k).lower))) in
      let asked = and_parts (can es (Ask w c a) m) (eqb b c) (and_parts (can es (Ask w c a) m && eqb b c) yet h).0 in
      subst (NonePicked es m) (sym (eqb-true b c asked.1)) (passes es m (Ask w c a) asked.0).2
  parks_untouched (Take w c) h = absurd (true≢false (sym h))
  parks_untouched (Pick w c a) h = absurd (true≢false (sym h))
  parks_untouched (Lay w c a) h = absurd (true≢false (sym h))
  parks_untouched (Publish w c) h = absurd (true≢false (sym h))
  parks_untouched (Release w c) h = absurd (true≢false (sym h))

-- what the steps of a stage mean for what is counted
pub published_counted : (s t : Stage) (p q r u : Bool) → Step s t p q r u → one_if p + one_if (is_published s) ≡ one_if (is_published t)
published_counted _ _ _ _ _ _ (stays s) = omega arith
published_counted _ _ _ _ _ _ (takes w) = refl
published_counted _ _ _ _ _ _ (publishing w) = refl
published_counted _ _ _ _ _ _ (parking w l) = refl
published_counted _ _ _ _ _ _ (resuming w l) = refl
published_counted _ _ _ _ _ _ (releasing w) = refl

pub parked_counted : (s t : Stage) (p q r u : Bool) → Step s t p q r u → one_if q + one_if (is_parked s) ≡ one_if r + one_if (is_parked t)
parked_counted _ _ _ _ _ _ (stays s) = refl
parked_counted _ _ _ _ _ _ (takes w) = refl
parked_counted _ _ _ _ _ _ (publishing w) = refl
parked_counted _ _ _ _ _ _ (parking w l) = refl
parked_counted _ _ _ _ _ _ (resuming w l) = refl
parked_counted _ _ _ _ _ _ (releasing w) = refl

pub resumed_counted : (s t : Stage) (p q r u : Bool) → Step s t p q r u → one_if r + one_if (is_resumed s) ≡ one_if u + one_if (is_resumed t)
resumed_counted _ _ _ _ _ _ (stays s) = refl
resumed_counted _ _ _ _ _ _ (takes w) = refl
resumed_counted _ _ _ _ _ _ (publishing w) = refl
resumed_counted _ _ _ _ _ _ (parking w l) = refl
resumed_counted _ _ _ _ _ _ (resuming w l) = refl
resumed_counted _ _ _ _ _ _ (releasing w) = refl

pub published_stays : (s t : Stage) (p q r u : Bool) → Step s t p q r u → s ≡ Published → t ≡ Published
published_stays _ _ _ _ _ _ (stays s) e = e
published_stays _ _ _ _ _ _ (takes w) e = absurd (cc)
published_stays _ _ _ _ _ _ (publishing w) e = refl
published_stays _ _ _ _ _ _ (parking w l) e = absurd (cc)
published_stays _ _ _ _ _ _ (resuming w l) e = absurd (cc)
published_stays _ _ _ _ _ _ (releasing w) e = absurd (cc)

pub held_stays : (v : ℕ) (s t : Stage) (p q r u : Bool) → Step s t p q r u → s ≡ Held v → (q ≡ true → ⊥) → (t ≡ Held v) ⊎ (t ≡ Published)
held_stays v _ _ _ _ _ _ (stays s) e never = inl e
held_stays v _ _ _ _ _ _ (takes w) e never = absurd (cc)
held_stays v _ _ _ _ _ _ (publishing w) e never = inr refl
held_stays v _ _ _ _ _ _ (parking w l) e never = absurd (never refl)
held_stays v _ _ _ _ _ _ (resuming w l) e never = absurd (cc)
held_stays v _ _ _ _ _ _ (releasing w) e never = absurd (cc)

-- a mark that is set where it wasn't
marked : (x t : Bool) → (x ≡ true → t ≡ false) → one_if x + one_if t ≡ one_if (cond x true t)
marked true t yet = ap (λ u. 1 + one_if u) (yet refl)
marked false t yet = omega arith

module _ (es : List Edge) (m : Machine) (k : ℕ) where
  picked_at : (at : Option ℕ) (t : Bool) → (t ≡ true → (j : ℕ) × ((at ≡ Some j) × (m.picked j ≡ false)))
      → one_if (t && some_edge at (λ j. eqb k j)) + one_if (m.picked k) ≡ one_if (let n : Machine = cond t (by_edge at pick m) m in n.picked k)
  picked_at at false found = omega arith
  picked_at None true found = let is = (found refl).1.0 in absurd (cc)
  picked_at (Some i) true found =
      let is = (found refl).1.0 in
      let same : i ≡ (found refl).0 = cc in
      marked (eqb k i) (m.picked k) (λ e. ap m.picked (eqb-true k i e ∙ same) ∙ (found refl).1.1)

  laid_at : (at : Option ℕ) (t : Bool) → (t ≡ true → (j : ℕ) × ((at ≡ Some j) × (m.laid j ≡ false)))
      → one_if (t && some_edge at (λ j. eqb k j)) + one_if (m.laid k) ≡ one_if (let n : Machine = cond t (by_edge at lay m) m in n.laid k)
  laid_at at false found = omega arith
  laid_at None true found = let is = (found refl).1.0 in absurd (cc)
  laid_at (Some i) true found =
      let is = (found refl).1.0 in
      let same : i ≡ (found refl).0 = cc in
      marked (eqb k i) (m.laid k) (λ e. ap m.laid (eqb-true k i e ∙ same) ∙ (found refl).1.1)

  asked_marks : (c : ℕ) (at : Option ℕ) (t : Bool) (low : ℕ → ℕ) → (let n : Machine = cond t (by_edge at (λ j. ask c (low j)) m) m in (n.picked k ≡ m.picked k) × (n.laid k ≡ m.laid k))
  asked_marks c at false low = (refl, refl)
  asked_marks c None true low = (refl, refl)
  asked_marks c (Some j) true low = two (is_published (m.stage (low j)))
    where
      two : (u : Bool) → (let n : Machine = cond u m (record m { stage = put m.stage c (Parked (low j)) }) in (n.picked k ≡ m.picked k) × (n.laid k ≡ m.laid k))
      two true = (refl, refl)
      two false = (refl, refl)

  lay_picked : (at : Option ℕ) (t : Bool) → (let n : Machine = cond t (by_edge at lay m) m in n.picked k ≡ m.picked k)
  lay_picked at false = refl
  lay_picked None true = refl
  lay_picked (Some j) true = refl

  pick_laid : (at : Option ℕ) (t : Bool) → (let n : Machine = cond t (by_edge at pick m) m in n.laid k ≡ m.laid k)
  pick_laid at false = refl
  pick_laid None true = refl
  pick_laid (Some j) true = refl

  other_marks : (t : Bool) (n : Machine) → n.picked k ≡ m.picked k → n.laid k ≡ m.laid k → (let o : Machine = cond t n m in (o.picked k ≡ m.picked k) × (o.laid k ≡ m.laid k))
  other_marks true n p l = (p, l)
  other_marks false n p l = (refl, refl)

  same_mark : (t u : Bool) → u ≡ t → 0 + one_if t ≡ one_if u
  same_mark t u e = let h = ap one_if e in omega arith

  pub picked_counted : (event : Event) → one_if (picks k es event m) + one_if (m.picked k) ≡ one_if ((after es event m).picked k)
  picked_counted (Take w b) = same_mark (m.picked k) (m.picked k) refl
  picked_counted (Ask w b a) = same_mark (m.picked k) ((after es (Ask w b a) m).picked k) (asked_marks b (edge_into es b a) (can es (Ask w b a) m) (λ j. (edge_at es j).lower)).0
  picked_counted (Pick w b a) = picked_at (edge_into es b a) (can es (Pick w b a) m) (λ h. let p = passes es m (Pick w b a) h in (p.1.0, (p.1.1.0, p.1.1.3)))
  picked_counted (Lay w b a) = same_mark (m.picked k) ((after es (Lay w b a) m).picked k) (lay_picked (edge_out es b a) (can es (Lay w b a) m))
  picked_counted (Publish w b) = same_mark (m.picked k) ((after es (Publish w b) m).picked k) (other_marks (can es (Publish w b) m) (publish w b m) refl refl).0
  picked_counted (Release w b) = same_mark (m.picked k) ((after es (Release w b) m).picked k) (other_marks (can es (Release w b) m) (release w b m) refl refl).0

  pub laid_counted : (event : Event) → one_if (lays k es event m) + one_if (m.laid k) ≡ one_if ((after es event m).laid k)
  laid_counted (Take w b) = same_mark (m.laid k) (m.laid k) refl
  laid_counted (Ask w b a) = same_mark (m.laid k) ((after es (Ask w b a) m).laid k) (asked_marks b (edge_into es b a) (can es (Ask w b a) m) (λ j. (edge_at es j).lower)).1
  laid_counted (Pick w b a) = same_mark (m.laid k) ((after es (Pick w b a) m).laid k) (pick_laid (edge_into es b a) (can es (Pick w b a) m))
  laid_counted (Lay w b a) = laid_at (edge_out es b a) (can es (Lay w b a) m) (λ h. let p = passes es m (Lay w b a) h in (p.2.0, (p.2.1.0, p.2.1.1)))
  laid_counted (Publish w b) = same_mark (m.laid k) ((after es (Publish w b) m).laid k) (other_marks (can es (Publish w b) m) (publish w b m) refl refl).1
  laid_counted (Release w b) = same_mark (m.laid k) ((after es (Release w b) m).laid k) (other_marks (can es (Release w b) m) (release w b m) refl refl).1
