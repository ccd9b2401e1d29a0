-- Each event keeps the six laws. Five of them suffice for the induction, and give the sixth.
use Rattle.std.proofs.Common.{◌≡◌, ◌≢◌, ℕ, ◌<◌, Bool, true, false, true≢false, cond, eqb, ◌&&◌, List, length, refl, sym, ap, ◌∙◌, subst, eq-eqb, ne_eqb}
use Rattle.std.proofs.lemmas.Bool.{false_from_ne_true}
use Rattle.std.proofs.Math.Bool.{and-false}
use mathlib.Core.Logic.{dite}
use native.Mathlib.Decide.{ℕ_discrete}
use Rattle.nichols_core.specs.declared.edge.Edge.{Edge}
use Rattle.nichols_core.specs.declared.stage.Stage.{Stage}
use Rattle.nichols_core.specs.declared.stage.Stage.TheVariants.{Ready, Held, Parked, Resumed, Published}
use Rattle.nichols_core.specs.Layout.{edge_at}
use Rattle.nichols_core.specs.Machine.{Machine, put, is_published, stage_after_take, take, ask, pick, lay, stage_after_publication, publish, release}
use Rattle.nichols_core.specs.SixLaws.{IsBegun, IsWaiting, HasEdge, AllPicked, NonePicked, AllLaid, SixLaws}
use Rattle.nichols_core.proofs.Stages.{put_is, put_here, put_else, taken_ready, taken_parked, taken_published, begun_taken, resumed_ready, resumed_published, resumed_parked, begun_resumed, begun_or_waiting, not_published}

-- the five laws of the induction
pub record Core (es : List Edge) (m : Machine) : Type 0 where
  pub ready : (b : ℕ) → m.stage b ≡ Ready → (w : ℕ) × (m.owes w b ≡ true)
  pub parked : (b l : ℕ) → m.stage b ≡ Parked l → HasEdge es l b × (m.stage l ≢ Published)
  pub picked : (k : ℕ) → k < length es → m.picked k ≡ true → (m.laid k ≡ true) × (m.stage (edge_at es k).lower ≡ Published) × IsBegun (m.stage (edge_at es k).upper)
  pub laid : (k : ℕ) → k < length es → m.laid k ≡ true → IsBegun (m.stage (edge_at es k).lower) × AllPicked es m (edge_at es k).lower
  pub published : (b : ℕ) → m.stage b ≡ Published → AllPicked es m b × AllLaid es m b

pub core : (es : List Edge) (m : Machine) → SixLaws es m → Core es m
core es m laws = record {
  ready = laws.ready;
  parked = λ b l is. let r = laws.parked b l is in (r.0, r.1);
  picked = laws.picked;
  laid = laws.laid;
  published = laws.published;
}

pub whole : (es : List Edge) (m : Machine) → Core es m → SixLaws es m
whole es m laws = record {
  ready = laws.ready;
  parked = λ b l is. let r = laws.parked b l is in (r.0, r.1, none b (subst IsWaiting (sym is) tt));
  picked = laws.picked;
  laid = laws.laid;
  published = laws.published;
  untouched = λ b h. (none b h, λ k inside low. false_from_ne_true (m.laid k) (λ p. begun_or_waiting (m.stage b) (subst (λ c. IsBegun (m.stage c)) low (laws.laid k inside p).0) h));
}
  where
    none : (b : ℕ) → IsWaiting (m.stage b) → NonePicked es m b
    none b h k inside up = false_from_ne_true (m.picked k) (λ p. begun_or_waiting (m.stage b) (subst (λ c. IsBegun (m.stage c)) up (laws.picked k inside p).2) h)

-- the stage of c after a take, in both cases, and back
stage_take : (m : Machine) (w b c : ℕ) (P Q : Stage → Type 0) → ((s : Stage) → P s → Q s) → ((s : Stage) → P s → Q (stage_after_take w s)) → P (m.stage c) → Q ((take w b m).stage c)
stage_take m w b c P Q else here h = put_is m.stage b (stage_after_take w (m.stage b)) c Q (λ e. here (m.stage b) (subst (λ d. P (m.stage d)) e h)) (λ _. else (m.stage c) h)

stage_was : (m : Machine) (w b c : ℕ) (s : Stage) → ((t : Stage) → stage_after_take w t ≡ s → t ≡ s) → (take w b m).stage c ≡ s → m.stage c ≡ s
stage_was m w b c s back = put_is m.stage b (stage_after_take w (m.stage b)) c (λ t. t ≡ s → m.stage c ≡ s) (λ e h. ap m.stage e ∙ back (m.stage b) h) (λ _ h. h)

pub take_keeps : (es : List Edge) (m : Machine) (w b : ℕ) → Core es m → Core es (take w b m)
take_keeps es m w b laws = record {
  ready = λ c is.
      let other : c ≢ b = λ e. taken_ready (m.stage b) w (sym (put_here m.stage b (stage_after_take w (m.stage b)) c e) ∙ is) in
      let r = laws.ready c (sym (put_else m.stage b (stage_after_take w (m.stage b)) c other) ∙ is) in
      (r.0, ap (λ t. cond (eqb r.0 w && t) false (m.owes r.0 c)) (ne_eqb c b other) ∙ (ap (λ t. cond t false (m.owes r.0 c)) (and-false (eqb r.0 w)) ∙ r.1));
  parked = λ c l is.
      let r = laws.parked c l (stage_was m w b c (Parked l) (λ t. taken_parked t w l) is) in
      (r.0, λ p. r.1 (stage_was m w b l Published (λ t. taken_published t w) p));
  picked = λ k inside p.
      let r = laws.picked k inside p in
      (r.0, stage_take m w b (edge_at es k).lower (λ s. s ≡ Published) (λ s. s ≡ Published) (λ s h. h) (λ s h. ap (stage_after_take w) h) r.1, stage_take m w b (edge_at es k).upper IsBegun IsBegun (λ s h. h) (λ s. begun_taken s w) r.2);
  laid = λ k inside p.
      let r = laws.laid k inside p in
      (stage_take m w b (edge_at es k).lower IsBegun IsBegun (λ s h. h) (λ s. begun_taken s w) r.0, r.1);
  published = λ c is. laws.published c (stage_was m w b c Published (λ t. taken_published t w) is);
}

-- b, held by w with nothing picked, is parked on l
pub park_keeps : (es : List Edge) (m : Machine) (w b l : ℕ) → Core es m → m.stage b ≡ Held w → NonePicked es m b → HasEdge es l b → m.stage l ≢ Published → Core es (record m { stage = put m.stage b (Parked l) })
park_keeps es m w b l laws held none waits yet =
    let at : (c : ℕ) (P : Stage → Type 0) → (c ≡ b → P (Parked l)) → (c ≢ b → P (m.stage c)) → P (put m.stage b (Parked l) c) = put_is m.stage b (Parked l) in
    let none_laid : (k : ℕ) → k < length es → (edge_at es k).lower ≡ b → m.laid k ≡ true → ⊥ = λ k inside low p.
    true≢false (sym ((laws.laid k inside p).1 waits.number waits.inside (waits.upper ∙ sym low)) ∙ none waits.number waits.inside waits.upper) in record {
      ready = λ c. at c (λ t. t ≡ Ready → (u : ℕ) × (m.owes u c ≡ true)) (λ _ e. absurd (cc)) (λ _ e. laws.ready c e);
      parked = λ c j. at c (λ t. t ≡ Parked j → HasEdge es j c × (put m.stage b (Parked l) j ≢ Published))
          (λ i e. let same : l ≡ j = cc in (subst (λ z. HasEdge es j z) (sym i) (subst (λ z. HasEdge es z b) same waits), at j (λ t. t ≢ Published) (λ _ e'. cc) (λ _ e'. yet (ap m.stage same ∙ e'))))
          (λ _ e. let r = laws.parked c j e in (r.0, at j (λ t. t ≢ Published) (λ _ e'. cc) (λ _. r.1)));
      picked = λ k inside p. let r = laws.picked k inside p in (
        r.0,
        at (edge_at es k).lower (λ t. t ≡ Published) (λ i. absurd (let q : Held w ≡ Published = sym held ∙ ap m.stage (sym i) ∙ r.1 in cc)) (λ _. r.1),
        at (edge_at es k).upper IsBegun (λ i. absurd (true≢false (sym p ∙ none k inside i))) (λ _. r.2),
      );
      laid = λ k inside p. let r = laws.laid k inside p in (at (edge_at es k).lower IsBegun (λ i. absurd (none_laid k inside i p)) (λ _. r.0), r.1);
      published = λ c. at c (λ t. t ≡ Published → AllPicked es m c × AllLaid es m c) (λ _ e. absurd (cc)) (λ _ e. laws.published c e);
    }

pub ask_keeps : (es : List Edge) (m : Machine) (w b l : ℕ) → Core es m → m.stage b ≡ Held w → NonePicked es m b → HasEdge es l b → Core es (ask b l m)
ask_keeps es m w b l laws held none waits = two (is_published (m.stage l)) (λ yet. park_keeps es m w b l laws held none waits (not_published (m.stage l) yet))
  where
    two : (t : Bool) → (t ≡ false → Core es (record m { stage = put m.stage b (Parked l) })) → Core es (cond t m (record m { stage = put m.stage b (Parked l) }))
    two true parks = laws
    two false parks = parks refl

pub pick_keeps : (es : List Edge) (m : Machine) (w k : ℕ) → Core es m → k < length es → m.stage (edge_at es k).upper ≡ Held w → m.stage (edge_at es k).lower ≡ Published → Core es (pick k m)
pick_keeps es m w k laws within held low =
    let more : (j : ℕ) → m.picked j ≡ true → put m.picked k true j ≡ true = λ j p. put_is m.picked k true j (λ t. t ≡ true) (λ _. refl) (λ _. p) in record {
      ready = laws.ready;
      parked = laws.parked;
      picked = λ j inside. put_is m.picked k true j (λ t. t ≡ true → (m.laid j ≡ true) × (m.stage (edge_at es j).lower ≡ Published) × IsBegun (m.stage (edge_at es j).upper))
          (λ i _. (
            (laws.published (edge_at es j).lower (ap (λ z. m.stage (edge_at es z).lower) i ∙ low)).1 j inside refl,
            ap (λ z. m.stage (edge_at es z).lower) i ∙ low,
            subst IsBegun (sym (ap (λ z. m.stage (edge_at es z).upper) i ∙ held)) tt,
          ))
          (λ _ p. laws.picked j inside p);
      laid = λ j inside p. let r = laws.laid j inside p in (r.0, λ i g u. more i (r.1 i g u));
      published = λ c is. let r = laws.published c is in ((λ i g u. more i (r.0 i g u)), r.1);
    }

pub lay_keeps : (es : List Edge) (m : Machine) (w k : ℕ) → Core es m → k < length es → m.stage (edge_at es k).lower ≡ Held w → AllPicked es m (edge_at es k).lower → Core es (lay k m)
lay_keeps es m w k laws within held full =
    let more : (j : ℕ) → m.laid j ≡ true → put m.laid k true j ≡ true = λ j p. put_is m.laid k true j (λ t. t ≡ true) (λ _. refl) (λ _. p) in record {
      ready = laws.ready;
      parked = laws.parked;
      picked = λ j inside p. let r = laws.picked j inside p in (more j r.0, r.1, r.2);
      laid = λ j inside. put_is m.laid k true j (λ t. t ≡ true → IsBegun (m.stage (edge_at es j).lower) × AllPicked es m (edge_at es j).lower)
          (λ i _. (subst IsBegun (sym (ap (λ z. m.stage (edge_at es z).lower) i ∙ held)) tt, subst (λ z. AllPicked es m (edge_at es z).lower) (sym i) full))
          (λ _ p. laws.laid j inside p);
      published = λ c is. let r = laws.published c is in (r.0, λ i g u. more i (r.1 i g u));
    }

pub publish_keeps : (es : List Edge) (m : Machine) (w b : ℕ) → Core es m → m.stage b ≡ Held w → AllPicked es m b → AllLaid es m b → Core es (publish w b m)
publish_keeps es m w b laws held full spread =
    let f : ℕ → Stage = λ c. stage_after_publication w b (m.stage c) in
    let at : (c : ℕ) (P : Stage → Type 0) → (c ≡ b → P Published) → (c ≢ b → P (f c)) → P ((publish w b m).stage c) = put_is f b Published in record {
      ready = λ c. at c (λ t. t ≡ Ready → (u : ℕ) × (m.owes u c ≡ true)) (λ _ e. absurd (cc)) (λ _ e. laws.ready c (resumed_ready w b (m.stage c) e));
      parked = λ c l.
          at c (λ t. t ≡ Parked l → HasEdge es l c × ((publish w b m).stage l ≢ Published)) (λ _ e. absurd (cc)) (λ _ e.
          let was = resumed_parked w b (m.stage c) l e in
          let r = laws.parked c l was.0 in
          (r.0, at l (λ t. t ≢ Published) (λ is. absurd (was.1 is)) (λ _ p. r.1 (resumed_published w b (m.stage l) p))));
      picked = λ k inside p.
          let r = laws.picked k inside p in
          (r.0, at (edge_at es k).lower (λ t. t ≡ Published) (λ _. refl) (λ _. ap (stage_after_publication w b) r.1), at (edge_at es k).upper IsBegun (λ _. tt) (λ _. begun_resumed w b (m.stage (edge_at es k).upper) r.2));
      laid = λ k inside p. let r = laws.laid k inside p in (at (edge_at es k).lower IsBegun (λ _. tt) (λ _. begun_resumed w b (m.stage (edge_at es k).lower) r.0), r.1);
      published = λ c. at c (λ t. t ≡ Published → AllPicked es m c × AllLaid es m c)
          (λ is _. (subst (AllPicked es m) (sym is) full, subst (AllLaid es m) (sym is) spread))
          (λ _ e. laws.published c (resumed_published w b (m.stage c) e));
    }

pub release_keeps : (es : List Edge) (m : Machine) (w b : ℕ) → Core es m → m.stage b ≡ Resumed w → Core es (release w b m)
release_keeps es m w b laws was =
    let at : (c : ℕ) (P : Stage → Type 0) → (c ≡ b → P Ready) → (c ≢ b → P (m.stage c)) → P ((release w b m).stage c) = put_is m.stage b Ready in
    let idle : (s : Stage) → s ≡ Resumed w → IsBegun s → ⊥ = λ s e h. subst IsBegun e h in record {
      ready = λ c. dite (ℕ_discrete c b)
          (λ e _. (w, ap (λ t. cond (eqb w w && t) true (m.owes w c)) (eq-eqb c b e) ∙ ap (λ t. cond (t && true) true (m.owes w c)) (eq-eqb w w refl)))
          (λ ne is. let r = laws.ready c (sym (put_else m.stage b Ready c ne) ∙ is) in (r.0, ap (λ t. cond (eqb r.0 w && t) true (m.owes r.0 c)) (ne_eqb c b ne) ∙ (ap (λ t. cond t true (m.owes r.0 c)) (and-false (eqb r.0 w)) ∙ r.1)));
      parked = λ c l. at c (λ t. t ≡ Parked l → HasEdge es l c × ((release w b m).stage l ≢ Published)) (λ _ e. absurd (cc))
          (λ _ e. let r = laws.parked c l e in (r.0, at l (λ t. t ≢ Published) (λ _ e'. cc) (λ _. r.1)));
      picked = λ k inside p. let r = laws.picked k inside p in (
        r.0,
        at (edge_at es k).lower (λ t. t ≡ Published) (λ i. absurd (let q : Resumed w ≡ Published = sym was ∙ ap m.stage (sym i) ∙ r.1 in cc)) (λ _. r.1),
        at (edge_at es k).upper IsBegun (λ i. absurd (idle (m.stage (edge_at es k).upper) (ap m.stage i ∙ was) r.2)) (λ _. r.2),
      );
      laid = λ k inside p. let r = laws.laid k inside p in (at (edge_at es k).lower IsBegun (λ i. absurd (idle (m.stage (edge_at es k).lower) (ap m.stage i ∙ was) r.0)) (λ _. r.0), r.1);
      published = λ c. at c (λ t. t ≡ Published → AllPicked es m c × AllLaid es m c) (λ _ e. absurd (cc)) (λ _ e. laws.published c e);
    }
