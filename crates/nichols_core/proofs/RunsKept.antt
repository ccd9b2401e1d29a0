-- What holds after every run.
use Rattle.std.proofs.Common.{◌≡◌, ◌⊎◌, ⊎_elim, inl, inr, ℕ, zero, suc, ◌+◌, ◌<◌, Bool, true, false, true≢false, cond, ltb, zero-add, List, [], ◌∷◌, ◌++◌, length, refl, sym, ap, ◌∙◌, subst, lt-ltb, arith}
use Rattle.std.proofs.lemmas.Bool.{cond-true}
use Rattle.std.specs.Prelude.{slice_index}
use Rattle.nichols_core.specs.declared.edge.Edge.{Edge}
use Rattle.nichols_core.specs.declared.event.Event.{Event}
use Rattle.nichols_core.specs.declared.event.Event.TheVariants.{Pick, Publish}
use Rattle.nichols_core.specs.declared.stage.Stage.{Stage}
use Rattle.nichols_core.specs.declared.stage.Stage.TheVariants.{Ready, Held, Parked, Resumed, Published}
use Rattle.nichols_core.specs.Layout.{LayoutValue, IsLayout, no_edge, edge_at}
use Rattle.nichols_core.specs.Machine.{Machine, by_edge, is_published, is_parked, is_resumed, can, effect, after, pick}
use Rattle.nichols_core.specs.SixLaws.{SixLaws}
use Rattle.nichols_core.specs.Runs.{start, run, state_reached, one_if, how_often_from, publishes, parks, resumes, releases, picks, lays, EveryRunMeetsTheSixLaws, ABlockHasOneHolder, ABlockIsPublishedOnce, APublishedBlockStaysSo, EachParkingIsResumedOnce, EachResumptionIsReleasedOnce, APublicationResumesWhatWaits, APickerHoldsUntilPublication, AnEdgeIsPickedOnce, AnEdgeIsLaidOnce, IsIdle, WhereNothingIsOwedAllIsPublished}
use Rattle.nichols_core.proofs.Stages.{put_here, resumed_by_publication}
use Rattle.nichols_core.proofs.EdgesFound.{into_is}
use Rattle.nichols_core.proofs.Passes.{passes}
use Rattle.nichols_core.proofs.LawsKept.{whole}
use Rattle.nichols_core.proofs.Events.{every_event_keeps_the_six_laws}
use Rattle.nichols_core.proofs.Steps.{step, parks_untouched, published_counted, parked_counted, resumed_counted, published_stays, held_stays, picked_counted, laid_counted}

-- the start meets the laws
start_ready : (t : Bool) → cond t Ready Published ≡ Ready → t ≡ true
start_ready true e = refl
start_ready false e = absurd (cc)

start_published : (t : Bool) → cond t Ready Published ≡ Published → t ≡ false
start_published true e = absurd (cc)
start_published false e = refl

pub start_parked : (t : Bool) (l : ℕ) → cond t Ready Published ≡ Parked l → ⊥
start_parked true l e = cc
start_parked false l e = cc

-- an end of an edge is a block
lower_inside : (l : LayoutValue) → IsLayout l → (k : ℕ) → k < length l.edges → (edge_at l.edges k).lower < length l.degrees
lower_inside l rules k inside = (rules.good.placed k no_edge inside).lower

upper_inside : (l : LayoutValue) → IsLayout l → (k : ℕ) → k < length l.edges → (edge_at l.edges k).upper < length l.degrees
upper_inside l rules k inside = (rules.good.placed k no_edge inside).upper

pub start_meets_laws : (l : LayoutValue) → IsLayout l → SixLaws l.edges (start (length l.degrees))
start_meets_laws l rules =
    let n = length l.degrees in
    let outside : (b : ℕ) → cond (ltb b n) Ready Published ≡ Published → b < n → ⊥ = λ b is h. true≢false (sym (lt-ltb b n h) ∙ start_published (ltb b n) is) in
    whole l.edges (start n) record {
      ready = λ b is. (0, start_ready (ltb b n) is);
      parked = λ b low is. absurd (start_parked (ltb b n) low is);
      picked = λ k inside p. absurd (true≢false (sym p));
      laid = λ k inside p. absurd (true≢false (sym p));
      published = λ b is. (
        (λ k inside up. absurd (outside b is (subst (λ c. c < n) up (upper_inside l rules k inside)))),
        (λ k inside low. absurd (outside b is (subst (λ c. c < n) low (lower_inside l rules k inside)))),
      );
    }

run_keeps_laws : (es : List Edge) (events : List Event) (m : Machine) → SixLaws es m → SixLaws es (run es events m)
unfolding run
run_keeps_laws es [] m laws = laws
run_keeps_laws es (e ∷ later) m laws = run_keeps_laws es later (after es e m) (every_event_keeps_the_six_laws es e m laws)

pub every_run_meets_the_six_laws : EveryRunMeetsTheSixLaws
every_run_meets_the_six_laws l rules events = run_keeps_laws l.edges events (start (length l.degrees)) (start_meets_laws l rules)

pub a_block_has_one_holder : ABlockHasOneHolder
a_block_has_one_holder l rules events b v w is_v is_w = let e : Held v ≡ Held w = sym is_v ∙ is_w in cc

run-append : (es : List Edge) (xs ys : List Event) (m : Machine) → run es (xs ++ ys) m ≡ run es ys (run es xs m)
unfolding run
run-append es [] ys m = refl
run-append es (x ∷ xs) ys m = run-append es xs ys (after es x m)

-- a published block stays published
run_published : (es : List Edge) (events : List Event) (m : Machine) (b : ℕ) → m.stage b ≡ Published → (run es events m).stage b ≡ Published
unfolding run
run_published es [] m b is = is
run_published es (e ∷ later) m b is =
    run_published es later (after es e m) b
    (published_stays (m.stage b) ((after es e m).stage b) (publishes b es e m) (parks b es e m) (resumes b es e m) (releases b es e m) (step es m b e) is)

pub a_published_block_stays_so : APublishedBlockStaysSo
a_published_block_stays_so l rules events later b is =
    ap (λ (m : Machine). m.stage b) (run-append l.edges events later (start (length l.degrees)))
    ∙ run_published l.edges later (state_reached l events) b is

-- two counts over a run, where each event keeps their balance
balanced : (es : List Edge) (p q : Event → Machine → Bool) (f : Machine → ℕ)
    → ((e : Event) (m : Machine) → one_if (p e m) + f m ≡ one_if (q e m) + f (after es e m))
    → (events : List Event) (m : Machine) → how_often_from es p events m + f m ≡ how_often_from es q events m + f (run es events m)
unfolding run how_often_from
balanced es p q f keeps [] m = refl
balanced es p q f keeps (e ∷ later) m =
    let now = keeps e m in
    let rest = balanced es p q f keeps later (after es e m) in
    omega arith

-- a count over a run that each event keeps
counted : (es : List Edge) (p : Event → Machine → Bool) (f : Machine → ℕ)
    → ((e : Event) (m : Machine) → one_if (p e m) + f m ≡ f (after es e m))
    → (events : List Event) (m : Machine) → how_often_from es p events m + f m ≡ f (run es events m)
unfolding run how_often_from
counted es p f keeps [] m = zero-add (f m)
counted es p f keeps (e ∷ later) m =
    let now = keeps e m in
    let rest = counted es p f keeps later (after es e m) in
    omega arith

pub a_block_is_published_once : ABlockIsPublishedOnce
a_block_is_published_once l rules events b inside =
    let es = l.edges in
    let m : Machine = start (length l.degrees) in
    let f : Machine → ℕ = λ n. one_if (is_published (n.stage b)) in
    let count : how_often_from es (publishes b es) events m + f m ≡ f (run es events m) = counted es (publishes b es) f (λ e n. published_counted (n.stage b) ((after es e n).stage b) (publishes b es e n) (parks b es e n) (resumes b es e n) (releases b es e n) (step es n b e)) events m in
    let none : f m ≡ 0 = ap (λ t. one_if (is_published (cond t Ready Published))) (lt-ltb b (length l.degrees) inside) in
    omega arith

not_at_start : (g : Stage → Bool) (t : Bool) → g Ready ≡ false → g Published ≡ false → one_if (g (cond t Ready Published)) ≡ 0
not_at_start g true r p = ap one_if r
not_at_start g false r p = ap one_if p

pub each_parking_is_resumed_once : EachParkingIsResumedOnce
each_parking_is_resumed_once l rules events b =
    let es = l.edges in
    let m : Machine = start (length l.degrees) in
    let f : Machine → ℕ = λ n. one_if (is_parked (n.stage b)) in
    let count : how_often_from es (parks b es) events m + f m ≡ how_often_from es (resumes b es) events m + f (run es events m) = balanced es (parks b es) (resumes b es) f (λ e n. parked_counted (n.stage b) ((after es e n).stage b) (publishes b es e n) (parks b es e n) (resumes b es e n) (releases b es e n) (step es n b e)) events m in
    let none : f m ≡ 0 = not_at_start is_parked (ltb b (length l.degrees)) refl refl in
    omega arith

pub each_resumption_is_released_once : EachResumptionIsReleasedOnce
each_resumption_is_released_once l rules events b =
    let es = l.edges in
    let m : Machine = start (length l.degrees) in
    let f : Machine → ℕ = λ n. one_if (is_resumed (n.stage b)) in
    let count : how_often_from es (resumes b es) events m + f m ≡ how_often_from es (releases b es) events m + f (run es events m) = balanced es (resumes b es) (releases b es) f (λ e n. resumed_counted (n.stage b) ((after es e n).stage b) (publishes b es e n) (parks b es e n) (resumes b es e n) (releases b es e n) (step es n b e)) events m in
    let none : f m ≡ 0 = not_at_start is_resumed (ltb b (length l.degrees)) refl refl in
    omega arith

pub an_edge_is_picked_once : AnEdgeIsPickedOnce
an_edge_is_picked_once l rules events k =
    let es = l.edges in
    let m : Machine = start (length l.degrees) in
    let f : Machine → ℕ = λ n. one_if (n.picked k) in
    let count : how_often_from es (picks k es) events m + f m ≡ f (run es events m) = counted es (picks k es) f (λ e n. picked_counted es n k e) events m in
    let none : f m ≡ 0 = refl in
    omega arith

pub an_edge_is_laid_once : AnEdgeIsLaidOnce
an_edge_is_laid_once l rules events k =
    let es = l.edges in
    let m : Machine = start (length l.degrees) in
    let f : Machine → ℕ = λ n. one_if (n.laid k) in
    let count : how_often_from es (lays k es) events m + f m ≡ f (run es events m) = counted es (lays k es) f (λ e n. laid_counted es n k e) events m in
    let none : f m ≡ 0 = refl in
    omega arith

run_one : (es : List Edge) (e : Event) (m : Machine) → run es (e ∷ []) m ≡ after es e m
unfolding run
run_one es e m = refl

applied : (es : List Edge) (e : Event) (m : Machine) → can es e m ≡ true → after es e m ≡ effect es e m
applied es e m h = cond-true (can es e m) (effect es e m) m h

pub a_publication_resumes_what_waits : APublicationResumesWhatWaits
a_publication_resumes_what_waits l rules events w b low parked h =
    let es = l.edges in
    let m : Machine = state_reached l events in
    let held = (passes es m (Publish w low) h).0 in
    ap (λ (n : Machine). n.stage b) (run-append es events (Publish w low ∷ []) (start (length l.degrees)) ∙ (run_one es (Publish w low) m ∙ applied es (Publish w low) m h))
    ∙ resumed_by_publication m.stage w low b held parked

-- a block into which an edge is picked and that is held by w goes on so until it is published
still_held : (es : List Edge) (events : List Event) (m : Machine) (w b k : ℕ) → k < length es → (edge_at es k).upper ≡ b → m.picked k ≡ true → m.stage b ≡ Held w
    → ((run es events m).stage b ≡ Held w) ⊎ ((run es events m).stage b ≡ Published)
unfolding run
still_held es [] m w b k inside up picked held = inl held
still_held es (e ∷ later) m w b k inside up picked held =
    let never_parks : parks b es e m ≡ true → ⊥ = λ p. true≢false (sym picked ∙ parks_untouched es m b e p k inside up) in
    let count = picked_counted es m k e in
    let still : (after es e m).picked k ≡ true = marked_again (m.picked k) ((after es e m).picked k) (one_if (picks k es e m)) picked count in
    ⊎_elim (λ h. still_held es later (after es e m) w b k inside up still h) (λ p. inr (run_published es later (after es e m) b p))
    (held_stays w (m.stage b) ((after es e m).stage b) (publishes b es e m) (parks b es e m) (resumes b es e m) (releases b es e m) (step es m b e) held never_parks)
  where
    marked_again : (s t : Bool) (n : ℕ) → s ≡ true → n + one_if s ≡ one_if t → t ≡ true
    marked_again s true n is count = refl
    marked_again s false n is count = let h = ap one_if is in absurd (omega arith)

run_next : (es : List Edge) (e : Event) (later : List Event) (m : Machine) → run es (e ∷ later) m ≡ run es later (after es e m)
unfolding run
run_next es e later m = refl

pub a_picker_holds_until_publication : APickerHoldsUntilPublication
a_picker_holds_until_publication l rules events later w b a h =
    let es = l.edges in
    let m : Machine = state_reached l events in
    let passed = passes es m (Pick w b a) h in
    let k = passed.1.0 in
    let at = into_is es b a k passed.1.1.0 in
    let same : state_reached l (events ++ Pick w b a ∷ later) ≡ run es later (pick k m) =
    run-append es events (Pick w b a ∷ later) (start (length l.degrees))
    ∙ (run_next es (Pick w b a) later m ∙ ap (run es later) (applied es (Pick w b a) m h ∙ ap (λ o. by_edge o pick m) passed.1.1.0)) in
    subst (λ (n : Machine). (n.stage b ≡ Held w) ⊎ (n.stage b ≡ Published)) (sym same)
    (still_held es later (pick k m) w b k at.inside at.upper (put_here m.picked k true k refl) passed.0)

-- the last law, by the degree
module _ (l : LayoutValue) (rules : IsLayout l) (m : Machine) (laws : SixLaws l.edges m) (idle : (b : ℕ) → b < length l.degrees → IsIdle m b) where
  one_published : (n b : ℕ) → b < length l.degrees → slice_index l.degrees b < suc n
      → ((c : ℕ) → c < length l.degrees → slice_index l.degrees c < n → m.stage c ≡ Published)
      → (s : Stage) → m.stage b ≡ s → s ≡ Published
  one_published n b inside h below Ready e = let r = laws.ready b e in absurd (true≢false (sym r.1 ∙ (idle b inside r.0).2))
  one_published n b inside h below (Held w) e = absurd ((idle b inside w).0 e)
  one_published n b inside h below (Parked low) e =
      let r = laws.parked b low e in
      let k = r.0.number in
      let placed = rules.good.placed k no_edge r.0.inside in
      let up : slice_index l.degrees (edge_at l.edges k).upper ≡ slice_index l.degrees b = ap (slice_index l.degrees) r.0.upper in
      let down : slice_index l.degrees (edge_at l.edges k).lower ≡ slice_index l.degrees low = ap (slice_index l.degrees) r.0.lower in
      let rises = placed.rises in
      absurd (r.1 (below low (subst (λ c. c < length l.degrees) r.0.lower placed.lower) (omega arith)))
  one_published n b inside h below (Resumed w) e = absurd ((idle b inside w).1 e)
  one_published n b inside h below Published e = refl

  published_below : (n b : ℕ) → b < length l.degrees → slice_index l.degrees b < n → m.stage b ≡ Published
  published_below zero b inside h = absurd (omega arith)
  published_below (suc n) b inside h = one_published n b inside h (published_below n) (m.stage b) refl

pub where_nothing_is_owed_all_is_published : WhereNothingIsOwedAllIsPublished
where_nothing_is_owed_all_is_published l rules m laws idle b inside = published_below l rules m laws idle (suc (slice_index l.degrees b)) b inside (omega arith)
