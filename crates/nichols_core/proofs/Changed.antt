-- What each event changes, and that all else stays.
use Rattle.std.proofs.Common.{◌≡◌, ℕ, Bool, true, false, cond, refl, sym, ap, ◌∙◌, subst}
use Rattle.std.specs.Prelude.{Some}
use Rattle.std.proofs.lemmas.Bool.{cond-false, false_from_ne_true}
use Rattle.nichols_core.specs.declared.event.Event.{Event}
use Rattle.nichols_core.specs.declared.event.Event.TheVariants.{Take, Ask, Pick, Lay, Publish, Release}
use Rattle.nichols_core.specs.declared.stage.Stage.{Stage}
use Rattle.nichols_core.specs.declared.stage.Stage.TheVariants.{Ready, Held, Parked, Published}
use Rattle.nichols_core.specs.Layout.{LayoutValue, IsLayout, edge_at}
use Rattle.nichols_core.specs.Machine.{Machine, put, is_published, can, effect, after, stage_after_take, stage_after_publication, take, ask, pick, lay, publish, release}
use Rattle.nichols_core.specs.Conditions.{Allows}
use Rattle.nichols_core.specs.Changes.{Takes, Asks, PicksEdge, LaysEdge, PublishesBlock, ReleasesBlock, Changes, AnEventChangesThisAlone}
use Rattle.nichols_core.proofs.Stages.{put_here, put_else, put_both, put_other, published, not_published, unready_after_take, unparked_after_publication, resumed_by_publication}
use Rattle.nichols_core.proofs.EdgesFound.{into_found, out_found}
use Rattle.nichols_core.proofs.Conditions.{a_condition_is_what_it_asks, after_ask, after_pick, after_lay, after_publish, after_release}

module _ (m : Machine) where
  takes : (w b : ℕ) → Takes w b m (take w b m)
  takes w b =
      let here : put m.stage b (stage_after_take w (m.stage b)) b ≡ stage_after_take w (m.stage b) = put_here m.stage b (stage_after_take w (m.stage b)) b refl in record {
        ready = λ is. here ∙ ap (stage_after_take w) is;
        unready = λ other. here ∙ unready_after_take w (m.stage b) other;
        debt = put_both m.owes w b false w b refl refl;
        stages = put_else m.stage b (stage_after_take w (m.stage b));
        debts = λ u c other. put_other m.owes w b false u c (λ p q. other (p, q));
        laid = λ j. refl;
        picked = λ j. refl;
      }

  asks : (l b : ℕ) → Asks l b m (ask b l m)
  asks l b = two (is_published (m.stage l)) refl
    where
      two : (t : Bool) → is_published (m.stage l) ≡ t → Asks l b m (cond t m (record m { stage = put m.stage b (Parked l) }))
      two true is = record {
        unpublished = λ yet. absurd (yet (published (m.stage l) is));
        published = λ _. refl;
        stages = λ c _. refl;
        debts = λ u c. refl;
        laid = λ j. refl;
        picked = λ j. refl;
      }
      two false is = record {
        unpublished = λ _. put_here m.stage b (Parked l) b refl;
        published = λ done. absurd (not_published (m.stage l) is done);
        stages = put_else m.stage b (Parked l);
        debts = λ u c. refl;
        laid = λ j. refl;
        picked = λ j. refl;
      }

  picks_edge : (k : ℕ) → PicksEdge k m (pick k m)
  picks_edge k = record {
    edge = put_here m.picked k true k refl;
    others = put_else m.picked k true;
    stages = λ c. refl;
    debts = λ u c. refl;
    laid = λ j. refl;
  }

  lays_edge : (k : ℕ) → LaysEdge k m (lay k m)
  lays_edge k = record {
    edge = put_here m.laid k true k refl;
    others = put_else m.laid k true;
    stages = λ c. refl;
    debts = λ u c. refl;
    picked = λ j. refl;
  }

  publishes_block : (w b : ℕ) → m.stage b ≡ Held w → PublishesBlock w b m (publish w b m)
  publishes_block w b held =
      let f : ℕ → Stage = λ c. stage_after_publication w b (m.stage c) in record {
        block = put_here f b Published b refl;
        parked = λ c waits. resumed_by_publication m.stage w b c held waits;
        others = λ c other apart. put_else f b Published c other ∙ unparked_after_publication w b (m.stage c) apart;
        debts = λ u c. refl;
        laid = λ j. refl;
        picked = λ j. refl;
      }

  releases_block : (w b : ℕ) → ReleasesBlock w b m (release w b m)
  releases_block w b = record {
    block = put_here m.stage b Ready b refl;
    debt = put_both m.owes w b true w b refl refl;
    stages = put_else m.stage b Ready;
    debts = λ u c other. put_other m.owes w b true u c (λ p q. other (p, q));
    laid = λ j. refl;
    picked = λ j. refl;
  }

module _ (l : LayoutValue) (rules : IsLayout l) (m : Machine) where
  changes : (event : Event) → Allows l.edges event m → Changes l.edges event m (after l.edges event m)
  changes (Take w b) h = takes m w b
  changes (Ask w b a) h = λ k at. subst (Asks (edge_at l.edges k).lower b m) (sym (after_ask l rules m w b a k h.0 at h.2)) (asks m (edge_at l.edges k).lower b)
  changes (Pick w b a) h = λ k at.
      let same : Some h.1.0 ≡ Some k = sym (into_found l rules b a h.1.0 h.1.1.0) ∙ into_found l rules b a k at in
      let number : h.1.0 ≡ k = cc in
      subst (λ j. PicksEdge j m (after l.edges (Pick w b a) m)) number
      (subst (PicksEdge h.1.0 m) (sym (after_pick l rules m w b a h.1.0 h.0 h.1.1.0 h.1.1.1 h.1.1.2 h.1.1.3)) (picks_edge m h.1.0))
  changes (Lay w b a) h = λ k at.
      let same : Some h.2.0 ≡ Some k = sym (out_found l rules b a h.2.0 h.2.1.0) ∙ out_found l rules b a k at in
      let number : h.2.0 ≡ k = cc in
      subst (λ j. LaysEdge j m (after l.edges (Lay w b a) m)) number
      (subst (LaysEdge h.2.0 m) (sym (after_lay l rules m w b a h.2.0 h.0 h.1 h.2.1.0 h.2.1.1)) (lays_edge m h.2.0))
  changes (Publish w b) h = subst (PublishesBlock w b m) (sym (after_publish l rules m w b h.0 h.1 h.2)) (publishes_block m w b h.0)
  changes (Release w b) h = subst (ReleasesBlock w b m) (sym (after_release l rules m w b h)) (releases_block m w b)

  stays : (event : Event) → (Allows l.edges event m → ⊥) → after l.edges event m ≡ m
  stays event never =
      cond-false (can l.edges event m) (effect l.edges event m) m
      (false_from_ne_true (can l.edges event m) (λ passes. never ((a_condition_is_what_it_asks l rules event m).0 passes)))

pub an_event_changes_this_alone : AnEventChangesThisAlone
an_event_changes_this_alone l rules event m = (changes l rules m event, stays l rules m event)
