-- What a step on the words of blocks leaves to the slots.
use Rattle.std.proofs.Common.{◌≡◌, ◌≢◌, ◌⊎◌, ℕ, ◌<◌, Bool, true, false, true≢false, ◌&&◌, List, length, get_or, set, refl, sym, ap, ◌∙◌, subst, ⊎_elim, Option}
use Rattle.std.specs.Prelude.{is_some, Some}
use Rattle.std.proofs.lemmas.Bool.{false_from_ne_true}
use mathlib.Core.Option as table
use mathlib.Core.Option.{some}
use lib.ListN.{get_elem?}
use Rattle.atomic_table.proofs.Lists.{at_set}
use Rattle.nichols_core.specs.Machine.{Machine, is_held_by}
use Rattle.nichols_core.specs.SixLaws.{SixLaws, NonePicked, NoneLaid}
use Rattle.nichols_core.proofs.Stages.{held_by}
use Rattle.nichols_core.proofs.Conditions.{true_held}
use Rattle.nichols_value.specs.declared.shared.Shared.{Shared}
use Rattle.nichols_value.specs.declared.value.BlockValue.{BlockValue}
use Rattle.nichols_shelf.specs.Plan.{PlanValue}
use Rattle.nichols_shelf.specs.Places.{edges, edge, edge_place}
use Rattle.nichols_shelf.specs.Seats.{tends}
use Rattle.nichols_shelf.specs.Slots.{edge_code, Notes, SlotsStand}
use Rattle.nichols_shelf.specs.Lists.{is_in, noted_value}
use Rattle.nichols_shelf.specs.declared.view.View.{View}

-- from the state m to the state n: no edge is laid or picked, who tends a block tended it or it was untouched, and the holder of a
-- block with a drawn edge holds it still
pub record SameEdges (g : PlanValue) (m n : Machine) (maker maker' : ℕ → ℕ) (drawn : ℕ → Bool) : Type 0 where
  pub laid : (k : ℕ) → n.laid k ≡ m.laid k
  pub picked : (k : ℕ) → n.picked k ≡ m.picked k
  pub tended : (w b : ℕ) → tends g n maker' w b ≡ true → (tends g m maker w b ≡ true) ⊎ (NonePicked g.layout.edges m b × NoneLaid g.layout.edges m b)
  pub drawn_held : (w k : ℕ) → k < edges g → drawn k ≡ true → is_held_by w (n.stage (edge g k).lower) ≡ is_held_by w (m.stage (edge g k).lower)

-- what a view notes
module _ (g : PlanValue) (m n : Machine) (laws : SixLaws g.layout.edges m) (maker maker' : ℕ → ℕ) (value : ℕ → BlockValue) (drawn : ℕ → Bool) (same : SameEdges g m n maker maker' drawn) where
  drawn_bool : (w k : ℕ) (t : Bool) → drawn k ≡ t → (drawn k ≡ true → is_held_by w (n.stage (edge g k).lower) ≡ is_held_by w (m.stage (edge g k).lower)) → (drawn k && is_held_by w (n.stage (edge g k).lower)) ≡ (drawn k && is_held_by w (m.stage (edge g k).lower))
  drawn_bool w k true is h = ap (λ t. drawn k && t) (h is)
  drawn_bool w k false is h = ap (λ t. t && is_held_by w (n.stage (edge g k).lower)) is ∙ sym (ap (λ t. t && is_held_by w (m.stage (edge g k).lower)) is)

  pub notes_kept : (v v' : View) → v'.worker ≡ v.worker → v'.picked ≡ v.picked → v'.laid ≡ v.laid → v'.drawn ≡ v.drawn → Notes g m maker value drawn v → Notes g n maker' value drawn v'
  notes_kept v v' worker picks lays draws notes = record {
    picked = λ k x h. let r = notes.picked k x (ap (noted_value k) (sym picks) ∙ h) in (r.0, same.picked k ∙ r.1, r.2);
    picks = λ k inside h p. ap (λ xs. is_some (noted_value k xs)) picks ∙ ⊎_elim
        (λ was. notes.picks k inside was (sym (same.picked k) ∙ p))
        (λ never. absurd (true≢false (sym (sym (same.picked k) ∙ p) ∙ never.0 k inside refl)))
        (same.tended v.worker (edge g k).upper (ap (λ w. tends g n maker' w (edge g k).upper) (sym worker) ∙ h));
    laid = λ k x h. let r = notes.laid k x (ap (noted_value k) (sym lays) ∙ h) in (r.0, same.laid k ∙ r.1, r.2);
    lays = λ k inside h p. ap (λ xs. is_some (noted_value k xs)) lays ∙ ⊎_elim
        (λ was. notes.lays k inside was (sym (same.laid k) ∙ p))
        (λ never. absurd (true≢false (sym (sym (same.laid k) ∙ p) ∙ never.1 k inside refl)))
        (same.tended v.worker (edge g k).lower (ap (λ w. tends g n maker' w (edge g k).lower) (sym worker) ∙ h));
    draws = λ k inside. ap (is_in k) draws ∙ (notes.draws k inside
        ∙ (sym (drawn_bool v.worker k (drawn k) refl (same.drawn_held v.worker k inside)) ∙ ap (λ w. drawn k && is_held_by w (n.stage (edge g k).lower)) (sym worker)));
  }

-- a step on the words of blocks keeps what is known of the slots; it may give home the slots of picked edges
module _ (g : PlanValue) (words words' : List ℕ) (homes homes' : List (table.Option (Option Shared))) (views : List View) (m n : Machine) (laws : SixLaws g.layout.edges m) (maker maker' : ℕ → ℕ) (value : ℕ → BlockValue) (drawn : ℕ → Bool)
    (st : SlotsStand g words homes views m maker value drawn) (same : SameEdges g m n maker maker' drawn)
    (id : ℕ) (v v' : View) (at : get_elem? views id ≡ some v) (live : v.live ≡ true) where
  pub slots_kept : v'.worker ≡ v.worker → v'.picked ≡ v.picked → v'.laid ≡ v.laid → v'.drawn ≡ v.drawn
      → ((k : ℕ) → k < edges g → get_or words' (edge_place g k) 0 ≡ get_or words (edge_place g k) 0)
      → length homes' ≡ length homes → ((k : ℕ) → k < edges g → m.picked k ≡ false → get_elem? homes' k ≡ get_elem? homes k)
      → ((k : ℕ) → k < edges g → (x : Shared) → get_elem? homes' k ≡ some (some (Some x)) → get_elem? homes k ≡ some (some (Some x)))
      → SlotsStand g words' homes' (set views id v') n maker' value drawn
  slots_kept worker picks lays draws codes depth there was = record {
    deep = depth ∙ st.deep;
    code = λ k inside. codes k inside ∙ (st.code k inside ∙ (λ i. edge_code (drawn k) (sym (same.laid k) i) (sym (same.picked k) i)));
    home = λ k inside h p. let r = st.home k inside (sym (same.laid k) ∙ h) (sym (same.picked k) ∙ p) in
        record { shared = r.shared; there = there k inside (sym (same.picked k) ∙ p) ∙ r.there; worth_is = r.worth_is };
    empty = λ k inside h d. there k inside (unpicked k inside (sym (same.laid k) ∙ h)) ∙ st.empty k inside (sym (same.laid k) ∙ h) d;
    spent = λ k inside p x e. st.spent k inside (sym (same.picked k) ∙ p) x (was k inside x e);
    right = λ k inside h. st.right k inside (sym (same.laid k) ∙ h);
    away = λ k inside d. let r = st.away k inside d in record {
      unlaid = same.laid k ∙ r.unlaid;
      out = there k inside (unpicked k inside r.unlaid) ∙ r.out;
      full = λ j within u. same.picked j ∙ r.full j within u;
      holder = r.holder;
      held = held_by r.holder (n.stage (edge g k).lower) (same.drawn_held r.holder k inside d ∙ true_held r.holder (m.stage (edge g k).lower) r.held);
    };
    notes = λ j u here alive. ⊎_elim
        (λ (t : (j ≡ id) × (v' ≡ u)). subst (Notes g n maker' value drawn) t.1 (notes_kept g m n laws maker maker' value drawn same v v' worker picks lays draws (st.notes id v at live)))
        (λ (t : (j ≢ id) × (get_elem? views j ≡ some u)). notes_kept g m n laws maker maker' value drawn same u u refl refl refl refl (st.notes j u t.1 alive))
        (at_set views id j v' u here);
  }
    where
      unpicked : (k : ℕ) → k < edges g → m.laid k ≡ false → m.picked k ≡ false
      unpicked k inside h = false_from_ne_true (m.picked k) (λ p. true≢false (sym (laws.picked k inside p).0 ∙ h))

-- where debts pass and views change, all else that is known of the slots stays
pub slots_stay : (g : PlanValue) (words : List ℕ) (homes : List (table.Option (Option Shared))) (views views' : List View) (m : Machine) (owes : ℕ → ℕ → Bool) (maker maker' : ℕ → ℕ) (value : ℕ → BlockValue) (drawn : ℕ → Bool)
    → SlotsStand g words homes views m maker value drawn
    → ((id : ℕ) (v : View) → get_elem? views' id ≡ some v → v.live ≡ true → Notes g (record m { owes = owes }) maker' value drawn v)
    → SlotsStand g words homes views' (record m { owes = owes }) maker' value drawn
slots_stay g words homes views views' m owes maker maker' value drawn st notes = record {
  deep = st.deep;
  code = st.code;
  home = st.home;
  empty = st.empty;
  spent = st.spent;
  right = st.right;
  away = λ k inside d. let r = st.away k inside d in record { unlaid = r.unlaid; out = r.out; full = r.full; holder = r.holder; held = r.held };
  notes = notes;
}
