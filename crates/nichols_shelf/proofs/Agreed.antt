-- What a pass keeps agrees with what it knows, after each call.
use Rattle.std.proofs.Common.{not, ◌≡◌, ◌≢◌, ℕ, ◌+◌, ◌<◌, ◌≤◌, Bool, true, false, true≢false, cond, eqb, ltb, lt-ltb, ◌&&◌, ◌||◌, List, [], ◌∷◌, length, get_or, set, replicate, refl, sym, ap, ◌∙◌, eq-eqb, ne_eqb, lt_of_not-le, arith, Option, length-set, subst}
use Rattle.std.specs.Prelude.{is_some, None}
use Rattle.std.proofs.lemmas.Bool.{ltb-true, false_from_ne_true, or_right}
use Rattle.std.proofs.Math.Bool.{and-true, and-false}
use mathlib.Core.Logic.{dite}
use native.Mathlib.Decide.{ℕ_discrete, dec_le}
use lib.ListN.{length-replicate, get_or-replicate, get_or-eq_default}
use Rattle.nichols_core.proofs.MarksWritten.{mark_put}
use Rattle.nichols_value.specs.declared.shared.Shared.{Shared}
use Rattle.nichols_value.specs.declared.value.BlockValue.{BlockValue}
use Rattle.nichols_shelf.specs.Plan.{PlanValue}
use Rattle.nichols_shelf.specs.Lists.{is_in, without, noted_value}
use Rattle.nichols_shelf.specs.Places.{blocks, edges, edge}
use Rattle.nichols_shelf.specs.Views.{first_view, one_more, newcomer, joined_view, says_published, take_view, release_view, ask_view, publish_view, draw_view, lay_view, pick_view}
use Rattle.nichols_shelf.specs.Passes.{HasPickedNone}
use Rattle.nichols_shelf.specs.Out.{are_picked}
use Rattle.nichols_shelf.specs.Stored.{IsStored}
use Rattle.nichols_shelf.specs.declared.view.View.{View}
use Rattle.nichols_shelf.proofs.Listed.{is_in-without, is_in-append, is_in-below, others_stay, noted_same, noted_other, noted_more}
use Rattle.nichols_shelf.proofs.Picks.{still_picked}

-- all marks of a new list
marks_of : (n : ℕ) (t : Bool) (c : ℕ) → get_or (replicate n t) c false ≡ (t && ltb c n)
marks_of n t c = elim (dec_le n c) [
  | yes h ↦ get_or-eq_default (replicate n t) false (subst (λ m. m ≤ c) (sym (length-replicate n t)) h) ∙ sym (ap (λ s. t && s) (false_from_ne_true (ltb c n) (λ e. let q = ltb-true c n e in omega arith)) ∙ and-false t)
  | no h ↦ get_or-replicate n c t false (lt_of_not-le h) ∙ (sym (and-true t) ∙ ap (λ s. t && s) (sym (lt-ltb c n (lt_of_not-le h))))
]

pub stored_start : (g : PlanValue) → IsStored 0 1 (replicate (blocks g) true) (first_view g) []
stored_start g = record {
  room = length-replicate (blocks g) true;
  owed = λ c. marks_of (blocks g) true c ∙ (twice (ltb c (blocks g)) ∙ ap (λ t. t && ltb c (blocks g)) (sym (is_in-below c (blocks g))));
  worker = refl;
  passes = refl;
  live = refl;
  undrawn = refl;
  slots = refl;
}
  where
    twice : (t : Bool) → t ≡ (t && t)
    twice true = refl
    twice false = refl

module _ (w n : ℕ) (marks : List Bool) (v : View) (out : List (ℕ × Option Shared)) (st : IsStored w n marks v out) where
  -- a view in which all that matters stays
  same_slots : (v' : View) → v'.plan ≡ v.plan → v'.picked ≡ v.picked → ((c : ℕ) → is_in c v.held ≡ true → is_in c v'.held ≡ true) → are_picked v' out ≡ true
  same_slots v' plan picks held = still_picked v v' plan (λ k inside noted_is h. (ap (λ xs. is_some (noted_value k xs)) picks ∙ noted_is, held (edge v.plan k).upper h)) out st.slots

  pub stored_take : (b found : ℕ) → b < blocks v.plan → IsStored w n (set marks b false) (take_view b found v) out
  stored_take b found inside = record {
    room = length-set marks b false ∙ st.room;
    owed = λ c. mark_put marks b false (let r = st.room in omega arith) c ∙ (ap (λ t. cond (eqb c b) false t) (st.owed c) ∙ (through (eqb c b) (is_in c v.owed) (ltb c (blocks v.plan)) ∙ ap (λ t. t && ltb c (blocks v.plan)) (sym (is_in-without c b v.owed))));
    worker = st.worker;
    passes = st.passes;
    live = st.live;
    undrawn = st.undrawn;
    slots = same_slots (take_view b found v) refl refl (λ c h. more (eqb found 0) c h);
  }
    where
      through : (s x y : Bool) → cond s false (x && y) ≡ (cond s false x && y)
      through true x y = refl
      through false x y = refl

      more : (t : Bool) (c : ℕ) → is_in c v.held ≡ true → is_in c (cond t (b ∷ v.held) v.held) ≡ true
      more true c h = or_right (eqb c b) (is_in c v.held) h
      more false c h = h

  pub stored_release : (b found : ℕ) → b < blocks v.plan → IsStored w n (set marks b true) (release_view b found v) out
  stored_release b found inside = record {
    room = length-set marks b true ∙ st.room;
    owed = λ c. mark_put marks b true (let r = st.room in omega arith) c ∙ (ap (λ t. cond (eqb c b) true t) (st.owed c) ∙ dite (ℕ_discrete c b)
        (λ e. ap (λ s. cond s true (is_in c v.owed && ltb c (blocks v.plan))) (eq-eqb c b e) ∙ sym ((λ i. (eq-eqb c b e i || is_in c v.owed) && ltb (e i) (blocks v.plan)) ∙ lt-ltb b (blocks v.plan) inside))
        (λ ne. ap (λ s. cond s true (is_in c v.owed && ltb c (blocks v.plan))) (ne_eqb c b ne) ∙ sym (ap (λ s. (s || is_in c v.owed) && ltb c (blocks v.plan)) (ne_eqb c b ne))));
    worker = st.worker;
    passes = st.passes;
    live = st.live;
    undrawn = st.undrawn;
    slots = same_slots (release_view b found v) refl refl (λ c h. h);
  }

  pub stored_ask : (k found : ℕ) → HasPickedNone v.plan v (edge v.plan k).upper → IsStored w n marks (ask_view v.plan k found v) out
  stored_ask k found unpicked = record {
    room = st.room;
    owed = st.owed;
    worker = st.worker;
    passes = st.passes;
    live = st.live;
    undrawn = st.undrawn;
    slots = still_picked v (ask_view v.plan k found v) refl
        (λ j inside noted_is h. (noted_is, kept (says_published found) (edge v.plan j).upper h (λ e. true≢false (sym noted_is ∙ ap is_some (unpicked j inside e))))) out st.slots;
  }
    where
      kept : (t : Bool) (c : ℕ) → is_in c v.held ≡ true → c ≢ (edge v.plan k).upper → is_in c (cond t v.held (without (edge v.plan k).upper v.held)) ≡ true
      kept true c h ne = h
      kept false c h ne = others_stay c (edge v.plan k).upper v.held ne ∙ h

  pub stored_publish : (b found : ℕ) → IsStored w n marks (publish_view v.plan b found v) []
  stored_publish b found = record { room = st.room; owed = st.owed; worker = st.worker; passes = st.passes; live = st.live; undrawn = st.undrawn; slots = refl }

  pub stored_pick : (k found : ℕ) (x : BlockValue) → k < edges v.plan → is_in (edge v.plan k).upper v.held ≡ true → IsStored w n marks (pick_view v.plan k x found v) ((k, None) ∷ out)
  stored_pick k found x inside holds = record {
    room = st.room;
    owed = st.owed;
    worker = st.worker;
    passes = st.passes;
    live = st.live;
    undrawn = st.undrawn;
    slots = (λ i. (lt-ltb k (edges v.plan) inside i && (is_some (noted_same k x v.picked i) && holds i))
        && still_picked v (pick_view v.plan k x found v) refl (λ j in_j noted_is h. (still j noted_is, h)) out st.slots i);
  }
    where
      still : (j : ℕ) → is_some (noted_value j v.picked) ≡ true → is_some (noted_value j ((k, x) ∷ v.picked)) ≡ true
      still j h = dite (ℕ_discrete j k) (λ e. ap (λ z. is_some (noted_value z ((k, x) ∷ v.picked))) e ∙ ap is_some (noted_same k x v.picked)) (λ ne. ap is_some (noted_other j k x v.picked ne) ∙ h)

  pub stored_lay : (k first second : ℕ) (x : BlockValue) → IsStored w n marks (lay_view v.plan k x second (draw_view v.plan k first v)) out
  stored_lay k first second x = record {
    room = st.room;
    owed = st.owed;
    worker = st.worker;
    passes = st.passes;
    live = st.live;
    undrawn = ap (λ ds. without k (k ∷ ds)) st.undrawn ∙ ap (λ t. cond (not t) (k ∷ []) []) (eq-eqb k k refl);
    slots = same_slots (lay_view v.plan k x second (draw_view v.plan k first v)) refl refl (λ c h. h);
  }

  pub stored_one_more : IsStored w (n + 1) marks (one_more v) out
  stored_one_more = record { room = st.room; owed = st.owed; worker = st.worker; passes = ap (λ x. x + 1) st.passes; live = st.live; undrawn = st.undrawn; slots = same_slots (one_more v) refl refl (λ c h. h) }

  pub stored_newcomer : IsStored n 1 (replicate (blocks v.plan) false) (newcomer v) []
  stored_newcomer = record { room = length-replicate (blocks v.plan) false; owed = λ c. marks_of (blocks v.plan) false c; worker = st.passes; passes = refl; live = refl; undrawn = refl; slots = refl }

  pub stored_join : (w' n' : ℕ) (others both : List Bool) (u : View) (out' : List (ℕ × Option Shared)) → IsStored w' n' others u out' → blocks u.plan ≡ blocks v.plan → length both ≡ length marks
      → ((c : ℕ) → get_or both c false ≡ (get_or marks c false || get_or others c false)) → IsStored w n both (joined_view v u) out
  stored_join w' n' others both u out' su same len either = record {
    room = len ∙ st.room;
    owed = λ c. either c ∙ ((λ i. st.owed c i || su.owed c i) ∙ (ap (λ m. (is_in c v.owed && ltb c (blocks v.plan)) || (is_in c u.owed && ltb c m)) same ∙ (spread (is_in c v.owed) (is_in c u.owed) (ltb c (blocks v.plan)) ∙ ap (λ t. t && ltb c (blocks v.plan)) (sym (is_in-append c v.owed u.owed)))));
    worker = st.worker;
    passes = st.passes;
    live = st.live;
    undrawn = st.undrawn;
    slots = still_picked v (joined_view v u) refl (λ k inside noted_is h. (noted_more k v.picked u.picked noted_is, h)) out st.slots;
  }
    where
      spread : (p q r : Bool) → ((p && r) || (q && r)) ≡ ((p || q) && r)
      spread true q true = refl
      spread true true false = refl
      spread true false false = refl
      spread false q r = refl
