-- A player's marks after each call.
use Rattle.std.proofs.Common.{◌≡◌, ◌⊎◌, ℕ, ◌<◌, Bool, true, false, true≢false, cond, eqb, ◌||◌, List, ◌∷◌, length, get_or, set, refl, sym, ap, ◌∙◌, subst, inr, ⊎_elim, eq-eqb, ne_eqb, arith, Option, Some, None, length-set}
use Rattle.std.specs.Prelude.{is_some}
use Rattle.std.proofs.lemmas.Bool.{or_right, or_left}
use Rattle.std.proofs.lemmas.List.{get_or_default}
use Rattle.std.proofs.lemmas.Option.{same_Some}
use mathlib.Core.Logic.{dite}
use native.Mathlib.Decide.{ℕ_discrete}
use Rattle.nichols_core.specs.Layout.{LayoutValue, IsLayout, edge_at, edge_into, edge_out}
use Rattle.nichols_core.specs.Conditions.{IsInto, IsOutOf}
use Rattle.nichols_core.proofs.EdgesFound.{into_found, out_found, into_is, out_is}
use Rattle.nichols_core.proofs.MarksWritten.{mark_put}
use Rattle.nichols_value.specs.declared.value.BlockValue.{BlockValue}
use Rattle.nichols_value.specs.declared.value.BlockValue.TheVariants.{Starved}
use Rattle.nichols_shelf.specs.Plan.{PlanValue, IsRightFor}
use Rattle.nichols_shelf.specs.Lists.{is_in, without, noted_value}
use Rattle.nichols_shelf.specs.Places.{blocks, edges, edge}
use Rattle.nichols_shelf.specs.Views.{says_published, askers, release_view, ask_view, pick_view, draw_view, lay_view, publish_view}
use Rattle.nichols_shelf.specs.Calls.{asked_of, MayAsk, MayPick, MayLay}
use Rattle.nichols_shelf.specs.Played.{Mirrors}
use Rattle.nichols_shelf.specs.declared.view.View.{View}
use Rattle.nichols_shelf.proofs.Listed.{gone, others_stay, is_in-append, noted_same, noted_other}

-- one edge is that of its letter
pub one_in : (l : LayoutValue) → IsLayout l → (b a j k : ℕ) → IsInto l.edges b a j → IsInto l.edges b a k → j ≡ k
one_in l rules b a j k p q = let same : Some j ≡ Some k = sym (into_found l rules b a j p) ∙ into_found l rules b a k q in cc

pub one_out : (l : LayoutValue) → IsLayout l → (b a j k : ℕ) → IsOutOf l.edges b a j → IsOutOf l.edges b a k → j ≡ k
one_out l rules b a j k p q = let same : Some j ≡ Some k = sym (out_found l rules b a j p) ∙ out_found l rules b a k q in cc

-- want of memory is right for every block
pub starved_is_right : (g : PlanValue) (b : ℕ) → IsRightFor g b Starved
unfolding IsRightFor
starved_is_right g b = inr refl

-- an edge that isn't marked isn't noted
pub not_noted : (o : Option BlockValue) → is_some o ≡ false → o ≡ None
not_noted None h = refl
not_noted (Some x) h = absurd (true≢false h)

module _ (h r k p l : List Bool) (v : View) (m : Mirrors h r k p l v) where
  pub mirror_release : (b found : ℕ) → b < blocks v.plan → Mirrors h (set r b false) k p l (release_view b found v)
  mirror_release b found inside = record {
    held_room = m.held_room;
    resumed_room = length-set r b false ∙ m.resumed_room;
    known_room = m.known_room;
    picked_room = m.picked_room;
    laid_room = m.laid_room;
    holds = m.holds;
    resumes = λ c. mark_put r b false (let s = m.resumed_room in omega arith) c ∙ dite (ℕ_discrete c b)
        (λ e. ap (λ t. cond t false (get_or r c false)) (eq-eqb c b e) ∙ sym (ap (λ z. is_in z (without b v.resumed)) e ∙ gone b v.resumed))
        (λ ne. ap (λ t. cond t false (get_or r c false)) (ne_eqb c b ne) ∙ (m.resumes c ∙ sym (others_stay c b v.resumed ne)));
    knows = m.knows;
    picks = m.picks;
    lays = m.lays;
    starved = m.starved;
  }

  pub mirror_ask : (n found : ℕ) (t x : Bool) → (edge v.plan n).upper < blocks v.plan → (edge v.plan n).lower < blocks v.plan → get_or h (edge v.plan n).upper false ≡ true → t ≡ says_published found
      → (x ≡ true → (t ≡ true) ⊎ (get_or k (edge v.plan n).lower false ≡ true)) → Mirrors (set h (edge v.plan n).upper t) r (set k (edge v.plan n).lower x) p l (ask_view v.plan n found v)
  mirror_ask n found t x inside low_in was says knew = record {
    held_room = length-set h (edge v.plan n).upper t ∙ m.held_room;
    resumed_room = m.resumed_room;
    known_room = length-set k (edge v.plan n).lower x ∙ m.known_room;
    picked_room = m.picked_room;
    laid_room = m.laid_room;
    holds = λ c. mark_put h (edge v.plan n).upper t (let s = m.held_room in omega arith) c ∙ subst (λ s. cond (eqb c (edge v.plan n).upper) t (get_or h c false) ≡ is_in c (cond s v.held (without (edge v.plan n).upper v.held))) says (by t c);
    resumes = m.resumes;
    knows = λ c e. subst (λ s. is_in c (cond s ((edge v.plan n).lower ∷ v.known) v.known) ≡ true) says (learned t c refl (sym (mark_put k (edge v.plan n).lower x (let s = m.known_room in omega arith) c) ∙ e));
    picks = m.picks;
    lays = m.lays;
    starved = m.starved;
  }
    where
      by : (s : Bool) (c : ℕ) → cond (eqb c (edge v.plan n).upper) s (get_or h c false) ≡ is_in c (cond s v.held (without (edge v.plan n).upper v.held))
      by true c = dite (ℕ_discrete c (edge v.plan n).upper)
          (λ e. ap (λ z. cond z true (get_or h c false)) (eq-eqb c (edge v.plan n).upper e) ∙ (sym was ∙ (m.holds (edge v.plan n).upper ∙ ap (λ z. is_in z v.held) (sym e))))
          (λ ne. ap (λ z. cond z true (get_or h c false)) (ne_eqb c (edge v.plan n).upper ne) ∙ m.holds c)
      by false c = dite (ℕ_discrete c (edge v.plan n).upper)
          (λ e. ap (λ z. cond z false (get_or h c false)) (eq-eqb c (edge v.plan n).upper e) ∙ sym (ap (λ z. is_in z (without (edge v.plan n).upper v.held)) e ∙ gone (edge v.plan n).upper v.held))
          (λ ne. ap (λ z. cond z false (get_or h c false)) (ne_eqb c (edge v.plan n).upper ne) ∙ (m.holds c ∙ sym (others_stay c (edge v.plan n).upper v.held ne)))

      learned : (s : Bool) (c : ℕ) → t ≡ s → cond (eqb c (edge v.plan n).lower) x (get_or k c false) ≡ true → is_in c (cond s ((edge v.plan n).lower ∷ v.known) v.known) ≡ true
      learned true c is e = dite (ℕ_discrete c (edge v.plan n).lower)
          (λ q. or_left (eqb c (edge v.plan n).lower) (is_in c v.known) (eq-eqb c (edge v.plan n).lower q))
          (λ ne. or_right (eqb c (edge v.plan n).lower) (is_in c v.known) (m.knows c (ap (λ z. cond z x (get_or k c false)) (sym (ne_eqb c (edge v.plan n).lower ne)) ∙ e)))
      learned false c is e = dite (ℕ_discrete c (edge v.plan n).lower)
          (λ q. m.knows c (⊎_elim (λ y. absurd (true≢false (sym y ∙ is))) (λ y. ap (λ z. get_or k z false) q ∙ y) (knew (ap (λ z. cond z x (get_or k c false)) (sym (eq-eqb c (edge v.plan n).lower q)) ∙ e))))
          (λ ne. m.knows c (ap (λ z. cond z x (get_or k c false)) (sym (ne_eqb c (edge v.plan n).lower ne)) ∙ e))

  pub mirror_pick : (n found : ℕ) (x : BlockValue) → n < edges v.plan → Mirrors h r k (set p n true) l (pick_view v.plan n x found v)
  mirror_pick n found x inside = record {
    held_room = m.held_room;
    resumed_room = m.resumed_room;
    known_room = m.known_room;
    picked_room = length-set p n true ∙ m.picked_room;
    laid_room = m.laid_room;
    holds = m.holds;
    resumes = m.resumes;
    knows = m.knows;
    picks = λ j. mark_put p n true (let s = m.picked_room in omega arith) j ∙ dite (ℕ_discrete j n)
        (λ e. ap (λ t. cond t true (get_or p j false)) (eq-eqb j n e) ∙ sym (ap (λ z. is_some (noted_value z ((n, x) ∷ v.picked))) e ∙ ap is_some (noted_same n x v.picked)))
        (λ ne. ap (λ t. cond t true (get_or p j false)) (ne_eqb j n ne) ∙ (m.picks j ∙ sym (ap is_some (noted_other j n x v.picked ne))));
    lays = m.lays;
    starved = m.starved;
  }

  pub mirror_lay : (n first second : ℕ) → n < edges v.plan → Mirrors h r k p (set l n true) (lay_view v.plan n Starved second (draw_view v.plan n first v))
  mirror_lay n first second inside = record {
    held_room = m.held_room;
    resumed_room = m.resumed_room;
    known_room = m.known_room;
    picked_room = m.picked_room;
    laid_room = length-set l n true ∙ m.laid_room;
    holds = m.holds;
    resumes = m.resumes;
    knows = m.knows;
    picks = m.picks;
    lays = λ j. mark_put l n true (let s = m.laid_room in omega arith) j ∙ dite (ℕ_discrete j n)
        (λ e. ap (λ t. cond t true (get_or l j false)) (eq-eqb j n e) ∙ sym (ap (λ z. is_some (noted_value z ((n, Starved) ∷ v.laid))) e ∙ ap is_some (noted_same n Starved v.laid)))
        (λ ne. ap (λ t. cond t true (get_or l j false)) (ne_eqb j n ne) ∙ (m.lays j ∙ sym (ap is_some (noted_other j n Starved v.laid ne))));
    starved = λ j x e. dite (ℕ_discrete j n)
        (λ q. sym (same_Some Starved x (sym (noted_same n Starved v.laid) ∙ (ap (λ z. noted_value z ((n, Starved) ∷ v.laid)) (sym q) ∙ e))))
        (λ ne. m.starved j x (sym (noted_other j n Starved v.laid ne) ∙ e));
  }

  pub mirror_publish : (b found : ℕ) (r' : List Bool) → b < blocks v.plan → length r' ≡ blocks v.plan → ((c : ℕ) → get_or r' c false ≡ (get_or r c false || is_in c (askers v.plan.layout.edges b found)))
      → Mirrors (set h b false) r' k p l (publish_view v.plan b found v)
  mirror_publish b found r' inside room marks = record {
    held_room = length-set h b false ∙ m.held_room;
    resumed_room = room;
    known_room = m.known_room;
    picked_room = m.picked_room;
    laid_room = m.laid_room;
    holds = λ c. mark_put h b false (let s = m.held_room in omega arith) c ∙ dite (ℕ_discrete c b)
        (λ e. ap (λ t. cond t false (get_or h c false)) (eq-eqb c b e) ∙ sym (ap (λ z. is_in z (without b v.held)) e ∙ gone b v.held))
        (λ ne. ap (λ t. cond t false (get_or h c false)) (ne_eqb c b ne) ∙ (m.holds c ∙ sym (others_stay c b v.held ne)));
    resumes = λ c. marks c ∙ (ap (λ t. t || is_in c (askers v.plan.layout.edges b found)) (m.resumes c) ∙ sym (is_in-append c v.resumed (askers v.plan.layout.edges b found)));
    knows = m.knows;
    picks = m.picks;
    lays = m.lays;
    starved = m.starved;
  }

-- an element that was read is the mark there
pub read_mark : (xs : List Bool) (i : ℕ) (x : Bool) → i < length xs → x ≡ get_or xs i x → x ≡ get_or xs i false
read_mark xs i x inside e = e ∙ get_or_default xs i x false inside

-- and so is one that was read of a player's marks of held blocks
pub held_read : (g : PlanValue) (h r k p q : List Bool) (v : View) → Mirrors h r k p q v → v.plan ≡ g → (b : ℕ) → b < blocks g → (x : Bool) → x ≡ get_or h b x → x ≡ get_or h b false
held_read g h r k p q v m same b inside x =
    let room = m.held_room in
    let n : b < blocks v.plan = subst (λ (s : PlanValue). b < blocks s) (sym same) inside in
    read_mark h b x (omega arith)

-- what a player that may ask, pick or lay is told
module _ (s : PlanValue) (l : LayoutValue) (same : l ≡ s.layout) (h r k p q : List Bool) (v : View) (m : Mirrors h r k p q v) (b a : ℕ) where
  pub may_ask : (n : ℕ) → get_or h b false ≡ true → ((j : ℕ) → j < length l.edges → (edge_at l.edges j).upper ≡ b → get_or p j false ≡ false) → Some n ≡ edge_into l.edges b a → MayAsk s b a v
  may_ask n held none is = record {
    holds = sym (m.holds b) ∙ held;
    unpicked = subst (λ (g : LayoutValue). (j : ℕ) → j < length g.edges → (edge_at g.edges j).upper ≡ b → noted_value j v.picked ≡ None) same (λ j in_j up. not_noted (noted_value j v.picked) (sym (m.picks j) ∙ none j in_j up));
    number = n;
    into = subst (λ (g : LayoutValue). IsInto g.edges b a n) same (into_is l.edges b a n (sym is));
  }

  pub may_pick : (n : ℕ) → get_or h b false ≡ true → get_or k (edge_at l.edges n).lower false ≡ true → get_or p n false ≡ false → Some n ≡ edge_into l.edges b a → MayPick s b a v
  may_pick n held known yet is = record {
    holds = sym (m.holds b) ∙ held;
    number = n;
    into = subst (λ (g : LayoutValue). IsInto g.edges b a n) same (into_is l.edges b a n (sym is));
    knows = subst (λ (g : LayoutValue). is_in (edge_at g.edges n).lower v.known ≡ true) same (m.knows (edge_at l.edges n).lower known);
    unpicked = not_noted (noted_value n v.picked) (sym (m.picks n) ∙ yet);
  }

  pub may_lay : (n : ℕ) → get_or h b false ≡ true → get_or q n false ≡ false → ((j : ℕ) → j < length l.edges → (edge_at l.edges j).upper ≡ b → get_or p j false ≡ true) → Some n ≡ edge_out l.edges b a → MayLay s b a Starved v
  may_lay n held yet full is = record {
    holds = sym (m.holds b) ∙ held;
    picked = subst (λ (g : LayoutValue). (j : ℕ) → j < length g.edges → (edge_at g.edges j).upper ≡ b → is_some (noted_value j v.picked) ≡ true) same (λ j in_j up. sym (m.picks j) ∙ full j in_j up);
    number = n;
    out_of = subst (λ (g : LayoutValue). IsOutOf g.edges b a n) same (out_is l.edges b a n (sym is));
    unlaid = not_noted (noted_value n v.laid) (sym (m.lays n) ∙ yet);
    right = starved_is_right s b;
    equal = λ j x in_j low e. m.starved j x e;
  }

-- two answers that are equal
pub same_asked : (t u : Bool) → asked_of t ≡ asked_of u → t ≡ u
same_asked true true e = refl
same_asked true false e = absurd (cc)
same_asked false true e = absurd (cc)
same_asked false false e = refl
