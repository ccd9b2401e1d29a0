-- Each step keeps the rule of the memo.
use Rattle.std.proofs.Common.{◌≡◌, ◌≢◌, ◌⊎◌, ℕ, zero, suc, ◌<◌, true, true≢false, eqb, List, [], ◌∷◌, ◌++◌, length, get_or, set, replicate, map, refl, sym, ap, ◌∙◌, subst, inl, inr, ⊎_elim, eq-eqb, ne_eqb, arith, Option, Some, None, length-set, get_or-set_other, get_or-set_same}
use mathlib.Core.Option as table
use mathlib.Core.Option.{some, none, some-injective, some-ne-none}
use mathlib.Core.Logic.{dite}
use native.Mathlib.Decide.{ℕ_discrete}
use prog.Atomic.{either}
use lib.ListN.{get_elem?, length-map, length-replicate}
use Rattle.atomic_table.specs.Table.{Act, keeps, takes, gives, Valid, Me, step, stepped, carried_after, Allows, Splits, Joins, opening}
use Rattle.atomic_table.proofs.Lists.{at_set, set_here, set_else, set_again, at_longer, at_snoc}
use Rattle.nichols_braid.specs.Braid.{BraidValue}
use Rattle.nichols_memo.specs.declared.entry.Entry.{Entry}
use Rattle.nichols_memo.specs.declared.view.View.{View}
use Rattle.nichols_memo.specs.Forms.{IsRight}
use Rattle.nichols_memo.specs.Rule.{Tableau, IsFree, IsHeldBy, IsKept, Holds}
use Rattle.nichols_memo.specs.Steps.{entry_out, try_step, back_step}
use Rattle.nichols_memo.specs.Views.{first_view, newcomer, spent_view, won_view, lost_view, back_view}

pub inside_of : {A : Type 0} (xs : List A) (i : ℕ) (a : A) → get_elem? xs i ≡ some a → i < length xs
inside_of [] i a e = absurd (some-ne-none a (sym e))
inside_of (x ∷ xs) zero a e = omega arith
inside_of (x ∷ xs) (suc i) a e = let h = inside_of xs i a e in omega arith

pub none_some : (k : ℕ) → None ≡ Some k → ⊥
none_some k e = cc

same_some : (j k : ℕ) → Some j ≡ Some k → j ≡ k
same_some j k e = cc

-- ---- what a step leaves

module _ (braid : BraidValue) (s : Tableau) (h : Holds braid s) (id : ℕ) (v : View) (at : get_elem? s.views id ≡ some v) (k : ℕ) where
  -- the slots other than k, where of the words that of k alone changes, of the homes that of k, and of the views that of the seat id
  others_stay : (x : ℕ) (homes : List (table.Option (Option Entry))) (w : View) → w.live ≡ v.live → ((j : ℕ) → j ≢ k → get_elem? homes j ≡ get_elem? s.homes j) → ((j : ℕ) → v.out ≡ Some j → j ≢ k → w.out ≡ Some j)
      → (owner : ℕ → ℕ) → ((j : ℕ) → j ≢ k → owner j ≡ h.owner j) → (j : ℕ) → j < h.slots → j ≢ k
      → IsFree braid record { words = set s.words k x; homes = homes; views = set s.views id w } j ⊎ IsHeldBy record { words = set s.words k x; homes = homes; views = set s.views id w } (owner j) j
  others_stay x homes w live same lists owner own j inside_j ne = ⊎_elim
      (λ f. inl record { word = get_or-set_other s.words k j x 0 (λ e. ne (omega arith)) ∙ f.word; entry = f.entry; home = same j ne ∙ f.home; right = f.right })
      (λ (t : IsHeldBy s (h.owner j) j). inr (dite (ℕ_discrete (h.owner j) id)
      (λ e.
      let is : v ≡ t.view = some-injective v t.view (sym at ∙ ap (get_elem? s.views) (sym e) ∙ t.there) in
      record {
        word = get_or-set_other s.words k j x 0 (λ q. ne (omega arith)) ∙ t.word;
        away = same j ne ∙ t.away;
        view = w;
        there = ap (get_elem? (set s.views id w)) (own j ne ∙ e) ∙ set_here s.views id w (inside_of s.views id v at);
        live = live ∙ ap (λ (y : View). y.live) is ∙ t.live;
        out = lists j (ap (λ (y : View). y.out) is ∙ t.out) ne;
      })
      (λ n. record {
        word = get_or-set_other s.words k j x 0 (λ q. ne (omega arith)) ∙ t.word;
        away = same j ne ∙ t.away;
        view = t.view;
        there = ap (get_elem? (set s.views id w)) (own j ne) ∙ set_else s.views id (h.owner j) w n ∙ t.there;
        live = t.live;
        out = t.out;
      })))
      (h.each_slot j inside_j)

put : (ℕ → ℕ) → ℕ → ℕ → ℕ → ℕ
put f k y j = either (eqb j k) y (f j)

put_here : (f : ℕ → ℕ) (k y : ℕ) → put f k y k ≡ y
unfolding put
put_here f k y = ap (λ t. either t y (f k)) (eq-eqb k k refl)

put_else : (f : ℕ → ℕ) (k y j : ℕ) → j ≢ k → put f k y j ≡ f j
unfolding put
put_else f k y j n = ap (λ t. either t y (f j)) (ne_eqb j k n)

-- ---- try

-- the turn is won
pub wins : (braid : BraidValue) (s : Tableau) (h : Holds braid s) (id : ℕ) (v : View) → get_elem? s.views id ≡ some v → v.live ≡ true → v.out ≡ None → (k : ℕ) → k < h.slots → (f : IsFree braid s k)
    → Holds braid record { words = set s.words k 1; homes = set s.homes k none; views = set s.views id (won_view k f.entry v) }
wins braid s h id v at live none_out k inside f =
    let w : View = won_view k f.entry v in
    let after : Tableau = record { words = set s.words k 1; homes = set s.homes k none; views = set s.views id w } in
    let one : get_or (set s.words k 1) k 0 ≡ 1 = get_or-set_same s.words k 1 0 (let d = h.wide in omega arith) in
    record {
      slots = h.slots;
      owner = put h.owner k id;
      wide = length-set s.words k 1 ∙ h.wide;
      deep = length-set s.homes k none ∙ h.deep;
      each_slot = λ j inside_j. dite (ℕ_discrete j k)
          (λ e. inr (subst (λ i. IsHeldBy after (put h.owner k id i) i) (sym e)
          record { word = one; away = set_here s.homes k none (let d = h.deep in omega arith); view = w; there = ap (get_elem? (set s.views id w)) (put_here h.owner k id) ∙ set_here s.views id w (inside_of s.views id v at); live = live; out = refl }))
          (λ ne. others_stay braid s h id v at k 1 (set s.homes k none) w refl (λ i n. set_else s.homes k i none n) (λ i o _. absurd (none_some i (sym none_out ∙ o))) (put h.owner k id) (λ i n. put_else h.owner k id i n) j inside_j ne);
      each_seat = λ j u there. ⊎_elim
          (λ (t : (j ≡ id) × (w ≡ u)).
          let is : (i : ℕ) → u.out ≡ Some i → k ≡ i = λ i o. same_some k i (ap (λ (y : View). y.out) t.1 ∙ o) in
          record {
            braid_is = λ l. ap (λ (y : View). y.braid) (sym t.1) ∙ (h.each_seat id v at).braid_is (ap (λ (y : View). y.live) t.1 ∙ l);
            inside = λ i o. subst (λ z. z < h.slots) (is i o) inside;
            alone = λ i o. ap (put h.owner k id) (sym (is i o)) ∙ put_here h.owner k id ∙ sym t.0;
            held = λ i o. ap (λ z. get_or (set s.words k 1) z 0) (sym (is i o)) ∙ one;
          })
          (λ (t : (j ≢ id) × (get_elem? s.views j ≡ some u)).
          let r = h.each_seat j u t.1 in
          let ne : (i : ℕ) → u.out ≡ Some i → i ≢ k = λ i o e. absurd (let z : 0 ≡ 1 = sym f.word ∙ ap (λ y. get_or s.words y 0) (sym e) ∙ r.held i o in omega arith) in
          record {
            braid_is = r.braid_is;
            inside = r.inside;
            alone = λ i o. put_else h.owner k id i (ne i o) ∙ r.alone i o;
            held = λ i o. get_or-set_other s.words k i 1 0 (λ e. ne i o (omega arith)) ∙ r.held i o;
          })
          (at_set s.views id j w u there);
    }

-- a step that changes only what the seat notes
pub unchanged : (braid : BraidValue) (s : Tableau) (h : Holds braid s) (id : ℕ) (v w : View) → get_elem? s.views id ≡ some v → w.live ≡ v.live → w.braid ≡ v.braid → w.out ≡ v.out
    → Holds braid record { words = s.words; homes = s.homes; views = set s.views id w }
unchanged braid s h id v w at live same out = record {
  slots = h.slots;
  owner = h.owner;
  wide = h.wide;
  deep = h.deep;
  each_slot = λ k inside. ⊎_elim
      (λ (f : IsFree braid s k). inl record { word = f.word; entry = f.entry; home = f.home; right = f.right })
      (λ (t : IsHeldBy s (h.owner k) k). inr (dite (ℕ_discrete (h.owner k) id)
      (λ e.
      let is : v ≡ t.view = some-injective v t.view (sym at ∙ ap (get_elem? s.views) (sym e) ∙ t.there) in
      record {
        word = t.word;
        away = t.away;
        view = w;
        there = ap (get_elem? (set s.views id w)) e ∙ set_here s.views id w (inside_of s.views id v at);
        live = live ∙ ap (λ (y : View). y.live) is ∙ t.live;
        out = out ∙ ap (λ (y : View). y.out) is ∙ t.out;
      })
      (λ n. record { word = t.word; away = t.away; view = t.view; there = set_else s.views id (h.owner k) w n ∙ t.there; live = t.live; out = t.out })))
      (h.each_slot k inside);
  each_seat = λ j u there. ⊎_elim
      (λ (t : (j ≡ id) × (w ≡ u)).
      let r = h.each_seat id v at in
      let was : (k : ℕ) → u.out ≡ Some k → v.out ≡ Some k = λ k o. sym out ∙ ap (λ (y : View). y.out) t.1 ∙ o in
      record {
        braid_is = λ l. ap (λ (y : View). y.braid) (sym t.1) ∙ same ∙ r.braid_is (sym live ∙ ap (λ (y : View). y.live) t.1 ∙ l);
        inside = λ k o. r.inside k (was k o);
        alone = λ k o. r.alone k (was k o) ∙ sym t.0;
        held = λ k o. r.held k (was k o);
      })
      (λ (t : (j ≢ id) × (get_elem? s.views j ≡ some u)). let r = h.each_seat j u t.1 in record { braid_is = r.braid_is; inside = r.inside; alone = r.alone; held = r.held })
      (at_set s.views id j w u there);
}

-- a try that is lost
pub loses : (braid : BraidValue) (s : Tableau) (h : Holds braid s) (id : ℕ) (v : View) → get_elem? s.views id ≡ some v → (k found : ℕ)
    → Holds braid record { words = s.words; homes = s.homes; views = set s.views id (lost_view k found v) }
loses braid s h id v at k found = unchanged braid s h id v (lost_view k found v) at refl refl refl

-- ---- back

-- the turn is given back
pub ends : (braid : BraidValue) (s : Tableau) (h : Holds braid s) (id : ℕ) (v : View) → get_elem? s.views id ≡ some v → (k : ℕ) → v.out ≡ Some k → (x : Option Entry) → IsRight braid x → (found : ℕ)
    → Holds braid record { words = set s.words k 0; homes = set s.homes k (some x); views = set s.views id (back_view k x found v) }
ends braid s h id v at k out x right found =
    let mine = h.each_seat id v at in
    let inside : k < h.slots = mine.inside k out in
    let w : View = back_view k x found v in
    let after : Tableau = record { words = set s.words k 0; homes = set s.homes k (some x); views = set s.views id w } in
    record {
      slots = h.slots;
      owner = h.owner;
      wide = length-set s.words k 0 ∙ h.wide;
      deep = length-set s.homes k (some x) ∙ h.deep;
      each_slot = λ j inside_j. dite (ℕ_discrete j k)
          (λ e. inl (subst (IsFree braid after) (sym e)
          record { word = get_or-set_same s.words k 0 0 (let d = h.wide in omega arith); entry = x; home = set_here s.homes k (some x) (let d = h.deep in omega arith); right = right }))
          (λ ne. others_stay braid s h id v at k 0 (set s.homes k (some x)) w refl (λ i n. set_else s.homes k i (some x) n) (λ i o n. absurd (n (same_some i k (sym o ∙ out)))) h.owner (λ i n. refl) j inside_j ne);
      each_seat = λ j u there. ⊎_elim
          (λ (t : (j ≡ id) × (w ≡ u)).
          let none : (i : ℕ) → u.out ≡ Some i → ⊥ = λ i o. none_some i (ap (λ (y : View). y.out) t.1 ∙ o) in
          record {
            braid_is = λ l. ap (λ (y : View). y.braid) (sym t.1) ∙ mine.braid_is (ap (λ (y : View). y.live) t.1 ∙ l);
            inside = λ i o. absurd (none i o);
            alone = λ i o. absurd (none i o);
            held = λ i o. absurd (none i o);
          })
          (λ (t : (j ≢ id) × (get_elem? s.views j ≡ some u)).
          let r = h.each_seat j u t.1 in
          let ne : (i : ℕ) → u.out ≡ Some i → i ≢ k = λ i o e. t.0 (sym (r.alone i o) ∙ ap h.owner e ∙ mine.alone k out) in
          record {
            braid_is = r.braid_is;
            inside = r.inside;
            alone = r.alone;
            held = λ i o. get_or-set_other s.words k i 0 0 (λ e. ne i o (omega arith)) ∙ r.held i o;
          })
          (at_set s.views id j w u there);
    }

-- ---- the two kinds of step on words

pub try_allowed : (braid : BraidValue) (slots id : ℕ) (me : Me (Option Entry) View) (k : ℕ) → k < slots → me.0.live ≡ true → me.0.out ≡ None
    → Allows (Holds braid) slots id me k (λ x. either (eqb x 0) 1 x) (try_step (step slots k 0 1 none) me)
try_allowed braid slots id me k inside live none_out s h deep at word =
    let in_k : k < h.slots = let d = h.deep in omega arith in
    let v = me.0 in
    ⊎_elim
    (λ (f : IsFree braid s k).
    let b = (h.each_seat id v at).braid_is live in
    subst (λ n. (w : View) × (a : Act (Option Entry)) × Valid s.homes me.1 a × Holds braid (stepped s k (either (eqb n 0) 1 n) id me.1 w a) × try_step (step slots k 0 1 none) me n (w, carried_after me.1 a)) (sym f.word)
    (won_view k f.entry v, takes k f.entry, f.home, wins braid s h id v at live none_out k in_k f, ((λ _. (f.entry, subst (λ z. IsRight z f.entry) (sym b) f.right, refl)), (λ n. absurd (n refl)))))
    (λ (t : IsHeldBy s (h.owner k) k).
    let x = get_or s.words k 0 in
    let nz : x ≢ 0 = λ e. absurd (let z : 0 ≡ 1 = sym e ∙ t.word in omega arith) in
    (lost_view k x v, keeps, tt, subst (λ (ws : List ℕ). Holds braid record { words = ws; homes = s.homes; views = set s.views id (lost_view k x v) }) (sym (ap (set s.words k) (ap (λ q. either q 1 x) (ne_eqb x 0 nz)) ∙ lib.Seq.set-get_or s.words k 0)) (loses braid s h id v at k x), ((λ e. absurd (nz e)), (λ _. refl))))
    (h.each_slot k in_k)

pub back_allowed : (braid : BraidValue) (slots id : ℕ) (me : Me (Option Entry) View) (k : ℕ) (x : Option Entry) → me.0.out ≡ Some k → me.1 ≡ (k, x) ∷ [] → me.0.live ≡ true → IsRight me.0.braid x
    → Allows (Holds braid) slots id me k (λ _. 0) (back_step (step slots k 0 0 none) me)
back_allowed braid slots id me k x out carried live right s h deep at word =
    let b = (h.each_seat id me.0 at).braid_is live in
    let found = get_or s.words k 0 in (
      back_view k (entry_out me.1) found me.0,
      gives,
      tt,
      subst (λ (c : List (ℕ × Option Entry)). Holds braid (stepped s k 0 id c (back_view k (entry_out c) found me.0) gives)) (sym carried) (ends braid s h id me.0 at k out x (subst (λ z. IsRight z x) b right) found),
      refl,
    )

-- ---- split and join

-- there is one seat more
pub longer : (braid : BraidValue) (s : Tableau) → Holds braid s → (id : ℕ) (v : View) → get_elem? s.views id ≡ some v → v.live ≡ true
    → Holds braid record { words = s.words; homes = s.homes; views = s.views ++ newcomer v ∷ [] }
longer braid s h id v at live = record {
  slots = h.slots;
  owner = h.owner;
  wide = h.wide;
  deep = h.deep;
  each_slot = λ k inside. ⊎_elim
      (λ (f : IsFree braid s k). inl record { word = f.word; entry = f.entry; home = f.home; right = f.right })
      (λ (t : IsHeldBy s (h.owner k) k). inr record { word = t.word; away = t.away; view = t.view; there = at_longer s.views (newcomer v ∷ []) (h.owner k) t.view t.there; live = t.live; out = t.out }) (h.each_slot k inside);
  each_seat = λ j u there. ⊎_elim
      (λ e. let r = h.each_seat j u e in record { braid_is = r.braid_is; inside = r.inside; alone = r.alone; held = r.held })
      (λ (e : newcomer v ≡ u).
      let none : (k : ℕ) → u.out ≡ Some k → ⊥ = λ k o. none_some k (ap (λ (y : View). y.out) e ∙ o) in
      record { braid_is = λ _. ap (λ (y : View). y.braid) (sym e) ∙ (h.each_seat id v at).braid_is live; inside = λ k o. absurd (none k o); alone = λ k o. absurd (none k o); held = λ k o. absurd (none k o) })
      (at_snoc s.views (newcomer v) u j there);
}

pub splits : (braid : BraidValue) (id : ℕ) (v : View) → v.live ≡ true → Splits (Holds braid) id v v (newcomer v)
splits braid id v live s h at = subst (λ (vs : List View). Holds braid record { words = s.words; homes = s.homes; views = vs ++ newcomer v ∷ [] }) (sym (set_again s.views id v at)) (longer braid s h id v at live)

-- a seat that has no slot out is one no more
pub leaves : (braid : BraidValue) (s : Tableau) → Holds braid s → (other : ℕ) (u : View) → get_elem? s.views other ≡ some u → u.out ≡ None
    → Holds braid record { words = s.words; homes = s.homes; views = set s.views other spent_view }
leaves braid s h o u there idle = record {
  slots = h.slots;
  owner = h.owner;
  wide = h.wide;
  deep = h.deep;
  each_slot = λ k inside. ⊎_elim
      (λ (f : IsFree braid s k). inl record { word = f.word; entry = f.entry; home = f.home; right = f.right })
      (λ (t : IsHeldBy s (h.owner k) k). inr record {
        word = t.word;
        away = t.away;
        view = t.view;
        there = set_else s.views o (h.owner k) spent_view (λ e. none_some k (sym idle ∙ ap (λ (y : View). y.out) (some-injective u t.view (sym there ∙ ap (get_elem? s.views) (sym e) ∙ t.there)) ∙ t.out)) ∙ t.there;
        live = t.live;
        out = t.out;
      }) (h.each_slot k inside);
  each_seat = λ j x e. ⊎_elim
      (λ (t : (j ≡ o) × (spent_view ≡ x)).
      let none : (k : ℕ) → x.out ≡ Some k → ⊥ = λ k q. none_some k (ap (λ (y : View). y.out) t.1 ∙ q) in
      record { braid_is = λ l. absurd (true≢false (sym l ∙ ap (λ (y : View). y.live) (sym t.1))); inside = λ k q. absurd (none k q); alone = λ k q. absurd (none k q); held = λ k q. absurd (none k q) })
      (λ (t : (j ≢ o) × (get_elem? s.views j ≡ some x)). let r = h.each_seat j x t.1 in record { braid_is = r.braid_is; inside = r.inside; alone = r.alone; held = r.held }) (at_set s.views o j spent_view x e);
}

pub joins : (braid : BraidValue) (id : ℕ) (v : View) (o : ℕ) (u : View) → u.out ≡ None → Joins (Holds braid) id v o u v spent_view
joins braid id v o u idle s h at apart there =
    subst (λ (vs : List View). Holds braid record { words = s.words; homes = s.homes; views = set vs o spent_view }) (sym (set_again s.views id v at))
    (leaves braid s h o u (sym (ap (λ (vs : List View). get_elem? vs o) (set_again s.views id v at)) ∙ there) idle)

-- ---- start

all_free : (n i : ℕ) → get_or (replicate {A = ℕ} n 0) i 0 ≡ 0
all_free zero i = refl
all_free (suc n) zero = refl
all_free (suc n) (suc i) = all_free n i

all_empty : (n i : ℕ) → i < n → get_elem? (map some (replicate {A = Option Entry} n None)) i ≡ some (some None)
all_empty zero i h = absurd (omega arith)
all_empty (suc n) zero h = refl
all_empty (suc n) (suc i) h = all_empty n i (omega arith)

pub opens : (braid : BraidValue) (slots : ℕ) → Holds braid (opening (replicate slots 0) (replicate slots None) (first_view braid))
opens braid slots = record {
  slots = slots;
  owner = λ _. 0;
  wide = length-replicate {A = ℕ} slots 0;
  deep = length-map (replicate slots None) (λ (x : Option Entry). some x) ∙ length-replicate {A = Option Entry} slots None;
  each_slot = λ k inside. inl record { word = all_free slots k; entry = None; home = all_empty slots k inside; right = tt };
  each_seat = one;
}
  where
    one : (j : ℕ) (v : View) → get_elem? (first_view braid ∷ []) j ≡ some v → IsKept braid (opening (replicate slots 0) (replicate slots None) (first_view braid)) slots (λ _. 0) j v
    one zero v e =
        let i = some-injective (first_view braid) v e in
        let none : (k : ℕ) → v.out ≡ Some k → ⊥ = λ k o. none_some k (ap (λ (y : View). y.out) i ∙ o) in
        record { braid_is = λ _. ap (λ (y : View). y.braid) (sym i); inside = λ k o. absurd (none k o); alone = λ k o. absurd (none k o); held = λ k o. absurd (none k o) }
    one (suc j) v e = absurd (some-ne-none v (sym e))
