-- Hands after their work; and the values in block order.
use Rattle.std.proofs.Common.{◌≡◌, ◌≢◌, ◌⊎◌, ℕ, suc, ◌+◌, ◌-◌, ◌<◌, Bool, true, false, true≢false, eqb, ◌||◌, List, [], ◌∷◌, ◌++◌, All, length, map, take, get_or, set, replicate, refl, sym, ap, ◌∙◌, subst, inl, inr, ⊎_elim, eq-eqb, ne_eqb, arith, Some, get_or-set_other, get_or-set_same, length-set, length-append, drop}
use Rattle.std.specs.List.{AllByRecursion}
use Rattle.std.proofs.lemmas.List.{get_or-take, get_or_append_left}
use Rattle.std.proofs.lemmas.List.Elements.{All-push, All-same}
use Rattle.std.proofs.Math.Seq.{get_or-append_seam, take-append_seam}
use lib.ListN.{length-replicate}
use mathlib.Core.Logic.{dite}
use native.Mathlib.Decide.{ℕ_discrete}
use Rattle.nichols_value.specs.Worth.{worth}
use Rattle.nichols_value.specs.declared.shared.Shared.{Shared}
use Rattle.nichols_value.specs.declared.shared.Shared.TheVariants as variant
use Rattle.nichols_core.specs.Layout.{IsLayout}
use Rattle.nichols_shelf.specs.Plan.{PlanValue, IsRightFor}
use Rattle.nichols_shelf.specs.Lists.{is_in, times_in, noted_value}
use Rattle.nichols_shelf.specs.Passes.{view_of}
use Rattle.nichols_shelf.specs.Places.{blocks, edges, edge}
use Rattle.nichols_shelf.specs.declared.shelf.Shelf.{Shelf}
use Rattle.nichols_shelf.specs.declared.view.View.{View}
use Rattle.nichols_shelf.proofs.Edges.{placed}
use Rattle.nichols_crew.specs.Hands.{AreAnswered, AreFresh, AreHands, HasWorked, IsReadyHand, written}
use Rattle.nichols_crew.specs.Kept.{IsGood, IsKept}
use Rattle.nichols_crew.specs.declared.hand.Hand.{Hand}
use Rattle.nichols_crew.specs.declared.made.Made.{Made}
use Rattle.nichols_crew.proofs.KeptLists.{times_in-cons}

-- ---- hands

pub has_worked : (s : Shelf) (g h : Hand) → HasWorked s g h → HasWorked s h h
has_worked s g h w = record { of_shelf = w.of_shelf; numbers = (refl, refl, refl); holds = w.holds; resumes = w.resumes; owes = w.owes; kept = w.kept }

pub are_hands : (s : Shelf) (k : ℕ) (hs : List Hand) → ((i : ℕ) (d : Hand) → i < length hs → HasWorked s (get_or hs i d) (get_or hs i d) × ((view_of (get_or hs i d).pass).worker ≡ k + i)) → AreHands s k hs
are_hands s k [] each = tt
are_hands s k (h ∷ hs) each =
    let first = each 0 h (omega arith) in (
      first.0,
      first.1 ∙ omega arith,
      are_hands s (suc k) hs (λ i d less. let e = each (suc i) d (omega (arith, less)) in (e.0, e.1 ∙ omega arith)),
    )

pub number_more : (hs new : List Hand) (h : Hand) → ((i : ℕ) (d : Hand) → i < length hs → (view_of (get_or hs i d).pass).worker ≡ i + 1) → (view_of h.pass).worker ≡ length hs + 1 → new ≡ hs ++ h ∷ []
    → (i : ℕ) (d : Hand) → i < length new → (view_of (get_or new i d).pass).worker ≡ i + 1
number_more hs new h before number is i d less =
    let size : length new ≡ length hs + 1 = ap (λ (l : List Hand). length l) is ∙ length-append hs (h ∷ []) in
    ap (λ (l : List Hand). (view_of (get_or l i d).pass).worker) is
    ∙ dite (ℕ_discrete i (length hs))
    (λ e. ap (λ k. (view_of (get_or (hs ++ h ∷ []) k d).pass).worker) e ∙ ap (λ (x : Hand). (view_of x.pass).worker) (get_or-append_seam hs h [] d) ∙ number ∙ ap (λ k. k + 1) (sym e))
    (λ ne. let l : i < length hs = omega (arith, ne, less, size) in ap (λ (x : Hand). (view_of x.pass).worker) (get_or_append_left hs (h ∷ []) d i l) ∙ before i d l)

pub fresh_hands : (s : Shelf) (n : ℕ) (hs new : List Hand) (h : Hand) → new ≡ hs ++ h ∷ [] → length hs + 1 ≡ n → All (λ x. IsReadyHand s x) hs → IsReadyHand s h → ((i : ℕ) (d : Hand) → i < length hs → (view_of (get_or hs i d).pass).worker ≡ i + 1)
    → (view_of h.pass).worker ≡ 0 → (view_of h.pass).joined ≡ 1 → (view_of h.pass).passes ≡ n → AreFresh s n new
fresh_hands s n hs new h is count ready last numbers zeroth joined passes =
    let last_is : (d : Hand) → get_or new (n - 1) d ≡ h =
    λ d. ap (λ (l : List Hand). get_or l (n - 1) d) is ∙ ap (λ k. get_or (hs ++ h ∷ []) k d) (minus n (length hs) count) ∙ get_or-append_seam hs h [] d in
    record {
      count = ap (λ (l : List Hand). length l) is ∙ length-append hs (h ∷ []) ∙ count;
      ready = All-same (λ (x : Hand). IsReadyHand s x) new (hs ++ h ∷ []) is (All-push (λ (x : Hand). IsReadyHand s x) hs h ready last);
      numbers = λ i d less. ap (λ (l : List Hand). (view_of (get_or l i d).pass).worker) is
          ∙ (let l : i < length hs = omega (arith, less, count) in ap (λ (x : Hand). (view_of x.pass).worker) (get_or_append_left hs (h ∷ []) d i l) ∙ numbers i d l);
      zeroth = λ d. ap (λ (x : Hand). (view_of x.pass).worker) (last_is d) ∙ zeroth;
      joined = λ d. ap (λ (x : Hand). (view_of x.pass).joined) (last_is d) ∙ joined;
      passes = λ d. ap (λ (x : Hand). (view_of x.pass).passes) (last_is d) ∙ passes;
    }
  where
    minus : (n k : ℕ) → k + 1 ≡ n → n - 1 ≡ k
    minus n k e = omega (arith, e)

pub others_worked : (s : Shelf) (n : ℕ) (xs ys zs : List Hand) → AreFresh s n xs → ((i : ℕ) (d : Hand) → i < length xs → HasWorked s (get_or xs i d) (get_or ys i d)) → length zs + 1 ≡ n → zs ≡ take (length zs) ys → AreHands s 1 zs
others_worked s n xs ys zs fresh each size is =
    are_hands s 1 zs (λ i d less.
    let e : get_or zs i d ≡ get_or ys i d = ap (λ (l : List Hand). get_or l i d) is ∙ get_or-take (length zs) ys i d less in
    let count = fresh.count in
    let w = each i d (omega (arith, less, size, count)) in (
      subst (λ (h : Hand). HasWorked s h h) (sym e) (has_worked s (get_or xs i d) (get_or ys i d) w),
      ap (λ (h : Hand). (view_of h.pass).worker) e ∙ w.numbers.0 ∙ fresh.numbers i d (omega (arith, less, size)) ∙ omega arith,
    ))

-- a list that was lent as a slice, without its last entry
pub without_last : (len : ℕ) (ys xs zs : List Hand) → length ys ≡ len → zs ≡ take (len - 1) (take len (ys ++ drop (length ys) xs)) → length zs + 1 ≡ len → zs ≡ take (length zs) ys
without_last len ys xs zs size is count =
    let whole : take len (ys ++ drop (length ys) xs) ≡ ys = ap (λ k. take k (ys ++ drop (length ys) xs)) (sym size) ∙ take-append_seam ys (drop (length ys) xs) in
    is ∙ ap (take (len - 1)) whole ∙ ap (λ k. take k ys) (minus len (length zs) count)
  where
    minus : (n k : ℕ) → k + 1 ≡ n → n - 1 ≡ k
    minus n k e = omega (arith, e)

-- ---- values

-- what is said of each entry holds of the place of each block that is named
pub written_at : (P : ℕ → Shared → Type 0) (n : ℕ) (xs : List Shared) (ms : List Made) → length xs ≡ n → AllByRecursion (λ (m : Made). m.block < n) ms → AllByRecursion (λ (m : Made). P m.block m.value) ms
    → (b : ℕ) (d : Shared) → b < n → (is_in b (map (λ (m : Made). m.block) ms) ≡ true) ⊎ P b (get_or xs b d) → P b (get_or (written xs ms) b d)
written_at P n xs [] size within good b d inside h = ⊎_elim (λ q. absurd (true≢false (sym q))) (λ q. q) h
written_at P n xs (m ∷ ms) size within good b d inside h =
    written_at P n (set xs m.block m.value) ms (length-set xs m.block m.value ∙ size) within.1 good.1 b d inside
    (dite (ℕ_discrete b m.block)
    (λ e. inr (subst (λ x. P b x) (sym (get_or-set_same-at e)) (subst (λ c. P c m.value) (sym e) good.0)))
    (λ ne. ⊎_elim (λ q. inl (named (eqb b m.block) (ne_eqb b m.block ne) q)) (λ q. inr (subst (λ x. P b x) (sym (get_or-set_other xs m.block b m.value d ne)) q)) h))
  where
    get_or-set_same-at : b ≡ m.block → get_or (set xs m.block m.value) b d ≡ m.value
    get_or-set_same-at e = ap (λ c. get_or (set xs m.block m.value) c d) e ∙ get_or-set_same xs m.block m.value d (subst (λ k. m.block < k) (sym size) within.0)

    named : (t : Bool) → t ≡ false → (t || is_in b (map (λ (x : Made). x.block) ms)) ≡ true → is_in b (map (λ (x : Made). x.block) ms) ≡ true
    named true e q = absurd (true≢false e)
    named false e q = q

pub size_written : (xs : List Shared) (ms : List Made) → length (written xs ms) ≡ length xs
size_written xs [] = refl
size_written xs (m ∷ ms) = size_written (set xs m.block m.value) ms ∙ length-set xs m.block m.value

some_in : (b : ℕ) (xs : List ℕ) → times_in b xs ≡ 1 → is_in b xs ≡ true
some_in b [] h = absurd (omega (arith, h))
some_in b (x ∷ xs) h = at (eqb b x) refl (sym (times_in-cons b x xs) ∙ h) (some_in b xs)
  where
    at : (t : Bool) → eqb b x ≡ t → Rattle.std.proofs.Common.cond t 1 0 + times_in b xs ≡ 1 → (times_in b xs ≡ 1 → is_in b xs ≡ true) → (t || is_in b xs) ≡ true
    at true e n rest = refl
    at false e n rest = rest (omega (arith, n))

pub entries_inside : (g : PlanValue) (v : View) (made : List Made) → IsKept g v made → AllByRecursion (λ (m : Made). m.block < blocks g) made
entries_inside g v made k = go made (λ c h. k.inside c (ap (is_in c) (sym k.names) ∙ h))
  where
    go : (ms : List Made) → ((c : ℕ) → is_in c (map (λ (m : Made). m.block) ms) ≡ true → c < blocks g) → AllByRecursion (λ (m : Made). m.block < blocks g) ms
    go [] h = tt
    go (m ∷ ms) h = (
      h m.block (Rattle.std.proofs.lemmas.Bool.or_left (eqb m.block m.block) (is_in m.block (map (λ (x : Made). x.block) ms)) (eq-eqb m.block m.block refl)),
      go ms (λ c there. h c (Rattle.std.proofs.lemmas.Bool.or_right (eqb c m.block) (is_in c (map (λ (x : Made). x.block) ms)) there)),
    )

-- a value of the block b: right for it, and laid at all edges out of it
record IsValueOf (g : PlanValue) (v : View) (b : ℕ) (x : Shared) : Type 0 where
  pub right : IsRightFor g b (worth x)
  pub laid : (k : ℕ) → k < edges g → (edge g k).lower ≡ b → noted_value k v.laid ≡ Some (worth x)

pub answered : (g : PlanValue) → IsLayout g.layout → (v : View) (made : List Made) (values : List Shared) → IsKept g v made → ((b : ℕ) → b < blocks g → times_in b v.made ≡ 1)
    → (n : ℕ) → n ≡ blocks g → values ≡ written (replicate {A = Shared} n variant.Starved) made → AreAnswered g v values
answered g rules v made values k all n size is = subst (AreAnswered g v) (sym is) record {
  count = size_written (replicate {A = Shared} n variant.Starved) made ∙ length-replicate n variant.Starved ∙ size;
  right = λ b d inside. (at b d inside).right;
  laid = λ j d in_j. (at (edge g j).lower d (placed g rules j in_j).lower).laid j in_j refl;
}
  where
    good : (ms : List Made) → AllByRecursion (IsGood g v) ms → AllByRecursion (λ (m : Made). IsValueOf g v m.block m.value) ms
    good [] h = tt
    good (m ∷ ms) h = (record { right = h.0.right; laid = h.0.laid }, good ms h.1)

    at : (b : ℕ) (d : Shared) → b < blocks g → IsValueOf g v b (get_or (written (replicate {A = Shared} n variant.Starved) made) b d)
    at b d inside =
        written_at (IsValueOf g v) (blocks g) (replicate {A = Shared} n variant.Starved) made (length-replicate n variant.Starved ∙ size) (entries_inside g v made k) (good made k.values) b d inside
        (inl (ap (is_in b) k.names ∙ some_in b v.made (all b inside)))
