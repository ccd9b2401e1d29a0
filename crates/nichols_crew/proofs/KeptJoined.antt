-- The lists of two passes make up that of the pass that they are joined into; and values in block order.
use Rattle.std.proofs.Common.{◌≡◌, ℕ, ◌+◌, ◌<◌, ◌≤◌, Bool, true, false, cond, eqb, List, [], ◌∷◌, ◌++◌, map, refl, sym, ap, ◌∙◌, subst, ⊎_elim, eq-eqb, arith, Option, Some, None, lt_of_not-le}
use Rattle.std.specs.List.{AllByRecursion}
use Rattle.std.proofs.lemmas.List.{map-append}
use Rattle.std.proofs.lemmas.Bool.{or_left, or_right, or_cases, or_from}
use native.Mathlib.Decide.{dec_le}
use Rattle.nichols_tensor.proofs.Over.{all-append}
use Rattle.nichols_value.specs.Worth.{worth}
use Rattle.nichols_value.specs.declared.value.BlockValue.{BlockValue}
use Rattle.nichols_shelf.specs.Plan.{PlanValue}
use Rattle.nichols_shelf.specs.Lists.{is_in, times_in, noted_value}
use Rattle.nichols_shelf.specs.Places.{blocks, edge}
use Rattle.nichols_shelf.specs.Views.{joined_view}
use Rattle.nichols_shelf.specs.Settled.{IsSettled, OwesNothing}
use Rattle.nichols_shelf.specs.declared.view.View.{View}
use Rattle.nichols_shelf.proofs.Listed.{is_in-append, noted_either, times_in-append}
use Rattle.nichols_crew.specs.Hands.{IsKeptIfOnce}
use Rattle.nichols_crew.specs.Kept.{IsGood, IsKept}
use Rattle.nichols_crew.specs.declared.made.Made.{Made}
use Rattle.nichols_crew.proofs.KeptLists.{some_times}

noted_first : (k : ℕ) (x : BlockValue) (xs ys : List (ℕ × BlockValue)) → noted_value k xs ≡ Some x → noted_value k (xs ++ ys) ≡ Some x
noted_first k x [] ys h = absurd (cc)
noted_first k x (y ∷ xs) ys h = at (eqb k y.0) h (noted_first k x xs ys)
  where
    at : (t : Bool) → cond t (Some y.1) (noted_value k xs) ≡ Some x → (noted_value k xs ≡ Some x → noted_value k (xs ++ ys) ≡ Some x) → cond t (Some y.1) (noted_value k (xs ++ ys)) ≡ Some x
    at true h more = h
    at false h more = more h

noted_second : (k : ℕ) (xs ys : List (ℕ × BlockValue)) → noted_value k xs ≡ None → noted_value k (xs ++ ys) ≡ noted_value k ys
noted_second k [] ys h = refl
noted_second k (y ∷ xs) ys h = at (eqb k y.0) h (noted_second k xs ys)
  where
    at : (t : Bool) → cond t (Some y.1) (noted_value k xs) ≡ None → (noted_value k xs ≡ None → noted_value k (xs ++ ys) ≡ noted_value k ys) → cond t (Some y.1) (noted_value k (xs ++ ys)) ≡ noted_value k ys
    at true h more = absurd (cc)
    at false h more = more h

unnoted : (o : Option BlockValue) → ((x : BlockValue) → o ≡ Some x → ⊥) → o ≡ None
unnoted None h = refl
unnoted (Some x) h = absurd (h x refl)

pub kept_joined : (g : PlanValue) (v u : View) (xs ys : List Made) → IsKept g v xs → IsKept g u ys → ((b : ℕ) → times_in b (v.made ++ u.made) ≤ 1) → IsKept g (joined_view v u) (xs ++ ys)
kept_joined g v u xs ys k l once = record {
  names = map-append (λ (m : Made). m.block) xs ys ∙ ap (λ bs. bs ++ map (λ (m : Made). m.block) ys) k.names ∙ ap (λ bs. v.made ++ bs) l.names;
  once = once;
  inside = λ b there. ⊎_elim (λ h. k.inside b h) (λ h. l.inside b h) (or_cases (is_in b v.made) (is_in b u.made) (sym (is_in-append b v.made u.made) ∙ there));
  values = all-append (IsGood g (joined_view v u)) xs ys (left xs k.values) (right ys (λ c h. ap (is_in c) (sym l.names) ∙ h) l.values);
  own = λ j x h. is_in-append (edge g j).lower v.made u.made ∙ ⊎_elim (λ p. or_left (is_in (edge g j).lower v.made) (is_in (edge g j).lower u.made) (k.own j x p))
      (λ p. or_right (is_in (edge g j).lower v.made) (is_in (edge g j).lower u.made) (l.own j x p)) (noted_either j v.laid u.laid x h);
}
  where
    left : (ms : List Made) → AllByRecursion (IsGood g v) ms → AllByRecursion (IsGood g (joined_view v u)) ms
    left [] h = tt
    left (m ∷ ms) h = (record { right = h.0.right; laid = λ j in_j low. noted_first j (worth m.value) v.laid u.laid (h.0.laid j in_j low) }, left ms h.1)

    twice : (b : ℕ) → is_in b v.made ≡ true → is_in b u.made ≡ true → ⊥
    twice b p q = let s = some_times b v.made p in let t = some_times b u.made q in let o = once b in let sum = times_in-append b v.made u.made in omega (arith, s, t, o, sum)

    right : (ms : List Made) → ((c : ℕ) → is_in c (map (λ (m : Made). m.block) ms) ≡ true → is_in c u.made ≡ true) → AllByRecursion (IsGood g u) ms → AllByRecursion (IsGood g (joined_view v u)) ms
    right [] within h = tt
    right (m ∷ ms) within h =
        let here = within m.block (or_left (eqb m.block m.block) (is_in m.block (map (λ (n : Made). n.block) ms)) (eq-eqb m.block m.block refl)) in (
          record {
            right = h.0.right;
            laid = λ j in_j low. noted_second j v.laid u.laid (unnoted (noted_value j v.laid) (λ x is. twice m.block (ap (λ b. is_in b v.made) (sym low) ∙ k.own j x is) here)) ∙ h.0.laid j in_j low;
          },
          right ms (λ c there. within c (or_right (eqb c m.block) (is_in c (map (λ (n : Made). n.block) ms)) there)) h.1,
        )

-- the same, where it is known that each block was made once only in the end
pub if_once_joined : (g : PlanValue) (v u w : View) (xs ys zs : List Made) → IsKeptIfOnce g v xs → IsKept g u ys → w ≡ joined_view v u → zs ≡ xs ++ ys → IsKeptIfOnce g w zs
if_once_joined g v u w xs ys zs k l view all once =
    let both : (b : ℕ) → times_in b (v.made ++ u.made) ≤ 1 = λ b. subst (λ (x : View). times_in b x.made ≤ 1) view (once b) in
    subst (λ (x : View). IsKept g x zs) (sym view) (subst (IsKept g (joined_view v u)) (sym all)
    (kept_joined g v u xs ys (k (λ b. let o = both b in let sum = times_in-append b v.made u.made in omega (arith, o, sum))) l both))

pub owes_joined : (v u w : View) → v.plan ≡ u.plan → OwesNothing v → OwesNothing u → w ≡ joined_view v u → OwesNothing w
owes_joined v u w plan p q view b inside =
    let in_v : b < blocks v.plan = subst (λ (x : View). b < blocks x.plan) view inside in
    ap (λ (x : View). is_in b x.owed) view ∙ is_in-append b v.owed u.owed ∙ or_from (is_in b v.owed) (is_in b u.owed) (p b in_v) (q b (subst (λ (g : PlanValue). b < blocks g) plan in_v))

-- each block was made once, and nothing else was
pub all_once : (g : PlanValue) (v : View) → IsSettled g v → OwesNothing v → (b : ℕ) → times_in b v.made ≤ 1
all_once g v settled owes b = elim (dec_le (blocks g) b) [
  | yes beyond ↦ let none = settled.nothing_else b beyond in omega (arith, none)
  | no inside ↦ let one = settled.all owes b (lt_of_not-le inside) in omega (arith, one)
]
