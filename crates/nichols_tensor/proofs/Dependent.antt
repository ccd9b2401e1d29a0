-- More combinations than words: some linear combination of them, not with all coefficients 0, is 0 at each of the words.
use Rattle.std.proofs.Common.{◌≡◌, ◌≢◌, ℕ, suc, ◌+◌, ◌<◌, Bool, true, false, nat_eq, List, [], ◌∷◌, ◌++◌, map, length, refl, sym, ◌∙◌, ap, ap₂, subst, arith, ◌⊎◌, inl, inr, length-append}
use Rattle.std.specs.List.{AllByRecursion, Contains}
use Rattle.std.proofs.lemmas.Bool.Decides.{Decides-eqb}
use Rattle.std.proofs.lemmas.List.{length-map}
use Rattle.nichols_field.specs.Field.{FieldValue, IsField, IsElement, plus, times, negative}
use Rattle.nichols_field.proofs.FieldLaws.{plus_zero, plus_assoc, plus_comm, times_zero, times_assoc, times_comm, times_plus, zero_is_element, one_is_element, plus_is_element, opposite_sum, has_reciprocal}
use Rattle.nichols_field.proofs.FieldAlgebra.{zero_plus, zero_times, one_times, plus_times, swap_first, swap_middle}
use Rattle.nichols_tensor.specs.Combination.{Combination, value_at, scalar_multiple}
use Rattle.nichols_tensor.proofs.Entries.{contains_none, contains_cases}
use Rattle.nichols_tensor.proofs.Values.{value_is_element, value_at-append, value_at-scalar_multiple}
use Rattle.nichols_tensor.specs.Span.{weighted_sum}
use Rattle.nichols_tensor.proofs.Spans.{value_of_more}

-- ---- sums

pub sum_is_zero : (k : FieldValue) → IsField k → (cs : List ℕ) (fs : List Combination) (w : List ℕ) → AllByRecursion (λ f. value_at k f w ≡ 0) fs → value_at k (weighted_sum k cs fs) w ≡ 0
sum_is_zero k is [] [] w h = refl
sum_is_zero k is [] (f ∷ fs) w h = refl
sum_is_zero k is (c ∷ cs) [] w h = refl
sum_is_zero k is (c ∷ cs) (f ∷ fs) w h =
    value_of_more k is c f (weighted_sum k cs fs) w ∙ ap₂ (plus k) (ap (times k c) h.0 ∙ times_zero k c is) (sum_is_zero k is cs fs w h.1) ∙ plus_zero k 0 (zero_is_element k is)

zeros : List Combination → List ℕ
zeros [] = []
zeros (f ∷ fs) = 0 ∷ zeros fs

zeros_count : (fs : List Combination) → length (zeros fs) ≡ length fs
unfolding zeros
zeros_count [] = refl
zeros_count (f ∷ fs) = ap suc (zeros_count fs)

zeros_elements : (k : FieldValue) → IsField k → (fs : List Combination) → AllByRecursion (IsElement k) (zeros fs)
unfolding zeros
zeros_elements k is [] = tt
zeros_elements k is (f ∷ fs) = (zero_is_element k is, zeros_elements k is fs)

-- ---- one combination taken out of the others

-- a h f added to h, for each h
abbrev reduced : FieldValue → (Combination → ℕ) → Combination → List Combination → List Combination
reduced k a f hs = map (λ h. h ++ scalar_multiple k (a h) f) hs

shift : FieldValue → (Combination → ℕ) → List ℕ → List Combination → ℕ
shift k a (c ∷ cs) (h ∷ hs) = plus k (times k c (a h)) (shift k a cs hs)
shift k a _ _ = 0

shift_is_element : (k : FieldValue) → IsField k → (a : Combination → ℕ) (cs : List ℕ) (hs : List Combination) → IsElement k (shift k a cs hs)
unfolding shift
shift_is_element k is a [] [] = zero_is_element k is
shift_is_element k is a [] (h ∷ hs) = zero_is_element k is
shift_is_element k is a (c ∷ cs) [] = zero_is_element k is
shift_is_element k is a (c ∷ cs) (h ∷ hs) = plus_is_element k (times k c (a h)) (shift k a cs hs) is

-- c (h + a f) + (s f + r) as (c a + s) f + (c h + r), at a word
one_step : (k : FieldValue) → IsField k → (c h a f s r : ℕ) → plus k (times k c (plus k h (times k a f))) (plus k (times k s f) r) ≡ plus k (times k (plus k (times k c a) s) f) (plus k (times k c h) r)
one_step k is c h a f s r =
    ap (λ x. plus k x (plus k (times k s f) r)) (times_plus k c h (times k a f) ∙ plus_comm k (times k c h) (times k c (times k a f)) ∙ ap (λ x. plus k x (times k c h)) (sym (times_assoc k c a f)))
    ∙ swap_middle k (times k (times k c a) f) (times k c h) (times k s f) r
    ∙ ap (λ x. plus k x (plus k (times k c h) r)) (sym (plus_times k (times k c a) s f))

reduced_sum : (k : FieldValue) → IsField k → (a : Combination → ℕ) (f : Combination) (cs : List ℕ) (hs : List Combination) → length cs ≡ length hs → (w : List ℕ) →
    value_at k (weighted_sum k cs (reduced k a f hs)) w ≡ plus k (times k (shift k a cs hs) (value_at k f w)) (value_at k (weighted_sum k cs hs) w)
unfolding shift
reduced_sum k is a f [] [] e w = sym (ap (λ n. plus k n 0) (zero_times k (value_at k f w) is) ∙ plus_zero k 0 (zero_is_element k is))
reduced_sum k is a f [] (h ∷ hs) e w = absurd (omega arith)
reduced_sum k is a f (c ∷ cs) [] e w = absurd (omega arith)
reduced_sum k is a f (c ∷ cs) (h ∷ hs) e w =
    value_of_more k is c (h ++ scalar_multiple k (a h) f) (weighted_sum k cs (reduced k a f hs)) w
    ∙ ap₂ (λ x y. plus k (times k c x) y) (value_at-append k is h (scalar_multiple k (a h) f) w ∙ ap (plus k (value_at k h w)) (value_at-scalar_multiple k is (a h) f w)) (reduced_sum k is a f cs hs (omega arith) w)
    ∙ one_step k is c (value_at k h w) (a h) (value_at k f w) (shift k a cs hs) (value_at k (weighted_sum k cs hs) w)
    ∙ ap (plus k (times k (plus k (times k c (a h)) (shift k a cs hs)) (value_at k f w))) (sym (value_of_more k is c h (weighted_sum k cs hs) w))

-- coefficients for xs, f and ys that give what those for the others, reduced by f, give
record IsPutBack (k : FieldValue) (a : Combination → ℕ) (b : ℕ) (xs : List Combination) (f : Combination) (ys : List Combination) (cs ds : List ℕ) : Type 0 where
  count : length ds ≡ length (xs ++ f ∷ ys)
  elements : AllByRecursion (IsElement k) ds
  nontrivial : AllByRecursion (λ c. c ≡ 0) ds → AllByRecursion (λ c. c ≡ 0) cs
  values : (w : List ℕ) → value_at k (weighted_sum k ds (xs ++ f ∷ ys)) w ≡ plus k (times k b (value_at k f w)) (value_at k (weighted_sum k cs (reduced k a f (xs ++ ys))) w)

put_back : (k : FieldValue) → IsField k → (a : Combination → ℕ) (b : ℕ) (xs : List Combination) (f : Combination) (ys : List Combination) (cs : List ℕ) → length cs ≡ length (xs ++ ys) → AllByRecursion (IsElement k) cs →
    (ds : List ℕ) × IsPutBack k a b xs f ys cs ds
put_back k is a b [] f ys cs e elements = (
  plus k b (shift k a cs ys) ∷ cs,
  record {
    count = ap suc e;
    elements = (plus_is_element k b (shift k a cs ys) is, elements);
    nontrivial = λ h. h.1;
    values = λ w. value_of_more k is (plus k b (shift k a cs ys)) f (weighted_sum k cs ys) w
        ∙ ap (λ n. plus k n (value_at k (weighted_sum k cs ys) w)) (plus_times k b (shift k a cs ys) (value_at k f w))
        ∙ plus_assoc k (times k b (value_at k f w)) (times k (shift k a cs ys) (value_at k f w)) (value_at k (weighted_sum k cs ys) w)
        ∙ ap (plus k (times k b (value_at k f w))) (sym (reduced_sum k is a f cs ys e w));
  },
)
put_back k is a b (x ∷ xs) f ys [] e elements = absurd (omega arith)
put_back k is a b (x ∷ xs) f ys (c ∷ cs) e elements =
    let (ds, p) = put_back k is a (plus k b (times k c (a x))) xs f ys cs (omega arith) elements.1 in (
      c ∷ ds,
      record {
        count = ap suc p.count;
        elements = (elements.0, p.elements);
        nontrivial = λ h. (h.0, p.nontrivial h.1);
        values = λ w.
            let v : ℕ = value_at k f w in
            let rest : ℕ = value_at k (weighted_sum k cs (reduced k a f (xs ++ ys))) w in
            value_of_more k is c x (weighted_sum k ds (xs ++ f ∷ ys)) w
            ∙ ap (plus k (times k c (value_at k x w))) (p.values w ∙ ap (λ n. plus k n rest) (plus_times k b (times k c (a x)) v) ∙ plus_assoc k (times k b v) (times k (times k c (a x)) v) rest)
            ∙ swap_first k (times k c (value_at k x w)) (times k b v) (plus k (times k (times k c (a x)) v) rest)
            ∙ ap (plus k (times k b v))
            (sym (plus_assoc k (times k c (value_at k x w)) (times k (times k c (a x)) v) rest)
            ∙ ap (λ n. plus k n rest) (ap (plus k (times k c (value_at k x w))) (times_assoc k c (a x) v) ∙ sym (times_plus k c (value_at k x w) (times k (a x) v))
            ∙ ap (times k c) (sym (value_at-append k is x (scalar_multiple k (a x) f) w ∙ ap (plus k (value_at k x w)) (value_at-scalar_multiple k is (a x) f w))))
            ∙ sym (value_of_more k is c (x ++ scalar_multiple k (a x) f) (weighted_sum k cs (reduced k a f (xs ++ ys))) w));
      },
    )

-- ---- a combination that isn't 0 at a word

record HasPivot (k : FieldValue) (w : List ℕ) (fs : List Combination) : Type 0 where
  before : List Combination
  pivot : Combination
  after : List Combination
  parts : fs ≡ before ++ pivot ∷ after
  nonzero : value_at k pivot w ≢ 0

find_pivot : (k : FieldValue) (w : List ℕ) (fs : List Combination) → AllByRecursion (λ f. value_at k f w ≡ 0) fs ⊎ HasPivot k w fs
find_pivot k w [] = inl tt
find_pivot k w (f ∷ fs) = at (nat_eq (value_at k f w) 0) refl (find_pivot k w fs)
  where
    at : (b : Bool) → nat_eq (value_at k f w) 0 ≡ b → AllByRecursion (λ f. value_at k f w ≡ 0) fs ⊎ HasPivot k w fs → AllByRecursion (λ f. value_at k f w ≡ 0) (f ∷ fs) ⊎ HasPivot k w (f ∷ fs)
    at true e (inl all) = inl ((Decides-eqb (value_at k f w) 0).0 e, all)
    at true e (inr p) = inr (record { before = f ∷ p.before; pivot = p.pivot; after = p.after; parts = ap (λ gs. f ∷ gs) p.parts; nonzero = p.nonzero })
    at false e rest = inr (record { before = []; pivot = f; after = fs; parts = refl; nonzero = λ z. let c : true ≡ false = sym ((Decides-eqb (value_at k f w) 0).1 z) ∙ e in cc })

-- ---- coefficients

pub record IsDependence (k : FieldValue) (ws : List (List ℕ)) (fs : List Combination) (cs : List ℕ) : Type 0 where
  pub count : length cs ≡ length fs
  pub elements : AllByRecursion (IsElement k) cs
  pub nontrivial : AllByRecursion (λ c. c ≡ 0) cs → ⊥
  pub values : (w : List ℕ) → Contains ws w → value_at k (weighted_sum k cs fs) w ≡ 0

reduced_value : (k : FieldValue) → IsField k → (w : List ℕ) (f : Combination) (r : ℕ) → times k (value_at k f w) r ≡ 1 → (h : Combination) →
    value_at k (h ++ scalar_multiple k (times k (negative k 1) (times k (value_at k h w) r)) f) w ≡ 0
reduced_value k is w f r e h =
    let v : ℕ = value_at k h w in
    let n : ℕ = negative k 1 in
    value_at-append k is h (scalar_multiple k (times k n (times k v r)) f) w
    ∙ ap (plus k v) (value_at-scalar_multiple k is (times k n (times k v r)) f w ∙ times_assoc k n (times k v r) (value_at k f w)
    ∙ ap (times k n) (times_assoc k v r (value_at k f w) ∙ ap (times k v) (times_comm k r (value_at k f w) ∙ e) ∙ times_comm k v 1 ∙ one_times k v (value_is_element k is h w)))
    ∙ plus_comm k v (times k n v) ∙ opposite_sum k v is

all_reduced : (k : FieldValue) → IsField k → (w : List ℕ) (f : Combination) (r : ℕ) → times k (value_at k f w) r ≡ 1 → (hs : List Combination) →
    AllByRecursion (λ h. value_at k h w ≡ 0) (reduced k (λ h. times k (negative k 1) (times k (value_at k h w) r)) f hs)
all_reduced k is w f r e [] = tt
all_reduced k is w f r e (h ∷ hs) = (reduced_value k is w f r e h, all_reduced k is w f r e hs)

pub dependence : (k : FieldValue) → IsField k → (ws : List (List ℕ)) (fs : List Combination) → length ws < length fs → (cs : List ℕ) × IsDependence k ws fs cs
unfolding zeros
dependence k is [] [] less = absurd (omega arith)
dependence k is [] (f ∷ fs) less = (
  1 ∷ zeros fs,
  record {
    count = ap suc (zeros_count fs);
    elements = (one_is_element k is, zeros_elements k is fs);
    nontrivial = λ h. let e : ◌≡◌ {A = ℕ} 1 0 = h.0 in cc;
    values = λ w i. absurd (contains_none w i);
  },
)
dependence k is (w ∷ ws) fs less =
    elim (find_pivot k w fs) [
      | inl all ↦
          let (cs, d) = dependence k is ws fs (omega arith) in (
            cs,
            record {
              count = d.count;
              elements = d.elements;
              nontrivial = d.nontrivial;
              values = λ v i. elim (contains_cases w ws v i) [ inl e ↦ subst (λ u. value_at k (weighted_sum k cs fs) u ≡ 0) (sym e) (sum_is_zero k is cs fs w all) | inr j ↦ d.values v j ];
            },
          )
      | inr p ↦
          let (r, element, e) = has_reciprocal k (value_at k p.pivot w) is (value_is_element k is p.pivot w) p.nonzero in
          let a : Combination → ℕ = λ h. times k (negative k 1) (times k (value_at k h w) r) in
          let hs : List Combination = p.before ++ p.after in
          let size : length fs ≡ length (p.before ++ p.pivot ∷ p.after) = ap length p.parts in
          let whole : length (p.before ++ p.pivot ∷ p.after) ≡ length p.before + suc (length p.after) = length-append p.before (p.pivot ∷ p.after) in
          let others : length (p.before ++ p.after) ≡ length p.before + length p.after = length-append p.before p.after in
          let mapped : length (reduced k a p.pivot (p.before ++ p.after)) ≡ length (p.before ++ p.after) = length-map (p.before ++ p.after) (λ h. h ++ scalar_multiple k (a h) p.pivot) in
          let (cs, d) = dependence k is ws (reduced k a p.pivot hs) (omega arith) in
          let (ds, q) = put_back k is a 0 p.before p.pivot p.after cs (d.count ∙ mapped) d.elements in
          let same : (v : List ℕ) → value_at k (weighted_sum k ds fs) v ≡ value_at k (weighted_sum k cs (reduced k a p.pivot hs)) v =
          λ v. ap (λ gs. value_at k (weighted_sum k ds gs) v) p.parts ∙ q.values v ∙ ap (λ n. plus k n (value_at k (weighted_sum k cs (reduced k a p.pivot hs)) v)) (zero_times k (value_at k p.pivot v) is)
          ∙ zero_plus k (value_at k (weighted_sum k cs (reduced k a p.pivot hs)) v) (value_is_element k is (weighted_sum k cs (reduced k a p.pivot hs)) v) in (
            ds,
            record {
              count = q.count ∙ sym size;
              elements = q.elements;
              nontrivial = λ h. d.nontrivial (q.nontrivial h);
              values = λ v i. same v ∙ elim (contains_cases w ws v i) [
                | inl t ↦ subst (λ u. value_at k (weighted_sum k cs (reduced k a p.pivot hs)) u ≡ 0) (sym t) (sum_is_zero k is cs (reduced k a p.pivot hs) w (all_reduced k is w p.pivot r e hs))
                | inr j ↦ d.values v j
              ];
            },
          )
    ]
