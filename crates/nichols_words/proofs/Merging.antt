-- The invariant of the merge, and its steps.
use Rattle.std.proofs.Common.{◌≡◌, ◌≢◌, ℕ, ◌+◌, ◌<◌, cond, List, [], ◌∷◌, ◌++◌, length, sym, ◌∙◌, ap, ap₂, arith, subst}
use Rattle.std.proofs.lemmas.List.{append-nil}
use Rattle.nichols_field.specs.Field.{FieldValue, IsField, IsElement, plus, times}
use Rattle.nichols_field.proofs.FieldLaws.{plus_assoc, plus_zero, times_zero, times_plus, plus_is_element, times_is_element}
use Rattle.nichols_field.proofs.FieldAlgebra.{zero_plus, swap_first, swap_middle, times_chosen, plus_chosen}
use Rattle.nichols_tensor.specs.Combination.{Term, Combination, value_at, same_letters, words_of, AllElements, AllNonzero}
use Rattle.nichols_tensor.specs.WordOrder.{IsRising, IsOrdered}
use Rattle.nichols_tensor.proofs.Values.{term_value, zero_term, value_is_element}
use Rattle.nichols_tensor.proofs.Order.{rising_joined, rising_front, rising_back, rising_without, words_of-push}
use Rattle.nichols_tensor.proofs.Building.{elements-push, nonzero-push, value_at-push}
use Rattle.nichols_words.specs.Next.{TakesNext, from_left, from_right, from_both}

-- a sum with a multiple, at a word
abbrev pub total : FieldValue → ℕ → Combination → Combination → List ℕ → ℕ
total f by xs ys w = plus f (value_at f xs w) (times f by (value_at f ys w))

-- ---- one step

total-next : (f : FieldValue) → IsField f → (by : ℕ) (xs ys : Combination) (t : Term) (xr yr : Combination) → TakesNext f by xs ys t xr yr → (w : List ℕ) →
    total f by xs ys w ≡ plus f (term_value t w) (total f by xr yr w)
total-next f is by _ ys x xs _ (from_left h) w = plus_assoc f (term_value x w) (value_at f xs w) (times f by (value_at f ys w))
total-next f is by xs _ _ _ ys (from_right {y = y} h) w =
    ap (plus f (value_at f xs w)) (times_plus f by (term_value y w) (value_at f ys w)) ∙ swap_first f (value_at f xs w) (times f by (term_value y w)) (times f by (value_at f ys w))
    ∙ ap (λ n. plus f n (total f by xs ys w)) (times_chosen f (same_letters y.word w) by y.coefficient is)
total-next f is by _ _ _ xs ys (from_both {x = x} {y = y} e) w =
    ap (plus f (plus f (term_value x w) (value_at f xs w))) (times_plus f by (term_value y w) (value_at f ys w))
    ∙ swap_middle f (term_value x w) (value_at f xs w) (times f by (term_value y w)) (times f by (value_at f ys w))
    ∙ ap (λ n. plus f n (total f by xs ys w)) (ap (plus f (term_value x w)) (times_chosen f (same_letters y.word w) by y.coefficient is ∙ ap (λ v. cond (same_letters v w) (times f by y.coefficient) 0) (sym e)) ∙ plus_chosen f (same_letters x.word w) x.coefficient (times f by y.coefficient) is)

-- the next term comes after what was put out, and before what is left on both sides
rising-next : (f : FieldValue) (by : ℕ) (vs : List (List ℕ)) (xs ys : Combination) (t : Term) (xr yr : Combination) → TakesNext f by xs ys t xr yr →
    IsRising (vs ++ words_of xs) → IsRising (vs ++ words_of ys) → IsRising (vs ++ t.word ∷ words_of xr) × IsRising (vs ++ t.word ∷ words_of yr)
rising-next f by vs _ ys x xs _ (from_left h) left right =
    (left, rising_joined vs x.word (words_of ys) (rising_front vs x.word (words_of xs) left) (h, rising_back vs (words_of ys) right))
rising-next f by vs xs _ _ _ ys (from_right {y = y} h) left right =
    (rising_joined vs y.word (words_of xs) (rising_front vs y.word (words_of ys) right) (h, rising_back vs (words_of xs) left), right)
rising-next f by vs _ _ _ xs ys (from_both {x = x} {y = y} e) left right = (left, subst (λ v. IsRising (vs ++ v ∷ words_of ys)) (sym e) right)

elements-next : (f : FieldValue) → IsField f → (by : ℕ) (xs ys : Combination) (t : Term) (xr yr : Combination) → TakesNext f by xs ys t xr yr → AllElements f xs → AllElements f ys →
    IsElement f t.coefficient × AllElements f xr × AllElements f yr
elements-next f is by _ ys x xs _ (from_left h) left right = (left.0, left.1, right)
elements-next f is by xs _ _ _ ys (from_right {y = y} h) left right = (times_is_element f by y.coefficient is, left, right.1)
elements-next f is by _ _ _ xs ys (from_both {x = x} {y = y} e) left right = (plus_is_element f x.coefficient (times f by y.coefficient) is, left.1, right.1)

pub fewer : (f : FieldValue) (by : ℕ) (xs ys : Combination) (t : Term) (xr yr : Combination) → TakesNext f by xs ys t xr yr → length xr + length yr < length xs + length ys
fewer f by _ ys x xs _ (from_left h) = omega arith
fewer f by xs _ _ _ ys (from_right h) = omega arith
fewer f by _ _ _ xs ys (from_both e) = omega arith

-- ---- the loop

-- what was put out and what is left of the two sides are together what the two were, and what is left comes after
-- what was put out
pub record Merging (f : FieldValue) (by : ℕ) (left right out xs ys : Combination) : Type 0 where
  pub reaches : (w : List ℕ) → plus f (value_at f out w) (total f by xs ys w) ≡ total f by left right w
  pub left_elements : AllElements f xs
  pub right_elements : AllElements f ys
  pub out_elements : AllElements f out
  pub nonzero : AllNonzero out
  pub left_rising : IsRising (words_of out ++ words_of xs)
  pub right_rising : IsRising (words_of out ++ words_of ys)

pub merging_start : (f : FieldValue) → IsField f → (by : ℕ) (left right : Combination) → AllElements f left → AllElements f right → IsRising (words_of left) → IsRising (words_of right) → Merging f by left right [] left right
merging_start f is by left right le re lr rr = record {
  reaches = λ w. zero_plus f (total f by left right w) (plus_is_element f (value_at f left w) (times f by (value_at f right w)) is);
  left_elements = le;
  right_elements = re;
  out_elements = tt;
  nonzero = tt;
  left_rising = lr;
  right_rising = rr;
}

pub merging-push : (f : FieldValue) → IsField f → (by : ℕ) (left right out xs ys : Combination) (t : Term) (xr yr : Combination) → TakesNext f by xs ys t xr yr → t.coefficient ≢ 0 → Merging f by left right out xs ys → Merging f by left right (out ++ t ∷ []) xr yr
merging-push f is by left right out xs ys t xr yr n nonzero m =
    let e : IsElement f t.coefficient × AllElements f xr × AllElements f yr = elements-next f is by xs ys t xr yr n m.left_elements m.right_elements in
    let r : IsRising (words_of out ++ t.word ∷ words_of xr) × IsRising (words_of out ++ t.word ∷ words_of yr) = rising-next f by (words_of out) xs ys t xr yr n m.left_rising m.right_rising in
    record {
      reaches = λ w. ap (λ v. plus f v (total f by xr yr w)) (value_at-push f is out t w e.0) ∙ plus_assoc f (value_at f out w) (term_value t w) (total f by xr yr w) ∙ ap (plus f (value_at f out w)) (sym (total-next f is by xs ys t xr yr n w)) ∙ m.reaches w;
      left_elements = e.1;
      right_elements = e.2;
      out_elements = elements-push f out t m.out_elements e.0;
      nonzero = nonzero-push out t m.nonzero nonzero;
      left_rising = subst IsRising (sym (words_of-push out t (words_of xr))) r.0;
      right_rising = subst IsRising (sym (words_of-push out t (words_of yr))) r.1;
    }

pub merging-skip : (f : FieldValue) → IsField f → (by : ℕ) (left right out xs ys : Combination) (t : Term) (xr yr : Combination) → TakesNext f by xs ys t xr yr → t.coefficient ≡ 0 → Merging f by left right out xs ys → Merging f by left right out xr yr
merging-skip f is by left right out xs ys t xr yr n zero_there m =
    let e : IsElement f t.coefficient × AllElements f xr × AllElements f yr = elements-next f is by xs ys t xr yr n m.left_elements m.right_elements in
    let r : IsRising (words_of out ++ t.word ∷ words_of xr) × IsRising (words_of out ++ t.word ∷ words_of yr) = rising-next f by (words_of out) xs ys t xr yr n m.left_rising m.right_rising in
    let skipped : (w : List ℕ) → total f by xs ys w ≡ total f by xr yr w =
    λ w. total-next f is by xs ys t xr yr n w ∙ ap (λ v. plus f v (total f by xr yr w)) (zero_term t w zero_there) ∙ zero_plus f (total f by xr yr w) (plus_is_element f (value_at f xr w) (times f by (value_at f yr w)) is) in
    record {
      reaches = λ w. ap (plus f (value_at f out w)) (sym (skipped w)) ∙ m.reaches w;
      left_elements = e.1;
      right_elements = e.2;
      out_elements = m.out_elements;
      nonzero = m.nonzero;
      left_rising = rising_without (words_of out) t.word (words_of xr) r.0;
      right_rising = rising_without (words_of out) t.word (words_of yr) r.1;
    }

-- ---- the end

pub merged_value : (f : FieldValue) → IsField f → (by : ℕ) (left right out xs ys : Combination) → Merging f by left right out xs ys → xs ≡ [] → ys ≡ [] → (w : List ℕ) → value_at f out w ≡ total f by left right w
merged_value f is by left right out xs ys m no_xs no_ys w =
    sym (plus_zero f (value_at f out w) (value_is_element f is out w))
    ∙ ap (plus f (value_at f out w)) (sym (plus_zero f 0 (value_is_element f is [] w)) ∙ ap (plus f 0) (sym (times_zero f by is)))
    ∙ ap₂ (λ us vs. plus f (value_at f out w) (total f by us vs w)) (sym no_xs) (sym no_ys) ∙ m.reaches w

pub merged_shape : (f : FieldValue) (by : ℕ) (left right out xs ys : Combination) → Merging f by left right out xs ys → xs ≡ [] → IsOrdered out
merged_shape f by left right out xs ys m no_xs = record {
  rising = subst IsRising (ap (λ us. words_of out ++ words_of us) no_xs ∙ append-nil (words_of out)) m.left_rising;
  nonzero = m.nonzero;
}
