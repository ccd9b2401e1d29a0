-- Products of some factors, one factor more, and what is answered of them.
use Rattle.std.proofs.Common.{◌≡◌, ◌≢◌, ◌≤◌, ◌<◌, ℕ, suc, ◌+◌, IsTrue, Bool, true, false, not, nat_eq, nat_lt, min, List, [], ◌∷◌, ◌++◌, length, map, refl, sym, ◌∙◌, ap, ap₂, subst, arith, inl, inr, ◌⊎◌}
use Rattle.std.specs.Prelude.{◌&&◌, ◌||◌, sum, if◌then◌else◌}
use Rattle.std.specs.List.{AllByRecursion, list_any}
use Rattle.std.proofs.lemmas.Bool.{le-ltb}
use Rattle.std.proofs.lemmas.Bool.Decides.{Decides-eqb, Decides-ltb, eqb_tells}
use Rattle.std.proofs.lemmas.List.{map-append, nil_from_length}
use Rattle.std.proofs.lemmas.List.Folds.{list_any-append}
use Rattle.std.proofs.lemmas.List.Sums.{fold-append}
use Rattle.nichols_field.specs.Field.{FieldValue, IsField}
use Rattle.nichols_tensor.specs.Combination.{AllElements, Combination, HasSameValues, IsZero, is_zero, single, value_at}
use Rattle.nichols_tensor.specs.Parts.{longest}
use Rattle.nichols_tensor.specs.Product.{prefixed, product, product_before, product_of}
use Rattle.nichols_tensor.specs.WordOrder.{IsOrdered}
use Rattle.nichols_tensor.specs.Words.{IsOver}
use Rattle.nichols_tensor.proofs.Linear.{extended_is_zero}
use Rattle.nichols_tensor.proofs.Ordered.{ordered_unique}
use Rattle.nichols_tensor.proofs.Products.{product_from_behind, product_over, product_same, suffixed}
use Rattle.nichols_tensor.proofs.Zero.{is_zero_complete, is_zero_sound}
use Rattle.nichols_braid.specs.Braid.{BraidValue, IsBraid}
use Rattle.nichols_braid.specs.End.{is_empty_degree}
use Rattle.nichols_braid.specs.Kernel.{is_killed}
use Rattle.nichols_braid.specs.Least.{basis}
use Rattle.nichols_braid.specs.Product.{product_of as product_of_word}
use Rattle.nichols_braid.specs.WholeForm.{normal_form_by_parts}
use Rattle.nichols_value.specs.Block.{block_basis}
use Rattle.nichols_reduce.specs.Forms.{IsFormOf}
use Rattle.nichols_reduce.specs.Sums.{combination_of}
use Rattle.nichols_reduce.specs.declared.answer.Normal.TheVariants.{Form, Beyond}
use Rattle.nichols_reduce.proofs.PartForms.{whole_of}
use Rattle.nichols_reduce.proofs.WordForms.{first_form, word_product}
use Rattle.nichols_product.specs.Parts.{AreParts, AreWithin, IsPart, IsProductOf, IsRunning, total}
use Rattle.nichols_product.specs.Degrees.{degree_of_product}
use Rattle.nichols_product.specs.Products.{is_product_beyond, normal_of_product}
use Rattle.nichols_product.specs.declared.parts.Part.{Part}
use Rattle.nichols_product.specs.declared.running.Running.{Running}
use Rattle.nichols_product.proofs.PartSums.{one_part}
use Rattle.nichols_product.proofs.PartProducts.{IsLeast, total_is_least, whole_of_nothing}
use Rattle.nichols_product.proofs.ProductForms.{form_in_front, form_of_same, form_over}

true_false : true ≡ false → ⊥
true_false e = let x : ◌≡◌ {A = ℕ} 1 0 = ap (λ b. if b then 1 else 0) e in absurd (omega (arith, x))

pub not_true : IsTrue false → ⊥
not_true e = true_false (sym e)

abbrev whole : BraidValue → Combination → Combination
whole braid f = normal_form_by_parts is_killed braid f

-- ---- a list of factors, one more

product_before_more : (k : FieldValue) (f : Combination) (fs : List Combination) (g : Combination) → product_before k f (fs ++ g ∷ []) ≡ product k (product_before k f fs) g
unfolding product_before
product_before_more k f [] g = refl
product_before_more k f (h ∷ fs) g = product_before_more k (product k f h) fs g

pub product_more : (k : FieldValue) (fs : List Combination) (g : Combination) → product_of k (fs ++ g ∷ []) ≡ product k (product_of k fs) g
product_more k fs g = product_before_more k (single []) fs g

product_before_over : (k : FieldValue) (n : ℕ) (f : Combination) (fs : List Combination) → IsOver n f → AllByRecursion (IsOver n) fs → IsOver n (product_before k f fs)
unfolding product_before
product_before_over k n f [] over all = over
product_before_over k n f (h ∷ fs) over all = product_before_over k n (product k f h) fs (product_over k n f h over all.0) all.1

pub product_of_over : (k : FieldValue) (n : ℕ) (fs : List Combination) → AllByRecursion (IsOver n) fs → IsOver n (product_of k fs)
product_of_over k n fs all = product_before_over k n (single []) fs (tt, tt) all

degree_more : (fs : List Combination) (g : Combination) → degree_of_product (fs ++ g ∷ []) ≡ degree_of_product fs + longest g
degree_more fs g = ap sum (map-append longest fs (g ∷ [])) ∙ fold-append ◌+◌ 0 (map longest fs) (longest g ∷ [])

any_more : (t : Combination → Bool) (fs : List Combination) (g : Combination) → list_any t (fs ++ g ∷ []) ≡ (list_any t fs || t g)
any_more t fs g = list_any-append t fs (g ∷ []) ∙ ap (λ b. list_any t fs || b) (or_false (t g))
  where
    or_false : (b : Bool) → (b || false) ≡ b
    or_false true = refl
    or_false false = refl

-- ---- factors that are zero

-- a combination in order is zero where it has no terms
pub zero_is : (k : FieldValue) → IsField k → (f : Combination) → IsOrdered f → AllElements k f → is_zero k f ≡ true → f ≡ []
zero_is k is f ordered elements h = ordered_unique k is f [] elements tt ordered (record { rising = tt; nonzero = tt }) (is_zero_sound k is f h)

pub nothing_is_zero : (k : FieldValue) → is_zero k [] ≡ true
nothing_is_zero k = is_zero_complete k [] (λ w. refl)

not_zero_is : (k : FieldValue) → IsField k → (f : Combination) → IsOrdered f → AllElements k f → f ≢ [] → is_zero k f ≡ false
not_zero_is k is f ordered elements other = at (is_zero k f) (zero_is k is f ordered elements)
  where
    at : (b : Bool) → (b ≡ true → f ≡ []) → b ≡ false
    at true h = absurd (other (h refl))
    at false h = refl

product_zero_first : (k : FieldValue) → IsField k → (f g : Combination) → IsZero k f → IsZero k (product k f g)
unfolding product
product_zero_first k is f g h = extended_is_zero k is (λ v. prefixed v g) f h

product_zero_last : (k : FieldValue) → IsField k → (f g : Combination) → IsZero k g → IsZero k (product k f g)
product_zero_last k is f g h w = product_from_behind k is f g w ∙ extended_is_zero k is (λ u. suffixed f u) g h w

zero_before : (k : FieldValue) → IsField k → (f : Combination) (fs : List Combination) → IsZero k f → IsZero k (product_before k f fs)
unfolding product_before
zero_before k is f [] h = h
zero_before k is f (g ∷ fs) h = zero_before k is (product k f g) fs (product_zero_first k is f g h)

zero_within : (k : FieldValue) → IsField k → (f : Combination) (fs : List Combination) → list_any (is_zero k) fs ≡ true → IsZero k (product_before k f fs)
unfolding product_before
zero_within k is f [] h = absurd (true_false (sym h))
zero_within k is f (g ∷ fs) h = at (is_zero k g) (λ e. zero_before k is (product k f g) fs (product_zero_last k is f g (is_zero_sound k is g e))) (λ e. zero_within k is (product k f g) fs e) h
  where
    at : (b : Bool) → (b ≡ true → IsZero k (product_before k (product k f g) fs)) → (list_any (is_zero k) fs ≡ true → IsZero k (product_before k (product k f g) fs)) → (b || list_any (is_zero k) fs) ≡ true → IsZero k (product_before k (product k f g) fs)
    at true first later e = first refl
    at false first later e = later e

-- the normal form of a product with a factor that is zero
zero_form : (braid : BraidValue) → IsBraid braid → (fs : List Combination) → AllByRecursion (IsOver braid.letters) fs → list_any (is_zero braid.field) fs ≡ true → HasSameValues braid.field (whole braid (product_of braid.field fs)) []
zero_form braid is fs over h v =
    ap (λ f. value_at braid.field f v) (form_of_same is_killed braid is (inr refl) (product_of braid.field fs) [] (product_of_over braid.field braid.letters fs over) tt (zero_within braid.field is.field (single []) fs h))
    ∙ whole_of_nothing braid is v

pub zero_form_is : (braid : BraidValue) → IsBraid braid → (fs : List Combination) → AllByRecursion (IsOver braid.letters) fs → list_any (is_zero braid.field) fs ≡ true → whole braid (product_of braid.field fs) ≡ []
zero_form_is braid is fs over h =
    let n : _ = whole_of braid is (product_of braid.field fs) (product_of_over braid.field braid.letters fs over) in
    ordered_unique braid.field is.field (whole braid (product_of braid.field fs)) [] n.normal.elements tt n.normal.ordered (record { rising = tt; nonzero = tt }) (zero_form braid is fs over h)

-- ---- the test

some_words : (ws : List (List ℕ)) → ws ≢ [] → nat_eq (length ws) 0 ≡ false
some_words ws some =
    elim (eqb_tells (length ws) 0) [
      | inl same ↦ absurd (some (nil_from_length ws same.1))
      | inr apart ↦ apart.0
    ]

pub beyond_true : (braid : BraidValue) (last : ℕ) (fs : List Combination) → list_any (is_zero braid.field) fs ≡ false → last < degree_of_product fs → basis is_killed braid last ≢ [] → is_product_beyond braid last fs ≡ true
unfolding is_product_beyond
beyond_true braid last fs zero less some =
    ap (λ b. not b && nat_lt last (degree_of_product fs) && not (is_empty_degree is_killed braid last)) zero
    ∙ ap (λ b. true && b && not (is_empty_degree is_killed braid last)) ((Decides-ltb last (degree_of_product fs)).1 less)
    ∙ ap (λ b. true && true && not b) (some_words (basis is_killed braid last) some)

pub beyond_zero : (braid : BraidValue) (last : ℕ) (fs : List Combination) → list_any (is_zero braid.field) fs ≡ true → is_product_beyond braid last fs ≡ false
unfolding is_product_beyond
beyond_zero braid last fs zero = ap (λ b. not b && nat_lt last (degree_of_product fs) && not (is_empty_degree is_killed braid last)) zero

pub beyond_short : (braid : BraidValue) (last : ℕ) (fs : List Combination) → degree_of_product fs ≤ last → is_product_beyond braid last fs ≡ false
unfolding is_product_beyond
beyond_short braid last fs short =
    ap (λ b. not (list_any (is_zero braid.field) fs) && b && not (is_empty_degree is_killed braid last)) (le-ltb last (degree_of_product fs) short) ∙ at (not (list_any (is_zero braid.field) fs))
  where
    at : (b : Bool) → (b && false && not (is_empty_degree is_killed braid last)) ≡ false
    at true = refl
    at false = refl

pub beyond_closed : (braid : BraidValue) (last : ℕ) (fs : List Combination) → basis is_killed braid last ≡ [] → is_product_beyond braid last fs ≡ false
unfolding is_product_beyond
beyond_closed braid last fs none =
    ap (λ b. not (list_any (is_zero braid.field) fs) && nat_lt last (degree_of_product fs) && not b) ((Decides-eqb (length (basis is_killed braid last)) 0).1 (ap length none))
    ∙ at (not (list_any (is_zero braid.field) fs)) (nat_lt last (degree_of_product fs))
  where
    at : (a b : Bool) → (a && b && false) ≡ false
    at true true = refl
    at true false = refl
    at false true = refl
    at false false = refl

-- ---- one factor more

all_more : (n : ℕ) (fs : List Combination) (g : Combination) → AllByRecursion (IsOver n) fs → IsOver n g → AllByRecursion (IsOver n) (fs ++ g ∷ [])
all_more n [] g all over = (over, tt)
all_more n (f ∷ fs) g all over = (all.0, all_more n fs g all.1 over)

-- where a factor is zero
pub times_zero : (braid : BraidValue) → IsBraid braid → (last : ℕ) (fs : List Combination) (g : Combination) (r q : Running) → AllByRecursion (IsOver braid.letters) fs → IsOver braid.letters g → IsProductOf braid last fs r → (r.zero ≡ true) ⊎ (g ≡ []) → q.parts.items ≡ [] → q.zero ≡ true →
    IsProductOf braid last (fs ++ g ∷ []) q
unfolding total
times_zero braid is last fs g r q all over h some parts zero =
    let any : list_any (is_zero braid.field) (fs ++ g ∷ []) ≡ true = any_more (is_zero braid.field) fs g ∙ (elim some [
      | inl before ↦ ap (λ b. b || is_zero braid.field g) (sym h.zero ∙ before)
      | inr none ↦ ap (λ f. list_any (is_zero braid.field) fs || is_zero braid.field f) none ∙ ap (λ b. list_any (is_zero braid.field) fs || b) (nothing_is_zero braid.field) ∙ or_true (list_any (is_zero braid.field) fs)
    ]) in
    record {
      zero = zero ∙ sym any;
      reach = λ e. absurd (true_false (sym zero ∙ e));
      values = λ e v. ap (λ ps. value_at braid.field (total braid ps) v) parts ∙ sym (zero_form braid is (fs ++ g ∷ []) (all_more braid.letters fs g all over) any v);
    }
  where
    or_true : (b : Bool) → (b || true) ≡ true
    or_true true = refl
    or_true false = refl

-- where no factor is zero
one_more : (braid : BraidValue) → IsBraid braid → (last : ℕ) (fs : List Combination) (g : Combination) (r : Running) → IsProductOf braid last fs r → r.zero ≡ false → IsOrdered g → AllElements braid.field g → g ≢ [] → list_any (is_zero braid.field) (fs ++ g ∷ []) ≡ false
one_more braid is last fs g r h zero ordered elements other =
    any_more (is_zero braid.field) fs g ∙ ap (λ b. b || is_zero braid.field g) (sym h.zero ∙ zero) ∙ not_zero_is braid.field is.field g ordered elements other

reach_more : (braid : BraidValue) (last : ℕ) (fs : List Combination) (g : Combination) (r : Running) (reach : ℕ) → IsProductOf braid last fs r → r.zero ≡ false → reach ≡ min (r.reach + longest g) (suc last) → reach ≡ min (degree_of_product (fs ++ g ∷ [])) (suc last)
reach_more braid last fs g r reach h zero e =
    let before : r.reach ≡ min (degree_of_product fs) (suc last) = h.reach zero in
    let more : degree_of_product (fs ++ g ∷ []) ≡ degree_of_product fs + longest g = degree_more fs g in
    omega (arith, e, before, more)

-- where the product is beyond the last degree
pub times_beyond : (braid : BraidValue) → IsBraid braid → (last : ℕ) (fs : List Combination) (g : Combination) (r q : Running) → IsProductOf braid last fs r → r.zero ≡ false → IsOrdered g → AllElements braid.field g → g ≢ [] → q.zero ≡ false → q.reach ≡ min (r.reach + longest g) (suc last) →
    last < q.reach → basis is_killed braid last ≢ [] → IsProductOf braid last (fs ++ g ∷ []) q
times_beyond braid is last fs g r q h zero ordered elements other own reach less some =
    let none : list_any (is_zero braid.field) (fs ++ g ∷ []) ≡ false = one_more braid is last fs g r h zero ordered elements other in
    let far : q.reach ≡ min (degree_of_product (fs ++ g ∷ [])) (suc last) = reach_more braid last fs g r q.reach h zero reach in
    record {
      zero = own ∙ sym none;
      reach = λ _. far;
      values = λ e. absurd (true_false (sym (beyond_true braid last (fs ++ g ∷ []) none (omega (arith, far, less)) some) ∙ e));
    }

-- where it isn't
pub times_within : (braid : BraidValue) → IsBraid braid → (last : ℕ) (fs : List Combination) (g : Combination) (r q : Running) → AllByRecursion (IsOver braid.letters) fs → IsOver braid.letters g → IsProductOf braid last fs r → r.zero ≡ false → IsOrdered g → AllElements braid.field g → g ≢ [] →
    q.zero ≡ false → q.reach ≡ min (r.reach + longest g) (suc last) → (q.reach ≤ last) ⊎ (basis is_killed braid last ≡ []) →
    HasSameValues braid.field (total braid q.parts.items) (whole braid (product braid.field (total braid r.parts.items) g)) → IsProductOf braid last (fs ++ g ∷ []) q
times_within braid is last fs g r q all over h zero ordered elements other own reach fits found =
    let k : FieldValue = braid.field in
    let f : Combination = product_of k fs in
    let of : IsOver braid.letters f = product_of_over k braid.letters fs all in
    let least : IsLeast braid (total braid r.parts.items) = total_is_least braid is.field r.parts.items in
    let owhole : IsOver braid.letters (whole braid f) = form_over is_killed braid is (inr refl) f of in
    let before : is_product_beyond braid last fs ≡ false = elim fits [
      | inl short ↦
          let at : r.reach ≡ min (degree_of_product fs) (suc last) = h.reach zero in
          beyond_short braid last fs (omega (arith, at, reach, short))
      | inr closed ↦ beyond_closed braid last fs closed
    ] in
    record {
      zero = own ∙ sym (one_more braid is last fs g r h zero ordered elements other);
      reach = λ _. reach_more braid last fs g r q.reach h zero reach;
      values = λ _ v.
          found v
          ∙ ap (λ e. value_at k e v)
          (form_of_same is_killed braid is (inr refl) (product k (total braid r.parts.items) g) (product k (whole braid f) g) (product_over k braid.letters (total braid r.parts.items) g least.over over) (product_over k braid.letters (whole braid f) g owhole over)
          (product_same k is.field (total braid r.parts.items) (whole braid f) g g (h.values before) (λ u. refl))
          ∙ form_in_front is_killed braid is (inr refl) f g of over
          ∙ ap (whole braid) (sym (product_more k fs g)));
    }

-- ---- the reach

pub reach_is : (a b last sum reach : ℕ) → last ≤ 4294967295 → sum ≡ min (a + b) 18446744073709551615 → reach ≡ min sum (last + 1) → reach ≡ min (a + b) (suc last)
reach_is a b last sum reach small s r = omega (arith, small, s, r)

pub fits_all : (ps : List Part) (n l last : ℕ) → AreWithin n ps → n + l ≤ last → AllByRecursion (λ (p : Part). p.degree + l ≤ last) ps
fits_all [] n l last h less = tt
fits_all (p ∷ ps) n l last h less = (omega (arith, h.0, less), fits_all ps n l last h.1 less)

pub within_reach : (braid : BraidValue) (last : ℕ) (ps : List Part) (n reach : ℕ) → AreParts braid last ps → AreWithin n ps → reach ≡ min n (suc last) → AreWithin reach ps
within_reach braid last [] n reach are h e = tt
within_reach braid last (p ∷ ps) n reach are h e = (omega (arith, are.0.made, h.0, e), within_reach braid last ps n reach are.1 h.1 e)

-- ---- what is answered

pub answer_beyond : (braid : BraidValue) (last n : ℕ) (fs : List Combination) (r : Running) → IsProductOf braid last fs r → r.zero ≡ false → last < r.reach → basis is_killed braid last ≢ [] → n ≡ last → Beyond n ≡ normal_of_product braid last fs
unfolding normal_of_product
answer_beyond braid last n fs r h zero less some same =
    let at : r.reach ≡ min (degree_of_product fs) (suc last) = h.reach zero in
    ap Beyond same ∙ ap (λ b. if b then Beyond last else Form (whole braid (product_of braid.field fs))) (sym (beyond_true braid last fs (sym h.zero ∙ zero) (omega (arith, at, less)) some))

pub answer_form : (braid : BraidValue) → IsBraid braid → (last : ℕ) (fs : List Combination) (r : Running) (form : Combination) → AllByRecursion (IsOver braid.letters) fs → IsProductOf braid last fs r → (r.zero ≡ true) ⊎ ((r.zero ≡ false) × (r.reach ≤ last)) ⊎ (basis is_killed braid last ≡ []) →
    HasSameValues braid.field form (total braid r.parts.items) → IsOrdered form → AllElements braid.field form → Form form ≡ normal_of_product braid last fs
unfolding normal_of_product
answer_form braid is last fs r form all h fits same ordered elements =
    let k : FieldValue = braid.field in
    let f : Combination = product_of k fs in
    let n : _ = whole_of braid is f (product_of_over k braid.letters fs all) in
    let within : is_product_beyond braid last fs ≡ false = elim fits [
      | inl zero ↦ beyond_zero braid last fs (sym h.zero ∙ zero)
      | inr (inl short) ↦
          let at : r.reach ≡ min (degree_of_product fs) (suc last) = h.reach short.0 in
          beyond_short braid last fs (omega (arith, at, short.1))
      | inr (inr closed) ↦ beyond_closed braid last fs closed
    ] in
    ap Form (ordered_unique k is.field form (whole braid f) elements n.normal.elements ordered n.normal.ordered (λ v. same v ∙ h.values within v))
    ∙ ap (λ b. if b then Beyond last else Form (whole braid f)) (sym within)

-- ---- no factors

-- the part of the empty word
pub record IsStart (braid : BraidValue) (last : ℕ) (r : Running) : Type 0 where
  pub kept : IsRunning braid last r
  pub product : IsProductOf braid last [] r

pub start_is : (braid : BraidValue) → IsBraid braid → (last : ℕ) (p : Part) (r : Running) → p.degree ≡ 0 → p.product ≡ product_of_word braid [] → p.sums.items ≡ 1 ∷ [] → r.parts.items ≡ p ∷ [] → r.reach ≡ 0 → r.zero ≡ false → IsStart braid last r
unfolding product_before
start_is braid is last p r degree first sums parts reach zero =
    let k : FieldValue = braid.field in
    let form : IsFormOf braid [] p.sums.items = first_form braid is p.sums.items sums in
    let words : block_basis braid p.degree p.product ≡ block_basis braid 0 (product_of_word braid []) = ap₂ (block_basis braid) degree first in
    let own : IsPart braid last p = record {
      made = omega (arith, degree);
      there = word_product braid [] p.product p.degree tt degree first;
      width = form.width ∙ ap length (sym words);
    } in
    record {
      kept = record {
        parts = subst (AreParts braid last) (sym parts) (own, tt);
        within = subst (AreWithin r.reach) (sym parts) (omega (arith, degree), tt);
      };
      product = record {
        zero = zero;
        reach = λ _. omega (arith, reach);
        values = λ _ v.
            ap (λ ps. value_at k (total braid ps) v) parts ∙ ap (λ f. value_at k f v) (one_part braid p)
            ∙ ap (λ ws. value_at k (combination_of k ws p.sums.items) v) words ∙ form.values v
            ∙ ap (λ f. value_at k f v) (sym ((whole_of braid is (single []) (tt, tt)).degree 0 (refl, tt)));
      };
    }
