-- Congruence for a linear test: the difference passes the test. It sees values alone, is an equivalence, and is kept by sums and
-- multiples; so a combination is congruent to one of certain words where each of its words is.
use Rattle.std.proofs.Common.{◌≡◌, ℕ, Bool, true, List, [], ◌∷◌, ◌++◌, refl, sym, ◌∙◌, ap}
use Rattle.std.specs.List.{AllByRecursion}
use Rattle.nichols_field.specs.Field.{FieldValue, IsField, IsElement, plus, times, negative}
use Rattle.nichols_field.proofs.FieldLaws.{plus_comm, plus_assoc, times_plus, times_zero, opposite_sum, times_is_element, plus_zero}
use Rattle.nichols_field.proofs.FieldAlgebra.{zero_plus, one_times, swap_middle, swap_factors, negative_twice}
use Rattle.nichols_tensor.specs.Combination.{Combination, value_at, HasSameValues, IsZero, AllElements, single, scalar_multiple, minus, linear_map}
use Rattle.nichols_tensor.proofs.Values.{value_is_element, value_at-append, value_at-scalar_multiple, value_at-minus}
use Rattle.nichols_tensor.proofs.Linear.{minus_is_zero}
use Rattle.nichols_tensor.proofs.Over.{all-append, all-scalar_multiple}
use Rattle.nichols_tensor.proofs.Building.{elements-scalar_multiple}
use Rattle.nichols_braid.specs.LinearTest.{IsLinearTest}
use Rattle.nichols_braid.proofs.Maps.{extended_identity}

-- the difference passes the test
abbrev pub AreCongruent : FieldValue → (Combination → Bool) → Combination → Combination → Type 0
AreCongruent k test f g = test (minus k f g) ≡ true

-- ---- the test alone

pub zero_passes : (k : FieldValue) (test : Combination → Bool) → IsLinearTest k test → (f : Combination) → IsZero k f → test f ≡ true
zero_passes k test l f h = l.sees_values [] f (λ w. sym (h w)) l.holds_of_zero

-- ---- an equivalence that sees values alone

pub congruent_same : (k : FieldValue) → IsField k → (test : Combination → Bool) → IsLinearTest k test → (f g : Combination) → HasSameValues k f g → AreCongruent k test f g
congruent_same k is test l f g same = zero_passes k test l (minus k f g) (minus_is_zero k is f g same)

pub congruent_sym : (k : FieldValue) → IsField k → (test : Combination → Bool) → IsLinearTest k test → (f g : Combination) → AreCongruent k test f g → AreCongruent k test g f
congruent_sym k is test l f g h = l.sees_values (scalar_multiple k (negative k 1) (minus k f g)) (minus k g f) values (l.keeps_multiples (negative k 1) (minus k f g) h)
  where
    n : ℕ
    n = negative k 1

    values : HasSameValues k (scalar_multiple k (negative k 1) (minus k f g)) (minus k g f)
    values w =
        value_at-scalar_multiple k is (negative k 1) (minus k f g) w ∙ ap (times k (negative k 1)) (value_at-minus k is f g w)
        ∙ times_plus k (negative k 1) (value_at k f w) (times k (negative k 1) (value_at k g w))
        ∙ ap (plus k (times k (negative k 1) (value_at k f w))) (negative_twice k (value_at k g w) is (value_is_element k is g w))
        ∙ plus_comm k (times k (negative k 1) (value_at k f w)) (value_at k g w)
        ∙ sym (value_at-minus k is g f w)

-- (f + n g) + (g + n h) ≡ f + n h, where n g + g ≡ 0
across : (k : FieldValue) → IsField k → (a b c d : ℕ) → IsElement k d → plus k c b ≡ 0 → plus k (plus k a c) (plus k b d) ≡ plus k a d
across k is a b c d e h =
    plus_assoc k a c (plus k b d) ∙ ap (plus k a) (sym (plus_assoc k c b d)) ∙ ap (λ x. plus k a (plus k x d)) h ∙ ap (plus k a) (zero_plus k d e)

pub congruent_trans : (k : FieldValue) → IsField k → (test : Combination → Bool) → IsLinearTest k test → (f g h : Combination) → AreCongruent k test f g → AreCongruent k test g h → AreCongruent k test f h
congruent_trans k is test l f g h p q = l.sees_values (minus k f g ++ minus k g h) (minus k f h) values (l.keeps_sums (minus k f g) (minus k g h) p q)
  where
    values : HasSameValues k (minus k f g ++ minus k g h) (minus k f h)
    values w =
        value_at-append k is (minus k f g) (minus k g h) w ∙ ap (λ x. plus k x (value_at k (minus k g h) w)) (value_at-minus k is f g w)
        ∙ ap (plus k (plus k (value_at k f w) (times k (negative k 1) (value_at k g w)))) (value_at-minus k is g h w)
        ∙ across k is (value_at k f w) (value_at k g w) (times k (negative k 1) (value_at k g w)) (times k (negative k 1) (value_at k h w)) (times_is_element k (negative k 1) (value_at k h w) is) (opposite_sum k (value_at k g w) is)
        ∙ sym (value_at-minus k is f h w)

pub congruent_left : (k : FieldValue) → IsField k → (test : Combination → Bool) → IsLinearTest k test → (f f' g : Combination) → HasSameValues k f f' → AreCongruent k test f g → AreCongruent k test f' g
congruent_left k is test l f f' g same h = congruent_trans k is test l f' f g (congruent_same k is test l f' f (λ w. sym (same w))) h

pub congruent_right : (k : FieldValue) → IsField k → (test : Combination → Bool) → IsLinearTest k test → (f g g' : Combination) → HasSameValues k g g' → AreCongruent k test f g → AreCongruent k test f g'
congruent_right k is test l f g g' same h = congruent_trans k is test l f g g' h (congruent_same k is test l g g' same)

-- ---- zero

pub minus_nothing : (k : FieldValue) → IsField k → (f : Combination) → HasSameValues k (minus k f []) f
minus_nothing k is f w = value_at-minus k is f [] w ∙ ap (plus k (value_at k f w)) (times_zero k (negative k 1) is) ∙ plus_zero k (value_at k f w) (value_is_element k is f w)

pub congruent_zero : (k : FieldValue) → IsField k → (test : Combination → Bool) → IsLinearTest k test → (f : Combination) → test f ≡ true → AreCongruent k test f []
congruent_zero k is test l f h = l.sees_values f (minus k f []) (λ w. sym (minus_nothing k is f w)) h

pub zero_congruent : (k : FieldValue) → IsField k → (test : Combination → Bool) → IsLinearTest k test → (f : Combination) → AreCongruent k test f [] → test f ≡ true
zero_congruent k is test l f h = l.sees_values (minus k f []) f (minus_nothing k is f) h

-- what is congruent to a combination that passes passes
pub passes_too : (k : FieldValue) → IsField k → (test : Combination → Bool) → IsLinearTest k test → (f g : Combination) → AreCongruent k test f g → test g ≡ true → test f ≡ true
passes_too k is test l f g h p = zero_congruent k is test l f (congruent_trans k is test l f g [] h (congruent_zero k is test l g p))

-- ---- sums and multiples

pub congruent-append : (k : FieldValue) → IsField k → (test : Combination → Bool) → IsLinearTest k test → (f g f' g' : Combination) → AreCongruent k test f g → AreCongruent k test f' g' → AreCongruent k test (f ++ f') (g ++ g')
congruent-append k is test l f g f' g' p q = l.sees_values (minus k f g ++ minus k f' g') (minus k (f ++ f') (g ++ g')) values (l.keeps_sums (minus k f g) (minus k f' g') p q)
  where
    values : HasSameValues k (minus k f g ++ minus k f' g') (minus k (f ++ f') (g ++ g'))
    values w =
        value_at-append k is (minus k f g) (minus k f' g') w ∙ ap (λ x. plus k x (value_at k (minus k f' g') w)) (value_at-minus k is f g w)
        ∙ ap (plus k (plus k (value_at k f w) (times k (negative k 1) (value_at k g w)))) (value_at-minus k is f' g' w)
        ∙ swap_middle k (value_at k f w) (times k (negative k 1) (value_at k g w)) (value_at k f' w) (times k (negative k 1) (value_at k g' w))
        ∙ ap (plus k (plus k (value_at k f w) (value_at k f' w))) (sym (times_plus k (negative k 1) (value_at k g w) (value_at k g' w)))
        ∙ ap (λ x. plus k x (times k (negative k 1) (plus k (value_at k g w) (value_at k g' w)))) (sym (value_at-append k is f f' w))
        ∙ ap (λ x. plus k (value_at k (f ++ f') w) (times k (negative k 1) x)) (sym (value_at-append k is g g' w))
        ∙ sym (value_at-minus k is (f ++ f') (g ++ g') w)

pub congruent-scalar_multiple : (k : FieldValue) → IsField k → (test : Combination → Bool) → IsLinearTest k test → (c : ℕ) (f g : Combination) → AreCongruent k test f g → AreCongruent k test (scalar_multiple k c f) (scalar_multiple k c g)
congruent-scalar_multiple k is test l c f g h = l.sees_values (scalar_multiple k c (minus k f g)) (minus k (scalar_multiple k c f) (scalar_multiple k c g)) values (l.keeps_multiples c (minus k f g) h)
  where
    values : HasSameValues k (scalar_multiple k c (minus k f g)) (minus k (scalar_multiple k c f) (scalar_multiple k c g))
    values w =
        value_at-scalar_multiple k is c (minus k f g) w ∙ ap (times k c) (value_at-minus k is f g w)
        ∙ times_plus k c (value_at k f w) (times k (negative k 1) (value_at k g w))
        ∙ ap (plus k (times k c (value_at k f w))) (swap_factors k c (negative k 1) (value_at k g w))
        ∙ ap (λ x. plus k x (times k (negative k 1) (times k c (value_at k g w)))) (sym (value_at-scalar_multiple k is c f w))
        ∙ ap (λ x. plus k (value_at k (scalar_multiple k c f) w) (times k (negative k 1) x)) (sym (value_at-scalar_multiple k is c g w))
        ∙ sym (value_at-minus k is (scalar_multiple k c f) (scalar_multiple k c g) w)

-- ---- reduction to certain words

-- f is congruent to a combination of words with a property
abbrev pub IsReduced : FieldValue → (Combination → Bool) → (List ℕ → Type 0) → Combination → Type 0
IsReduced k test P f = (g : Combination) × AllByRecursion (λ t. P t.word) g × AreCongruent k test f g

reduced_sum : (k : FieldValue) → IsField k → (test : Combination → Bool) → IsLinearTest k test → (P : List ℕ → Type 0) (f : Combination) → AllByRecursion (λ t. IsReduced k test P (single t.word)) f → IsReduced k test P (linear_map k single f)
reduced_sum k is test l P [] h = ([], tt, congruent_same k is test l [] [] (λ w. refl))
reduced_sum k is test l P (t ∷ f) h =
    let (g, a, c) = h.0 in
    let (r, b, d) = reduced_sum k is test l P f h.1 in (
      scalar_multiple k t.coefficient g ++ r,
      all-append (λ u. P u.word) (scalar_multiple k t.coefficient g) r (all-scalar_multiple P k t.coefficient g a) b,
      congruent-append k is test l (scalar_multiple k t.coefficient (single t.word)) (scalar_multiple k t.coefficient g) (linear_map k single f) r (congruent-scalar_multiple k is test l t.coefficient (single t.word) g c) d,
    )

-- a combination is, where each of its words is
pub reduced_of_each : (k : FieldValue) → IsField k → (test : Combination → Bool) → IsLinearTest k test → (P : List ℕ → Type 0) (f : Combination) → AllByRecursion (λ t. IsReduced k test P (single t.word)) f → IsReduced k test P f
reduced_of_each k is test l P f h =
    let (g, a, c) = reduced_sum k is test l P f h in
    (g, a, congruent_left k is test l (linear_map k single f) f g (extended_identity k is f) c)

pub reduced_weaker : (k : FieldValue) (test : Combination → Bool) (P Q : List ℕ → Type 0) (f : Combination) → ((w : List ℕ) → P w → Q w) → IsReduced k test P f → IsReduced k test Q f
reduced_weaker k test P Q f h (g, a, c) = (g, each g a, c)
  where
    each : (g : Combination) → AllByRecursion (λ t. P t.word) g → AllByRecursion (λ t. Q t.word) g
    each [] a = tt
    each (t ∷ g) a = (h t.word a.0, each g a.1)

-- a word with the property is congruent to itself
pub reduced_itself : (k : FieldValue) → IsField k → (test : Combination → Bool) → IsLinearTest k test → (P : List ℕ → Type 0) (w : List ℕ) → P w → IsReduced k test P (single w)
reduced_itself k is test l P w h = (single w, (h, tt), congruent_same k is test l (single w) (single w) (λ v. refl))

pub reduced_through : (k : FieldValue) → IsField k → (test : Combination → Bool) → IsLinearTest k test → (P : List ℕ → Type 0) (f g : Combination) → AreCongruent k test f g → IsReduced k test P g → IsReduced k test P f
reduced_through k is test l P f g c (r, a, d) = (r, a, congruent_trans k is test l f g r c d)

-- ---- coefficients that are elements

pub with_elements : (k : FieldValue) → IsField k → (f : Combination) → HasSameValues k (scalar_multiple k 1 f) f
with_elements k is f w = value_at-scalar_multiple k is 1 f w ∙ one_times k (value_at k f w) (value_is_element k is f w)

-- the same, with elements of the field as coefficients
pub reduced_with_elements : (k : FieldValue) → IsField k → (test : Combination → Bool) → IsLinearTest k test → (P : List ℕ → Type 0) (f : Combination) → IsReduced k test P f →
    (g : Combination) × AllByRecursion (λ t. P t.word) g × AllElements k g × AreCongruent k test f g
reduced_with_elements k is test l P f (g, a, c) =
    (scalar_multiple k 1 g, all-scalar_multiple P k 1 g a, elements-scalar_multiple k is 1 g, congruent_right k is test l f g (scalar_multiple k 1 g) (λ w. sym (with_elements k is g w)) c)
