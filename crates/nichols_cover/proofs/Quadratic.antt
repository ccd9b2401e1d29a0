-- The kernel of degree 2 is the span of the relations of degree 2.
use Rattle.std.proofs.Common.{◌≡◌, ◌≢◌, ◌↔◌, ℕ, Bool, true, false, not, cond, List, [], ◌∷◌, ◌++◌, length, refl, sym, ◌∙◌, ap, ap₂, subst, arith}
use Rattle.std.specs.List.{filter, AllByRecursion, Contains}
use Rattle.std.specs.declared.cmp.Ordering.TheVariants.{Less}
use Rattle.std.proofs.lemmas.Bool.{ne_eqb}
use Rattle.std.proofs.lemmas.Bool.Decides.{Decides-eqb}
use Rattle.nichols_field.specs.Field.{FieldValue, IsField, plus, times, negative}
use Rattle.nichols_field.proofs.FieldLaws.{plus_zero, plus_assoc, times_zero, opposite_sum, zero_is_element, one_is_element}
use Rattle.nichols_field.proofs.FieldAlgebra.{one_times}
use Rattle.nichols_tensor.specs.Combination.{Combination, value_at, HasSameValues, AllElements, AllAmong, single, scalar_multiple, minus, linear_map}
use Rattle.nichols_tensor.specs.Relation.{PlainRelation}
use Rattle.nichols_tensor.specs.Words.{IsWordOver, IsOver, HasDegree, words_before}
use Rattle.nichols_tensor.specs.WordOrder.{word_cmp}
use Rattle.nichols_tensor.proofs.AllWords.{from_words_before}
use Rattle.nichols_tensor.proofs.Entries.{in_map, from_map, in_filter, from_filter}
use Rattle.nichols_tensor.proofs.Linear.{minus_is_zero}
use Rattle.nichols_tensor.proofs.Order.{less_is_other}
use Rattle.nichols_tensor.proofs.Values.{weight, weight-append, weight-scalar_multiple, value_at-linear_map, value_at-minus, value_at-append, value_is_element}
use Rattle.nichols_braid.specs.Braid.{BraidValue, IsBraid, IsLetter}
use Rattle.nichols_braid.specs.Derivation.{derived_word, skew_derivative}
use Rattle.nichols_braid.specs.Kernel.{is_killed, is_in_kernel}
use Rattle.nichols_braid.specs.Least.{is_least, basis, normal_form, candidates, relations}
use Rattle.nichols_braid.specs.LeastLaws.{IsNormalForm}
use Rattle.nichols_braid.specs.LinearTest.{IsLinearTest}
use Rattle.nichols_braid.proofs.Candidates.{in_candidates, from_candidates, relations_are, relation_at}
use Rattle.nichols_braid.proofs.Congruences.{AreCongruent, congruent_left, congruent_sym, congruent_trans}
use Rattle.nichols_braid.proofs.Forms.{congruent_extended, among-linear_map}
use Rattle.nichols_braid.proofs.Independence.{same_on_basis}
use Rattle.nichols_braid.proofs.Degrees.{minus_degree, minus_over}
use Rattle.nichols_braid.proofs.Killed.{is_killed_sound, is_killed_is_linear, is_in_kernel_is_linear}
use Rattle.nichols_braid.proofs.LeastWords.{least_unless}
use Rattle.nichols_braid.proofs.Maps.{same_weight_on, extended_identity, linear_map-sum, extended_same}
use Rattle.nichols_braid.proofs.NormalForms.{form_is_normal, form_of_least, form_of_zero}
use Rattle.nichols_braid.proofs.Reduction.{in_basis}
use Rattle.nichols_lift.proofs.Readings.{one_reading}
use Rattle.nichols_tensor.specs.Span.{IsSpanned}
use Rattle.nichols_cover.specs.Ideal.{generator, generators}
use Rattle.nichols_cover.specs.Laws.{IsQuadratic}
use Rattle.nichols_cover.proofs.ProductSpans.{spanned_passes}
use Rattle.nichols_cover.proofs.Shapes.{least_degree, least_over}
use Rattle.nichols_tensor.proofs.Spans.{spanned_same, spanned_one, spanned_words}

-- ---- letters are least

-- the value at the empty word of the derivative by a
drop_value : BraidValue → ℕ → List ℕ → ℕ
drop_value braid a v = value_at braid.field (derived_word braid a v) []

own_drop : (braid : BraidValue) → IsField braid.field → (a : ℕ) → drop_value braid a (a ∷ []) ≡ 1
unfolding drop_value derived_word
own_drop braid is a = ap (λ b. value_at braid.field (cond b (record { word = []; coefficient = 1 } ∷ []) [] ++ []) []) ((Decides-eqb a a).1 refl) ∙ plus_zero braid.field 1 (one_is_element braid.field is)

other_drop : (braid : BraidValue) (a b : ℕ) → a ≢ b → drop_value braid a (b ∷ []) ≡ 0
unfolding drop_value derived_word
other_drop braid a b other = ap (λ c. value_at braid.field (cond c (record { word = []; coefficient = 1 } ∷ []) [] ++ []) []) (ne_eqb a b other)

pub letter_is_least : (braid : BraidValue) → IsBraid braid → (a : ℕ) → IsLetter braid a → is_least is_killed braid (a ∷ []) ≡ true
unfolding AllAmong drop_value weight
letter_is_least braid is a letter = least_unless is_killed braid (a ∷ []) none
  where
    k : FieldValue
    k = braid.field

    at : (w : List ℕ) → length w ≡ 1 → w ≢ a ∷ [] → drop_value braid a w ≡ 0
    at [] e o = absurd (omega arith)
    at (b ∷ []) e o = other_drop braid a b (λ same. o (ap (λ x. x ∷ []) (sym same)))
    at (b ∷ c ∷ w) e o = absurd (omega arith)

    each : (f : Combination) → AllAmong f (words_before braid.letters (a ∷ [])) → AllByRecursion (λ t. drop_value braid a t.word ≡ 0) f
    each [] h = tt
    each (t ∷ f) h =
        let from : (length t.word ≡ 1) × IsWordOver braid.letters t.word × (word_cmp t.word (a ∷ []) ≡ Less) = from_words_before braid.letters t.word (a ∷ []) h.0 in
        (at t.word from.0 (less_is_other t.word (a ∷ []) from.2), each f h.1)

    nothing : (f : Combination) → weight braid.field (λ v. 0) f ≡ 0
    nothing [] = refl
    nothing (t ∷ f) = ap₂ (plus k) (times_zero k t.coefficient is.field) (nothing f) ∙ plus_zero k 0 (zero_is_element k is.field)

    none : (f : Combination) → AllAmong f (words_before braid.letters (a ∷ [])) → AllElements braid.field f → AreCongruent braid.field (is_killed braid 1) (single (a ∷ [])) f → ⊥
    none f among elements h =
        let g : Combination = minus k (single (a ∷ [])) f in
        let zero : value_at braid.field (skew_derivative braid a (minus braid.field (single (a ∷ [])) f)) [] ≡ 0 = is_killed_sound braid is.field 1 (minus braid.field (single (a ∷ [])) f) h a letter [] in
        let one : weight braid.field (drop_value braid a) (minus braid.field (single (a ∷ [])) f) ≡ 1 =
        weight-append k is.field (drop_value braid a) (single (a ∷ [])) (scalar_multiple k (negative k 1) f)
        ∙ ap₂ (plus k) (ap (λ n. plus k (times k 1 n) 0) (own_drop braid is.field a) ∙ ap (λ n. plus k n 0) (one_times k 1 (one_is_element k is.field)) ∙ plus_zero k 1 (one_is_element k is.field))
        (weight-scalar_multiple k is.field (drop_value braid a) (negative k 1) f
        ∙ ap (times k (negative k 1)) (same_weight_on k (drop_value braid a) (λ v. 0) f (each f among) ∙ nothing f) ∙ times_zero k (negative k 1) is.field)
        ∙ plus_zero k 1 (one_is_element k is.field) in
        let c : ◌≡◌ {A = ℕ} 1 0 = sym one ∙ sym (value_at-linear_map k is.field (derived_word braid a) g []) ∙ zero in
        cc

-- ---- a combination from its differences with normal forms

form_at : BraidValue → ℕ → List ℕ → Combination
form_at braid m w = normal_form is_killed braid m (single w)

difference_at : BraidValue → ℕ → List ℕ → Combination
difference_at braid m w = minus braid.field (single w) (form_at braid m w)

word_normal : (braid : BraidValue) → IsField braid.field → (m : ℕ) (w : List ℕ) → length w ≡ m → IsWordOver braid.letters w → IsNormalForm is_killed braid m (single w) (form_at braid m w)
unfolding form_at
word_normal braid is m w size over = form_is_normal is_killed braid is m (is_killed_is_linear braid is m) (single w) (size, tt) (over, tt)

sum_of_forms : (braid : BraidValue) → IsField braid.field → (m : ℕ) (f : Combination) → HasDegree m f → IsOver braid.letters f → HasSameValues braid.field (linear_map braid.field (form_at braid m) f) (normal_form is_killed braid m f)
sum_of_forms braid is m f size over =
    let k : FieldValue = braid.field in
    let l : IsLinearTest braid.field (is_killed braid m) = is_killed_is_linear braid is m in
    let n : IsNormalForm is_killed braid m f (normal_form is_killed braid m f) = form_is_normal is_killed braid is m l f size over in
    same_on_basis is_killed braid is m l (linear_map k (form_at braid m) f) (normal_form is_killed braid m f)
    (among-linear_map k (form_at braid m) f (basis is_killed braid m) (among f size over)) n.least
    (congruent_trans k is (is_killed braid m) l (linear_map k (form_at braid m) f) f (normal_form is_killed braid m f)
    (congruent_sym k is (is_killed braid m) l f (linear_map k (form_at braid m) f)
    (congruent_left k is (is_killed braid m) l (linear_map k single f) f (linear_map k (form_at braid m) f) (extended_identity k is f)
    (congruent_extended k is (is_killed braid m) l single (form_at braid m) f (congruent f size over))))
    n.congruent)
  where
    among : (g : Combination) → HasDegree m g → IsOver braid.letters g → AllByRecursion (λ t. AllAmong (form_at braid m t.word) (basis is_killed braid m)) g
    among [] s o = tt
    among (t ∷ g) s o = ((word_normal braid is m t.word s.0 o.0).least, among g s.1 o.1)

    congruent : (g : Combination) → HasDegree m g → IsOver braid.letters g → AllByRecursion (λ t. AreCongruent braid.field (is_killed braid m) (single t.word) (form_at braid m t.word)) g
    congruent [] s o = tt
    congruent (t ∷ g) s o = ((word_normal braid is m t.word s.0 o.0).congruent, congruent g s.1 o.1)

-- w and its normal form, from their difference
word_again : (braid : BraidValue) → IsField braid.field → (m : ℕ) (w : List ℕ) → HasSameValues braid.field (single w) (difference_at braid m w ++ form_at braid m w)
unfolding difference_at
word_again braid is m w v =
    let k : FieldValue = braid.field in
    let a : ℕ = value_at k (single w) v in
    let b : ℕ = value_at k (form_at braid m w) v in
    sym (value_at-append k is (minus k (single w) (form_at braid m w)) (form_at braid m w) v ∙ ap (λ n. plus k n b) (value_at-minus k is (single w) (form_at braid m w) v)
    ∙ plus_assoc k a (times k (negative k 1) b) b ∙ ap (plus k a) (opposite_sum k b is) ∙ plus_zero k a (value_is_element k is (single w) v))

killed_is_differences : (braid : BraidValue) → IsField braid.field → (m : ℕ) (f : Combination) → HasDegree m f → IsOver braid.letters f → is_killed braid m f ≡ true → HasSameValues braid.field f (linear_map braid.field (difference_at braid m) f)
killed_is_differences braid is m f size over h v =
    let k : FieldValue = braid.field in
    sym (extended_identity k is f v)
    ∙ extended_same k is single (λ w. difference_at braid m w ++ form_at braid m w) f (word_again braid is m) v
    ∙ linear_map-sum k is (difference_at braid m) (form_at braid m) f v
    ∙ value_at-append k is (linear_map k (difference_at braid m) f) (linear_map k (form_at braid m) f) v
    ∙ ap (plus k (value_at k (linear_map k (difference_at braid m) f) v))
    (sum_of_forms braid is m f size over v ∙ ap (λ g. value_at k g v) (form_of_zero is_killed braid is m (is_killed_is_linear braid is m) f h))
    ∙ plus_zero k (value_at k (linear_map k (difference_at braid m) f) v) (value_is_element k is (linear_map k (difference_at braid m) f) v)

-- ---- degree 2

word_is_candidate : (braid : BraidValue) → IsBraid braid → (w : List ℕ) → length w ≡ 2 → IsWordOver braid.letters w → Contains (candidates is_killed braid 2) w
word_is_candidate braid is [] e o = absurd (omega arith)
word_is_candidate braid is (a ∷ []) e o = absurd (omega arith)
word_is_candidate braid is (a ∷ b ∷ []) e o = in_candidates is_killed braid 1 (a ∷ []) b (in_basis is_killed braid 1 (a ∷ []) refl (o.0, tt) (letter_is_least braid is a o.0)) o.1.0
word_is_candidate braid is (a ∷ b ∷ c ∷ w) e o = absurd (omega arith)

difference_spanned : (braid : BraidValue) → IsBraid braid → (w : List ℕ) → length w ≡ 2 → IsWordOver braid.letters w → IsSpanned braid.field (λ g. Contains (generators braid.field (relations is_killed braid 2)) g) (difference_at braid 2 w)
unfolding difference_at form_at
difference_spanned braid is w size over = at (is_least is_killed braid w) refl
  where
    P : Combination → Type 0
    P g = Contains (generators braid.field (relations is_killed braid 2)) g

    at : (b : Bool) → is_least is_killed braid w ≡ b → IsSpanned braid.field (λ g. Contains (generators braid.field (relations is_killed braid 2)) g) (minus braid.field (single w) (normal_form is_killed braid 2 (single w)))
    at true e =
        IsSpanned.none (minus braid.field (single w) (normal_form is_killed braid 2 (single w)))
        (minus_is_zero braid.field is.field (single w) (normal_form is_killed braid 2 (single w))
        (λ v. ap (λ g. value_at braid.field g v) (sym (form_of_least is_killed braid is.field 2 (is_killed_is_linear braid is.field 2) w (in_basis is_killed braid 2 w size over e)))))
    at false e =
        spanned_one braid.field is.field P (minus braid.field (single w) (normal_form is_killed braid 2 (single w)))
        (in_map (λ (r : PlainRelation). minus braid.field (single r.candidate) r.form) (relation_at is_killed braid 2 w) (relations is_killed braid 2)
        (subst (λ rs. Contains rs (relation_at is_killed braid 2 w)) (sym (relations_are is_killed braid 2))
        (in_map (relation_at is_killed braid 2) w (filter (λ v. not (is_least is_killed braid v)) (candidates is_killed braid 2))
        (in_filter (λ v. not (is_least is_killed braid v)) w (candidates is_killed braid 2) (word_is_candidate braid is w size over) (ap not e)))))

generator_killed : (braid : BraidValue) → IsBraid braid → (g : Combination) → Contains (generators braid.field (relations is_killed braid 2)) g → is_killed braid 2 g ≡ true
unfolding form_at
generator_killed braid is g i =
    let (r, j, e) = from_map (λ (r : PlainRelation). minus braid.field (single r.candidate) r.form) g (relations is_killed braid 2) i in
    let (w, l, d) = from_map (relation_at is_killed braid 2) r (filter (λ v. not (is_least is_killed braid v)) (candidates is_killed braid 2)) (subst (λ rs. Contains rs r) (relations_are is_killed braid 2) j) in
    let own : (length w ≡ 2) × IsWordOver braid.letters w = from_candidates is_killed braid 2 w (from_filter (λ v. not (is_least is_killed braid v)) w (candidates is_killed braid 2) l).0 in
    subst (λ x. is_killed braid 2 x ≡ true) (sym (e ∙ ap (λ (s : PlainRelation). minus braid.field (single s.candidate) s.form) d)) (word_normal braid is.field 2 w own.0 own.1).congruent

killed_spanned : (braid : BraidValue) → IsBraid braid → (f : Combination) → HasDegree 2 f → IsOver braid.letters f → is_killed braid 2 f ≡ true → IsSpanned braid.field (λ g. Contains (generators braid.field (relations is_killed braid 2)) g) f
killed_spanned braid is f size over h =
    spanned_same braid.field (λ g. Contains (generators braid.field (relations is_killed braid 2)) g) f (linear_map braid.field (difference_at braid 2) f) (killed_is_differences braid is.field 2 f size over h)
    (spanned_words braid.field is.field (λ g. Contains (generators braid.field (relations is_killed braid 2)) g) (difference_at braid 2) f (each f size over))
  where
    each : (g : Combination) → HasDegree 2 g → IsOver braid.letters g → AllByRecursion (λ t. IsSpanned braid.field (λ x. Contains (generators braid.field (relations is_killed braid 2)) x) (difference_at braid 2 t.word)) g
    each [] s o = tt
    each (t ∷ g) s o = (difference_spanned braid is t.word s.0 o.0, each g s.1 o.1)

-- what is in the kernel of degree 2 is in the span of the relations of degree 2
abbrev RelationsSpanTheKernel : Type 0
RelationsSpanTheKernel =
    (braid : BraidValue) → IsBraid braid → (f : Combination) → HasDegree 2 f → IsOver braid.letters f →
    (is_in_kernel braid 2 f ≡ true) ↔ IsSpanned braid.field (λ g. Contains (generators braid.field (relations is_in_kernel braid 2)) g) f

pub relations_span_the_kernel : RelationsSpanTheKernel
relations_span_the_kernel braid is f size over = (
  λ h. subst (λ rs. IsSpanned braid.field (λ g. Contains (generators braid.field rs) g) f) (sym same) (killed_spanned braid is f size over (sym agree ∙ h)),
  λ s. agree ∙ spanned_passes braid.field (is_killed braid 2) (is_killed_is_linear braid is.field 2) (λ g. Contains (generators braid.field (relations is_killed braid 2)) g) (generator_killed braid is) f
      (subst (λ rs. IsSpanned braid.field (λ g. Contains (generators braid.field rs) g) f) same s),
)
  where
    same : relations is_in_kernel braid 2 ≡ relations is_killed braid 2
    same = (one_reading braid is).alike.relation_lists 2

    agree : is_in_kernel braid 2 f ≡ is_killed braid 2 f
    agree = (one_reading braid is).agree 2 f size over

-- the generators are combinations of words of two letters
pub generator_quadratic : (braid : BraidValue) → IsBraid braid → (g : Combination) → Contains (generators braid.field (relations is_in_kernel braid 2)) g → IsQuadratic braid.letters g
generator_quadratic braid is g i =
    let (r, j, e) = from_map (generator braid.field) g (relations is_in_kernel braid 2) i in
    let (w, l, d) = from_map (relation_at is_in_kernel braid 2) r (filter (λ v. not (is_least is_in_kernel braid v)) (candidates is_in_kernel braid 2)) (subst (λ rs. Contains rs r) (relations_are is_in_kernel braid 2) j) in
    let own : (length w ≡ 2) × IsWordOver braid.letters w = from_candidates is_in_kernel braid 2 w (from_filter (λ v. not (is_least is_in_kernel braid v)) w (candidates is_in_kernel braid 2) l).0 in
    let form : Combination = normal_form is_in_kernel braid 2 (single w) in
    let n : IsNormalForm is_in_kernel braid 2 (single w) (normal_form is_in_kernel braid 2 (single w)) =
    form_is_normal is_in_kernel braid is.field 2 (is_in_kernel_is_linear braid is.field 2) (single w) (own.0, tt) (own.1, tt) in
    subst (IsQuadratic braid.letters) (sym (e ∙ ap (generator braid.field) d))
    (minus_degree braid.field 2 (single w) form (own.0, tt) (least_degree is_in_kernel braid 2 form n.least), minus_over braid.field braid.letters (single w) form (own.1, tt) (least_over is_in_kernel braid 2 form n.least))
