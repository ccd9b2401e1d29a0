-- The laws of this crate, each as its statement has it.
use Rattle.std.proofs.Common.{◌≡◌, ◌≢◌, ◌↔◌, ℕ, suc, ◌<◌, ◌≤◌, Bool, true, false, not, nat_eq, nat_lt, List, [], ◌∷◌, ◌++◌, length, refl, sym, ◌∙◌, ap, ap₂, subst, arith, flat_map, inl, inr}
use Rattle.std.specs.Prelude.{◌&&◌, if◌then◌else◌}
use Rattle.std.specs.List.{AllByRecursion, Contains}
use Rattle.std.proofs.lemmas.Bool.{and_parts, cases_lt, false_from_ne_true, not_from_false}
use Rattle.std.proofs.lemmas.Bool.Decides.{Decides-eqb, Decides-ltb, eqb_tells}
use Rattle.std.proofs.lemmas.List.{nil_from_length}
use Rattle.nichols_field.specs.Field.{FieldValue, IsField, plus, times}
use Rattle.nichols_tensor.specs.Combination.{Combination, value_at, minus, scalar_multiple}
use Rattle.nichols_tensor.specs.Parts.{part_of_degree, longest, degrees_of}
use Rattle.nichols_tensor.specs.Words.{IsOver, IsWordOver}
use Rattle.nichols_tensor.proofs.Over.{all-append, all-scalar_multiple, all-weaker}
use Rattle.nichols_tensor.proofs.Parts.{part-append, part-scalar_multiple, part_of_none, degree-part, over-part}
use Rattle.nichols_tensor.proofs.Values.{value_at-append, value_at-scalar_multiple}
use Rattle.nichols_braid.specs.Braid.{BraidValue, IsBraid}
use Rattle.nichols_braid.specs.End.{is_empty_degree}
use Rattle.nichols_braid.specs.Kernel.{Vanishing, IsInKernel, is_in_kernel, is_killed}
use Rattle.nichols_braid.specs.Least.{basis, normal_form}
use Rattle.nichols_braid.specs.LeastLaws.{IsLinearOnDegree}
use Rattle.nichols_braid.specs.LinearTest.{IsLinearTest}
use Rattle.nichols_braid.specs.RightIdealTest.{IsRightIdealTest}
use Rattle.nichols_braid.specs.WholeForm.{normal_form_by_parts}
use Rattle.nichols_braid.specs.WholeKernel.{vanishes_by_parts}
use Rattle.nichols_braid.specs.WholeLaws.{IsNormalFormByParts}
use Rattle.nichols_braid.proofs.BraidLaws.{kernel_is_linear, killed_is_linear}
use Rattle.nichols_braid.proofs.Congruences.{congruent_same}
use Rattle.nichols_braid.proofs.Degrees.{minus_over}
use Rattle.nichols_braid.proofs.NormalForms.{form_is_linear, form_of_zero}
use Rattle.nichols_braid.proofs.Prefixes.{stays_empty}
use Rattle.nichols_braid.proofs.Reduction.{from_basis}
use Rattle.nichols_braid.proofs.WholeForms.{normal_forms_by_parts, forms_by_parts_tell_classes}
use Rattle.nichols_braid.proofs.WholeKernel.{by_parts, part-minus, value_in_part, kernel_by_parts}
use Rattle.nichols_lift.specs.Reading.{IsReading}
use Rattle.nichols_lift.proofs.Readings.{one_reading, reading_is_ideal}
use Rattle.nichols_reduce.specs.Laws.{AnswersAreKnown, LongWordsAreZero, FormsHaveOneReading, FormsTellElements, FormsAreLinear, FormsAreTheirOwn}
use Rattle.nichols_reduce.specs.Normal.{is_beyond, normal_of}
use Rattle.nichols_reduce.specs.declared.answer.Normal.{Normal}
use Rattle.nichols_reduce.specs.declared.answer.Normal.TheVariants.{Form, Beyond}
use Rattle.nichols_reduce.proofs.LastDegree.{form_in_empty_degree, nothing_from}

-- ---- one reading

same_flat : (g h : ℕ → Combination) → ((m : ℕ) → g m ≡ h m) → (ms : List ℕ) → flat_map g ms ≡ flat_map h ms
same_flat g h same [] = refl
same_flat g h same (m ∷ ms) = ap₂ (λ x y. x ++ y) (same m) (same_flat g h same ms)

pub forms_have_one_reading : FormsHaveOneReading
unfolding normal_form_by_parts
forms_have_one_reading braid is f over =
    same_flat (λ m. normal_form is_killed braid m (part_of_degree m f)) (λ m. normal_form is_in_kernel braid m (part_of_degree m f))
    (λ m. sym ((one_reading braid is).alike.forms m (part_of_degree m f) (degree-part m f) (over-part braid.letters (λ w. nat_eq (length w) m) f over))) (degrees_of f)

-- ---- long words

short_part : (m n : ℕ) (f : Combination) → AllByRecursion (λ t. m ≤ length t.word) f → n < m → part_of_degree n f ≡ []
short_part m n f long less =
    part_of_none (λ w. nat_eq (length w) n) f
    (all-weaker (λ t. m ≤ length t.word) (λ t. nat_eq (length t.word) n ≡ false) (λ t h. elim (eqb_tells (length t.word) n) [ inl same ↦ absurd (let e : length t.word ≡ n = same.1 in omega arith) | inr apart ↦ apart.0 ]) f long)

pub long_words_are_zero : LongWordsAreZero
unfolding normal_form_by_parts degrees_of
long_words_are_zero vanishes braid is reading m none f over long =
    let ideal : IsRightIdealTest braid (vanishes braid) = reading_is_ideal braid is vanishes reading in
    nothing_from (λ n. normal_form vanishes braid n (part_of_degree n f)) 0 (suc (longest f))
    (λ n low. elim (cases_lt n m) [
      | inl less ↦ ap (normal_form vanishes braid n) (short_part m n f long less) ∙ form_of_zero vanishes braid is.field n (ideal.linear n) [] (ideal.linear n).holds_of_zero
      | inr more ↦ form_in_empty_degree vanishes braid is n (ideal.linear n) f over (stays_empty braid is.field vanishes ideal m n more none)
    ])

-- ---- classes

kernel_of_reading : (braid : BraidValue) → IsBraid braid → (vanishes : Vanishing) → IsReading vanishes → (f : Combination) → IsOver braid.letters f → (vanishes_by_parts vanishes braid f ≡ true) ↔ IsInKernel braid f
kernel_of_reading braid is vanishes (inl e) f over = subst (λ v. (vanishes_by_parts v braid f ≡ true) ↔ IsInKernel braid f) (sym e) (kernel_by_parts braid is f).kernel_test
kernel_of_reading braid is vanishes (inr e) f over =
    subst (λ v. (vanishes_by_parts v braid f ≡ true) ↔ IsInKernel braid f) (sym e) (
      λ h. (kernel_by_parts braid is f).kernel_test.0 ((by_parts is_in_kernel braid (kernel_is_linear braid is) f).1 (λ m. agree m ∙ (by_parts is_killed braid (killed_is_linear braid is) f).0 h m)),
      λ h. (by_parts is_killed braid (killed_is_linear braid is) f).1 (λ m. sym (agree m) ∙ (by_parts is_in_kernel braid (kernel_is_linear braid is) f).0 ((kernel_by_parts braid is f).kernel_test.1 h) m),
    )
  where
    agree : (m : ℕ) → is_in_kernel braid m (part_of_degree m f) ≡ is_killed braid m (part_of_degree m f)
    agree m = (one_reading braid is).agree m (part_of_degree m f) (degree-part m f) (over-part braid.letters (λ w. nat_eq (length w) m) f over)

pub forms_tell_elements : FormsTellElements
forms_tell_elements vanishes braid is reading f g of og =
    let l : (m : ℕ) → IsLinearTest braid.field (vanishes braid m) = (reading_is_ideal braid is vanishes reading).linear in
    let classes : (normal_form_by_parts vanishes braid f ≡ normal_form_by_parts vanishes braid g) ↔ (vanishes_by_parts vanishes braid (minus braid.field f g) ≡ true) = forms_by_parts_tell_classes vanishes braid is.field l f g of og in
    let kernel : (vanishes_by_parts vanishes braid (minus braid.field f g) ≡ true) ↔ IsInKernel braid (minus braid.field f g) = kernel_of_reading braid is vanishes reading (minus braid.field f g) (minus_over braid.field braid.letters f g of og) in
    (λ same. kernel.0 (classes.0 same), λ h. classes.1 (kernel.1 h))

-- ---- linear

-- the value of the form is that of the form of the part
form_value : (vanishes : Vanishing) (braid : BraidValue) → IsField braid.field → ((m : ℕ) → IsLinearTest braid.field (vanishes braid m)) → (f : Combination) → IsOver braid.letters f → (w : List ℕ) →
    value_at braid.field (normal_form_by_parts vanishes braid f) w ≡ value_at braid.field (normal_form vanishes braid (length w) (part_of_degree (length w) f)) w
form_value vanishes braid is l f over w =
    sym (value_in_part braid.field is (normal_form_by_parts vanishes braid f) w) ∙ ap (λ g. value_at braid.field g w) ((normal_forms_by_parts vanishes braid is l f over).parts (length w))

pub forms_are_linear : FormsAreLinear
forms_are_linear vanishes braid is reading = record { sums = sums; multiples = multiples }
  where
    k : FieldValue
    k = braid.field

    l : (m : ℕ) → IsLinearTest braid.field (vanishes braid m)
    l = (reading_is_ideal braid is vanishes reading).linear

    whole : Combination → Combination
    whole f = normal_form_by_parts vanishes braid f

    nf : ℕ → Combination → Combination
    nf m f = normal_form vanishes braid m f

    linear : (m : ℕ) → IsLinearOnDegree vanishes braid m
    linear m = form_is_linear vanishes braid is.field m (l m)

    own : (m : ℕ) (f : Combination) → IsOver braid.letters f → IsOver braid.letters (part_of_degree m f)
    own m f over = over-part braid.letters (λ w. nat_eq (length w) m) f over

    sums : (f g : Combination) → IsOver braid.letters f → IsOver braid.letters g → (w : List ℕ) →
        value_at braid.field (normal_form_by_parts vanishes braid (f ++ g)) w ≡ value_at braid.field (normal_form_by_parts vanishes braid f ++ normal_form_by_parts vanishes braid g) w
    sums f g of og w =
        let m : ℕ = length w in
        form_value vanishes braid is.field l (f ++ g) (all-append (λ t. IsWordOver braid.letters t.word) f g of og) w
        ∙ ap (λ h. value_at k (nf (length w) h) w) (part-append (λ v. nat_eq (length v) (length w)) f g)
        ∙ (linear (length w)).sums (part_of_degree (length w) f) (part_of_degree (length w) g) (degree-part (length w) f) (own (length w) f of) (degree-part (length w) g) (own (length w) g og) w
        ∙ value_at-append k is.field (nf (length w) (part_of_degree (length w) f)) (nf (length w) (part_of_degree (length w) g)) w
        ∙ ap₂ (plus k) (sym (form_value vanishes braid is.field l f of w)) (sym (form_value vanishes braid is.field l g og w))
        ∙ sym (value_at-append k is.field (whole f) (whole g) w)

    multiples : (c : ℕ) (f : Combination) → IsOver braid.letters f → (w : List ℕ) →
        value_at braid.field (normal_form_by_parts vanishes braid (scalar_multiple braid.field c f)) w ≡ value_at braid.field (scalar_multiple braid.field c (normal_form_by_parts vanishes braid f)) w
    multiples c f of w =
        form_value vanishes braid is.field l (scalar_multiple k c f) (all-scalar_multiple (λ v. IsWordOver braid.letters v) k c f of) w
        ∙ ap (λ h. value_at k (nf (length w) h) w) (part-scalar_multiple k (λ v. nat_eq (length v) (length w)) c f)
        ∙ (linear (length w)).multiples c (part_of_degree (length w) f) (degree-part (length w) f) (own (length w) f of) w
        ∙ value_at-scalar_multiple k is.field c (nf (length w) (part_of_degree (length w) f)) w
        ∙ ap (times k c) (sym (form_value vanishes braid is.field l f of w))
        ∙ sym (value_at-scalar_multiple k is.field c (whole f) w)

-- ---- its own form

over_of_least : (vanishes : Vanishing) (braid : BraidValue) (g : Combination) → AllByRecursion (λ t. Contains (basis vanishes braid (length t.word)) t.word) g → IsOver braid.letters g
over_of_least vanishes braid [] h = tt
over_of_least vanishes braid (t ∷ g) h = ((from_basis vanishes braid (length t.word) t.word h.0).1, over_of_least vanishes braid g h.1)

pub forms_are_their_own : FormsAreTheirOwn
forms_are_their_own vanishes braid is reading f over =
    (normal_forms_by_parts vanishes braid is.field l g (over_of_least vanishes braid g n.least)).unique g (record {
      least = n.least;
      ordered = n.ordered;
      elements = n.elements;
      congruent = (by_parts vanishes braid l (minus braid.field g g)).1
          (λ m. subst (λ d. vanishes braid m d ≡ true) (sym (part-minus braid.field (λ w. nat_eq (length w) m) g g)) (congruent_same braid.field is.field (vanishes braid m) (l m) (part_of_degree m g) (part_of_degree m g) (λ w. refl)));
    })
  where
    l : (m : ℕ) → IsLinearTest braid.field (vanishes braid m)
    l = (reading_is_ideal braid is vanishes reading).linear

    g : Combination
    g = normal_form_by_parts vanishes braid f

    n : IsNormalFormByParts vanishes braid f g
    n = (normal_forms_by_parts vanishes braid is.field l f over).normal

-- ---- the answer

some_left : (ws : List (List ℕ)) → not (nat_eq (length ws) 0) ≡ true → ws ≢ []
some_left ws h none = let c : false ≡ true = sym (ap (λ vs. not (nat_eq (length vs) 0)) none) ∙ h in cc

some_counted : (ws : List (List ℕ)) → ws ≢ [] → not (nat_eq (length ws) 0) ≡ true
some_counted ws other = not_from_false (nat_eq (length ws) 0) (false_from_ne_true (nat_eq (length ws) 0) (λ e. other (nil_from_length ws ((Decides-eqb (length ws) 0).0 e))))

pub answers_are_known : AnswersAreKnown
unfolding normal_of is_beyond
answers_are_known braid last f = record { beyond = λ m. (to m, from m); form = form }
  where
    pick : Bool → Normal
    pick b = if b then Beyond last else Form (normal_form_by_parts is_killed braid f)

    test : Bool
    test = nat_lt last (longest f) && not (is_empty_degree is_killed braid last)

    to : (m : ℕ) → pick test ≡ Beyond m → (m ≡ last) × (basis is_killed braid last ≢ []) × (last < longest f)
    to m h = at test refl h
      where
        at : (b : Bool) → test ≡ b → pick b ≡ Beyond m → (m ≡ last) × (basis is_killed braid last ≢ []) × (last < longest f)
        at true e k =
            let (less, some) = and_parts (nat_lt last (longest f)) (not (is_empty_degree is_killed braid last)) e in
            let same : Beyond last ≡ Beyond m = k in
            (cc, some_left (basis is_killed braid last) some, (Decides-ltb last (longest f)).0 less)
        at false e k = absurd (let c : Form (normal_form_by_parts is_killed braid f) ≡ Beyond m = k in cc)

    from : (m : ℕ) → (m ≡ last) × (basis is_killed braid last ≢ []) × (last < longest f) → pick test ≡ Beyond m
    from m h = ap pick (ap₂ (λ s t. s && t) ((Decides-ltb last (longest f)).1 h.2) (some_counted (basis is_killed braid last) h.1)) ∙ ap Beyond (sym h.0)

    form : (g : Combination) → pick test ≡ Form g → g ≡ normal_form_by_parts is_killed braid f
    form g h = at test h
      where
        at : (b : Bool) → pick b ≡ Form g → g ≡ normal_form_by_parts is_killed braid f
        at true k = absurd (let c : Beyond last ≡ Form g = k in cc)
        at false k = let c : Form (normal_form_by_parts is_killed braid f) ≡ Form g = k in cc
