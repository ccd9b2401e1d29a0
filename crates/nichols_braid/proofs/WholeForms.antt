-- Normal forms of combinations whose words have several lengths: the normal forms of the parts, one after the other.
use Rattle.std.proofs.Common.{◌≡◌, ◌≢◌, ℕ, zero, suc, ◌+◌, ◌<◌, ◌≤◌, Bool, true, false, cond, nat_eq, List, [], ◌∷◌, ◌++◌, length, refl, sym, ◌∙◌, ap, ap₂, subst, arith, ◌⊎◌, inl, inr}
use Rattle.std.specs.List.{AllByRecursion, Contains, flat_map, range_with_len}
use Rattle.std.specs.Ordering.{nat_cmp, ordering_then}
use Rattle.std.specs.Cmp.Lexicographic.{slice_cmp}
use Rattle.std.specs.declared.cmp.Ordering.TheVariants.{Less}
use Rattle.std.proofs.lemmas.Bool.{cases_lt, cases_eq}
use Rattle.std.proofs.lemmas.Bool.Decides.{Decides-eqb}
use Rattle.std.proofs.lemmas.List.{map-append, append-nil}
use Rattle.nichols_field.specs.Field.{FieldValue, IsField, IsElement}
use Rattle.nichols_tensor.specs.Combination.{Term, Combination, value_at, words_of, AllElements, AllAmong, minus}
use Rattle.nichols_tensor.specs.Parts.{part_of_degree, longest, degrees_of}
use Rattle.nichols_tensor.specs.Words.{IsOver, HasDegree}
use Rattle.nichols_tensor.specs.WordOrder.{word_cmp, IsRising, IsOrdered}
use Rattle.nichols_tensor.proofs.AllWords.{number_below}
use Rattle.nichols_tensor.proofs.Ordered.{ordered_unique}
use Rattle.nichols_tensor.proofs.Over.{all-append, all-weaker, all_at, all_of_words, all_among}
use Rattle.nichols_tensor.proofs.Parts.{part-append, elements-part, over-part, ordered-part, degree-part, part_of_own_degree, part_of_other_degree}
use Rattle.nichols_tensor.proofs.Rising.{rising-append}
use Rattle.nichols_tensor.proofs.Tests.{all_of_entries}
use Rattle.nichols_braid.specs.Braid.{BraidValue}
use Rattle.nichols_braid.specs.Kernel.{Vanishing}
use Rattle.nichols_braid.specs.Least.{basis, normal_form}
use Rattle.nichols_braid.specs.LeastLaws.{IsNormalForm}
use Rattle.nichols_braid.specs.LinearTest.{IsLinearTest}
use Rattle.nichols_braid.specs.WholeKernel.{vanishes_by_parts}
use Rattle.nichols_braid.specs.WholeForm.{normal_form_by_parts}
use Rattle.nichols_braid.specs.WholeLaws.{IsNormalFormByParts, NormalFormsByParts, FormsByPartsTellClasses}
use Rattle.nichols_braid.proofs.NormalForms.{form_is_normal, form_is, form_of_class, class_of_form, form_of_zero}
use Rattle.nichols_braid.proofs.Reduction.{from_basis}
use Rattle.nichols_braid.proofs.WholeKernel.{part_beyond, by_parts, part-minus, value_in_part}

-- ---- combinations of one degree after the other

-- a combination of each degree from a on, n of them
abbrev row : (ℕ → Combination) → ℕ → ℕ → Combination
row g a n = flat_map g (range_with_len a n)

all-row : (P : Term → Type 0) (g : ℕ → Combination) → ((m : ℕ) → AllByRecursion P (g m)) → (a n : ℕ) → AllByRecursion P (row g a n)
all-row P g each a zero = tt
all-row P g each a (suc n) = all-append P (g a) (row g (a + 1) n) (each a) (all-row P g each (a + 1) n)

part_outside : (g : ℕ → Combination) → ((m : ℕ) → HasDegree m (g m)) → (m a n : ℕ) → (m < a) ⊎ (a + n ≤ m) → part_of_degree m (row g a n) ≡ []
part_outside g degree m a zero outside = refl
part_outside g degree m a (suc n) outside =
    part-append (λ w. nat_eq (length w) m) (g a) (row g (a + 1) n)
    ∙ ap₂ (λ x y. x ++ y) (part_of_other_degree a m (g a) (degree a) (λ e. elim outside [ inl less ↦ omega arith | inr more ↦ omega arith ]))
    (part_outside g degree m (a + 1) n (elim outside [ inl less ↦ inl (omega arith) | inr more ↦ inr (omega arith) ]))

part_within : (g : ℕ → Combination) → ((m : ℕ) → HasDegree m (g m)) → (m a n : ℕ) → a ≤ m → m < a + n → part_of_degree m (row g a n) ≡ g m
part_within g degree m a zero from to = absurd (omega arith)
part_within g degree m a (suc n) from to =
    part-append (λ w. nat_eq (length w) m) (g a) (row g (a + 1) n)
    ∙ elim (cases_eq m a) [
      | inl same ↦ ap₂ (λ x y. x ++ y) (subst (λ d. part_of_degree d (g a) ≡ g d) (sym same) (part_of_own_degree a (g a) (degree a))) (part_outside g degree m (a + 1) n (inl (omega arith))) ∙ append-nil (g m)
      | inr other ↦ ap₂ (λ x y. x ++ y) (part_of_other_degree a m (g a) (degree a) other) (part_within g degree m (a + 1) n (omega arith) (omega arith))
    ]

shorter_less : (v w : List ℕ) → length v < length w → word_cmp v w ≡ Less
shorter_less v w less = ap (λ o. ordering_then o (slice_cmp nat_cmp v w)) (number_below (length v) (length w) less)

long-row : (g : ℕ → Combination) → ((m : ℕ) → HasDegree m (g m)) → (a n : ℕ) → AllByRecursion (λ t. a ≤ length t.word) (row g a n)
long-row g degree a zero = tt
long-row g degree a (suc n) =
    all-append (λ t. a ≤ length t.word) (g a) (row g (a + 1) n) (all-weaker (λ t. length t.word ≡ a) (λ t. a ≤ length t.word) (λ t e. omega arith) (g a) (degree a))
    (all-weaker (λ t. a + 1 ≤ length t.word) (λ t. a ≤ length t.word) (λ t h. omega arith) (row g (a + 1) n) (long-row g degree (a + 1) n))

rising-row : (g : ℕ → Combination) → ((m : ℕ) → HasDegree m (g m)) → ((m : ℕ) → IsRising (words_of (g m))) → (a n : ℕ) → IsRising (words_of (row g a n))
rising-row g degree rising a zero = tt
rising-row g degree rising a (suc n) =
    subst IsRising (sym (map-append (λ (t : Term). t.word) (g a) (row g (a + 1) n)))
    (rising-append (words_of (g a)) (words_of (row g (a + 1) n)) (rising a) (rising-row g degree rising (a + 1) n)
    (λ v u i j.
    let short : length v ≡ a = all_at (λ w. length w ≡ a) (words_of (g a)) v (all_of_words (λ w. length w ≡ a) (g a) (degree a)) i in
    let long : a + 1 ≤ length u = all_at (λ w. a + 1 ≤ length w) (words_of (row g (a + 1) n)) u (all_of_words (λ w. a + 1 ≤ length w) (row g (a + 1) n) (long-row g degree (a + 1) n)) j in
    shorter_less v u (omega arith)))

-- combinations in order with the same parts are one
same_parts : (k : FieldValue) → IsField k → (f g : Combination) → AllElements k f → AllElements k g → IsOrdered f → IsOrdered g → ((m : ℕ) → part_of_degree m f ≡ part_of_degree m g) → f ≡ g
same_parts k is f g ef eg of og same =
    ordered_unique k is f g ef eg of og (λ w. sym (value_in_part k is f w) ∙ ap (λ h. value_at k h w) (same (length w)) ∙ value_in_part k is g w)

-- ---- the normal form of a combination

-- the normal form of the part of a degree
abbrev form : Vanishing → BraidValue → Combination → ℕ → Combination
form vanishes braid f m = normal_form vanishes braid m (part_of_degree m f)

form_of_part : (vanishes : Vanishing) (braid : BraidValue) → IsField braid.field → ((m : ℕ) → IsLinearTest braid.field (vanishes braid m)) → (f : Combination) → IsOver braid.letters f → (m : ℕ) →
    IsNormalForm vanishes braid m (part_of_degree m f) (form vanishes braid f m)
form_of_part vanishes braid is l f over m = form_is_normal vanishes braid is m (l m) (part_of_degree m f) (degree-part m f) (over-part braid.letters (λ w. nat_eq (length w) m) f over)

pub least_have_degree : (vanishes : Vanishing) (braid : BraidValue) (m : ℕ) (g : Combination) → AllAmong g (basis vanishes braid m) → HasDegree m g
least_have_degree vanishes braid m g among =
    all_among (λ w. length w ≡ m) g (basis vanishes braid m) among (all_of_entries (λ w. length w ≡ m) (basis vanishes braid m) (λ w i. (from_basis vanishes braid m w i).0))

least_of_own_degree : (vanishes : Vanishing) (braid : BraidValue) (m : ℕ) (g : Combination) → AllAmong g (basis vanishes braid m) → AllByRecursion (λ t. Contains (basis vanishes braid (length t.word)) t.word) g
least_of_own_degree vanishes braid m g among =
    all_among (λ w. Contains (basis vanishes braid (length w)) w) g (basis vanishes braid m) among
    (all_of_entries (λ w. Contains (basis vanishes braid (length w)) w) (basis vanishes braid m) (λ w i. subst (λ d. Contains (basis vanishes braid d) w) (sym (from_basis vanishes braid m w i).0) i))

form_of_nothing : (vanishes : Vanishing) (braid : BraidValue) → IsField braid.field → (m : ℕ) → IsLinearTest braid.field (vanishes braid m) → normal_form vanishes braid m [] ≡ []
form_of_nothing vanishes braid is m l = form_of_zero vanishes braid is m l [] l.holds_of_zero

-- its part of each degree is the normal form of the part
parts_of_form : (vanishes : Vanishing) (braid : BraidValue) → IsField braid.field → ((m : ℕ) → IsLinearTest braid.field (vanishes braid m)) → (f : Combination) → IsOver braid.letters f → (m : ℕ) →
    part_of_degree m (normal_form_by_parts vanishes braid f) ≡ form vanishes braid f m
unfolding normal_form_by_parts degrees_of
parts_of_form vanishes braid is l f over m =
    elim (cases_lt (longest f) m) [
      | inl beyond ↦ part_outside (form vanishes braid f) degree m 0 (suc (longest f)) (inr (omega arith)) ∙ sym (ap (normal_form vanishes braid m) (part_beyond m f beyond) ∙ form_of_nothing vanishes braid is m (l m))
      | inr within ↦ part_within (form vanishes braid f) degree m 0 (suc (longest f)) (omega arith) (omega arith)
    ]
  where
    degree : (m : ℕ) → HasDegree m (form vanishes braid f m)
    degree m = least_have_degree vanishes braid m (form vanishes braid f m) (form_of_part vanishes braid is l f over m).least

-- parts that are congruent to those of g
congruent_by_parts : (vanishes : Vanishing) (braid : BraidValue) → ((m : ℕ) → IsLinearTest braid.field (vanishes braid m)) → (f g : Combination) → ((m : ℕ) → vanishes braid m (minus braid.field (part_of_degree m f) (part_of_degree m g)) ≡ true) →
    vanishes_by_parts vanishes braid (minus braid.field f g) ≡ true
congruent_by_parts vanishes braid l f g h =
    (by_parts vanishes braid l (minus braid.field f g)).1 (λ m. subst (λ d. vanishes braid m d ≡ true) (sym (part-minus braid.field (λ w. nat_eq (length w) m) f g)) (h m))

congruent_parts : (vanishes : Vanishing) (braid : BraidValue) → ((m : ℕ) → IsLinearTest braid.field (vanishes braid m)) → (f g : Combination) → vanishes_by_parts vanishes braid (minus braid.field f g) ≡ true → (m : ℕ) →
    vanishes braid m (minus braid.field (part_of_degree m f) (part_of_degree m g)) ≡ true
congruent_parts vanishes braid l f g h m =
    subst (λ d. vanishes braid m d ≡ true) (part-minus braid.field (λ w. nat_eq (length w) m) f g) ((by_parts vanishes braid l (minus braid.field f g)).0 h m)

-- what holds of the normal form of each part holds of them all
laid_out : (vanishes : Vanishing) (braid : BraidValue) (f : Combination) → ((m : ℕ) → IsNormalForm vanishes braid m (part_of_degree m f) (form vanishes braid f m)) →
    AllByRecursion (λ t. Contains (basis vanishes braid (length t.word)) t.word) (normal_form_by_parts vanishes braid f) × IsOrdered (normal_form_by_parts vanishes braid f) × AllElements braid.field (normal_form_by_parts vanishes braid f)
unfolding normal_form_by_parts degrees_of
laid_out vanishes braid f normal = (
  all-row (λ t. Contains (basis vanishes braid (length t.word)) t.word) (form vanishes braid f) (λ m. least_of_own_degree vanishes braid m (form vanishes braid f m) (normal m).least) 0 (suc (longest f)),
  record {
    rising = rising-row (form vanishes braid f) (λ m. least_have_degree vanishes braid m (form vanishes braid f m) (normal m).least) (λ m. (normal m).ordered.rising) 0 (suc (longest f));
    nonzero = all-row (λ t. t.coefficient ≢ 0) (form vanishes braid f) (λ m. (normal m).ordered.nonzero) 0 (suc (longest f));
  },
  all-row (λ t. IsElement braid.field t.coefficient) (form vanishes braid f) (λ m. (normal m).elements) 0 (suc (longest f)),
)

whole_form_is_normal : (vanishes : Vanishing) (braid : BraidValue) → IsField braid.field → ((m : ℕ) → IsLinearTest braid.field (vanishes braid m)) → (f : Combination) → IsOver braid.letters f →
    IsNormalFormByParts vanishes braid f (normal_form_by_parts vanishes braid f)
whole_form_is_normal vanishes braid is l f over =
    let normal : (m : ℕ) → IsNormalForm vanishes braid m (part_of_degree m f) (form vanishes braid f m) = form_of_part vanishes braid is l f over in
    let (least, ordered, elements) = laid_out vanishes braid f normal in
    record {
      least = least;
      ordered = ordered;
      elements = elements;
      congruent = congruent_by_parts vanishes braid l f (normal_form_by_parts vanishes braid f)
          (λ m. subst (λ g. vanishes braid m (minus braid.field (part_of_degree m f) g) ≡ true) (sym (parts_of_form vanishes braid is l f over m)) (normal m).congruent);
    }

-- ---- there is no other

part_is_normal : (vanishes : Vanishing) (braid : BraidValue) → ((m : ℕ) → IsLinearTest braid.field (vanishes braid m)) → (f g : Combination) → IsNormalFormByParts vanishes braid f g → (m : ℕ) → IsNormalForm vanishes braid m (part_of_degree m f) (part_of_degree m g)
unfolding AllAmong
part_is_normal vanishes braid l f g h m = record {
  least = least g h.least;
  ordered = ordered-part (λ w. nat_eq (length w) m) g h.ordered;
  elements = elements-part braid.field (λ w. nat_eq (length w) m) g h.elements;
  congruent = congruent_parts vanishes braid l f g h.congruent m;
}
  where
    least : (g : Combination) → AllByRecursion (λ t. Contains (basis vanishes braid (length t.word)) t.word) g → AllByRecursion (λ t. Contains (basis vanishes braid m) t.word) (part_of_degree m g)
    least [] all = tt
    least (t ∷ g) all = at (nat_eq (length t.word) m) refl (least g all.1)
      where
        at : (b : Bool) → nat_eq (length t.word) m ≡ b → AllByRecursion (λ t. Contains (basis vanishes braid m) t.word) (part_of_degree m g) → AllByRecursion (λ t. Contains (basis vanishes braid m) t.word) (cond b (t ∷ part_of_degree m g) (part_of_degree m g))
        at true e rest = (subst (λ d. Contains (basis vanishes braid d) t.word) ((Decides-eqb (length t.word) m).0 e) all.0, rest)
        at false e rest = rest

form_is_only : (vanishes : Vanishing) (braid : BraidValue) → IsField braid.field → ((m : ℕ) → IsLinearTest braid.field (vanishes braid m)) → (f : Combination) → IsOver braid.letters f → (g : Combination) → IsNormalFormByParts vanishes braid f g → normal_form_by_parts vanishes braid f ≡ g
form_is_only vanishes braid is l f over g h =
    let own : IsNormalFormByParts vanishes braid f (normal_form_by_parts vanishes braid f) = whole_form_is_normal vanishes braid is l f over in
    same_parts braid.field is (normal_form_by_parts vanishes braid f) g own.elements h.elements own.ordered h.ordered
    (λ m. parts_of_form vanishes braid is l f over m ∙ form_is vanishes braid is m (l m) (part_of_degree m f) (part_of_degree m g) (part_is_normal vanishes braid l f g h m))

-- ---- of one degree

form_of_degree : (vanishes : Vanishing) (braid : BraidValue) → IsField braid.field → ((m : ℕ) → IsLinearTest braid.field (vanishes braid m)) → (f : Combination) → IsOver braid.letters f → (m : ℕ) → HasDegree m f → normal_form_by_parts vanishes braid f ≡ normal_form vanishes braid m f
form_of_degree vanishes braid is l f over m degree =
    let own : IsNormalFormByParts vanishes braid f (normal_form_by_parts vanishes braid f) = whole_form_is_normal vanishes braid is l f over in
    let n : IsNormalForm vanishes braid m f (normal_form vanishes braid m f) = form_is_normal vanishes braid is m (l m) f degree over in
    let size : HasDegree m (normal_form vanishes braid m f) = least_have_degree vanishes braid m (normal_form vanishes braid m f) n.least in
    same_parts braid.field is (normal_form_by_parts vanishes braid f) (normal_form vanishes braid m f) own.elements n.elements own.ordered n.ordered
    (λ j. parts_of_form vanishes braid is l f over j
    ∙ elim (cases_eq j m) [
      | inl same ↦ subst (λ d. form vanishes braid f d ≡ part_of_degree d (normal_form vanishes braid m f)) (sym same) (ap (normal_form vanishes braid m) (part_of_own_degree m f degree) ∙ sym (part_of_own_degree m (normal_form vanishes braid m f) size))
      | inr other ↦ ap (normal_form vanishes braid j) (part_of_other_degree m j f degree other) ∙ form_of_nothing vanishes braid is j (l j) ∙ sym (part_of_other_degree m j (normal_form vanishes braid m f) size other)
    ])

pub normal_forms_by_parts : NormalFormsByParts
normal_forms_by_parts vanishes braid is l f over = record {
  normal = whole_form_is_normal vanishes braid is l f over;
  unique = form_is_only vanishes braid is l f over;
  parts = parts_of_form vanishes braid is l f over;
  degree = form_of_degree vanishes braid is l f over;
}

-- ---- classes

pub forms_by_parts_tell_classes : FormsByPartsTellClasses
forms_by_parts_tell_classes vanishes braid is l f g of og = (
  λ same. congruent_by_parts vanishes braid l f g
      (λ m. class_of_form vanishes braid is m (l m) (part_of_degree m f) (part_of_degree m g) (degree-part m f) (over-part braid.letters (λ w. nat_eq (length w) m) f of) (degree-part m g) (over-part braid.letters (λ w. nat_eq (length w) m) g og)
      (sym (parts_of_form vanishes braid is l f of m) ∙ ap (part_of_degree m) same ∙ parts_of_form vanishes braid is l g og m)),
  λ h.
      let own : IsNormalFormByParts vanishes braid f (normal_form_by_parts vanishes braid f) = whole_form_is_normal vanishes braid is l f of in
      let other : IsNormalFormByParts vanishes braid g (normal_form_by_parts vanishes braid g) = whole_form_is_normal vanishes braid is l g og in
      same_parts braid.field is (normal_form_by_parts vanishes braid f) (normal_form_by_parts vanishes braid g) own.elements other.elements own.ordered other.ordered
      (λ m. parts_of_form vanishes braid is l f of m ∙ form_of_class vanishes braid is m (l m) (part_of_degree m f) (part_of_degree m g) (congruent_parts vanishes braid l f g h m) ∙ sym (parts_of_form vanishes braid is l g og m)),
)
