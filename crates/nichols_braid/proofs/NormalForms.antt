-- Normal forms: each combination of words of m letters has exactly one, which sees the class alone and is linear.
use Rattle.std.proofs.Common.{◌≡◌, ◌≢◌, ℕ, Bool, true, List, [], ◌++◌, length, refl, sym, ap, subst}
use Rattle.std.specs.Prelude.{unwrap_or}
use Rattle.std.specs.List.{Contains}
use Rattle.nichols_field.specs.Field.{FieldValue, IsField}
use Rattle.nichols_field.proofs.FieldLaws.{one_is_element}
use Rattle.nichols_tensor.specs.Combination.{Combination, HasSameValues, AllElements, AllAmong, words_of, single, scalar_multiple, without_zeros}
use Rattle.nichols_tensor.specs.Words.{IsWordOver, IsOver, HasDegree, combinations}
use Rattle.nichols_tensor.specs.WordOrder.{IsRising}
use Rattle.nichols_tensor.proofs.Entries.{found, finds}
use Rattle.nichols_tensor.proofs.Enumeration.{enumerated, enumerated_words, enumerated_elements, among_from_words, among-append, among-scalar_multiple}
use Rattle.nichols_tensor.proofs.Ordered.{ordered_unique}
use Rattle.nichols_tensor.proofs.Building.{value_at-without_zeros, all-without_zeros, ordered-without_zeros}
use Rattle.nichols_tensor.proofs.Over.{all-append, all-scalar_multiple}
use Rattle.nichols_tensor.proofs.AllWords.{among_words}
use Rattle.nichols_tensor.proofs.Tests.{find_same, same_answer}
use Rattle.nichols_braid.specs.Braid.{BraidValue}
use Rattle.nichols_braid.specs.Kernel.{Vanishing}
use Rattle.nichols_braid.specs.Least.{are_congruent, basis, normal_form}
use Rattle.nichols_braid.specs.LinearTest.{IsLinearTest}
use Rattle.nichols_braid.specs.LeastLaws.{IsNormalForm, IsLinearOnDegree}
use Rattle.nichols_braid.proofs.Congruences.{AreCongruent, congruent_same, congruent_sym, congruent_trans, congruent_right, congruent_zero, zero_congruent, congruent-append, congruent-scalar_multiple}
use Rattle.nichols_braid.proofs.Reduction.{basis_rises, reduced_to_basis}
use Rattle.nichols_braid.proofs.Independence.{same_on_basis}

-- ---- the form that the search finds

-- an enumerated combination of least words that is congruent to f is a normal form without its zeros
form_from_enumerated : (vanishes : Vanishing) (braid : BraidValue) → IsField braid.field → (m : ℕ) → IsLinearTest braid.field (vanishes braid m) → (f g : Combination) →
    Contains (combinations braid.field (basis vanishes braid m)) g → AreCongruent braid.field (vanishes braid m) f g → IsNormalForm vanishes braid m f (without_zeros g)
unfolding AllAmong
form_from_enumerated vanishes braid is m l f g i h =
    let k : FieldValue = braid.field in
    let ws : List (List ℕ) = basis vanishes braid m in
    let own : words_of g ≡ ws = enumerated_words k ws g i in
    record {
      least = all-without_zeros (λ t. Contains ws t.word) g (among_from_words g ws own);
      ordered = ordered-without_zeros g (subst IsRising (sym own) (basis_rises vanishes braid m));
      elements = elements_kept;
      congruent = congruent_right k is (vanishes braid m) l f g (without_zeros g) (λ w. sym (value_at-without_zeros k is g w)) h;
    }
  where
    elements_kept : AllElements braid.field (without_zeros g)
    elements_kept = all-without_zeros _ g (enumerated_elements braid.field (basis vanishes braid m) g i)

-- where some combination of least words is congruent to f, the search finds a normal form
pub form_where : (vanishes : Vanishing) (braid : BraidValue) → IsField braid.field → (m : ℕ) → IsLinearTest braid.field (vanishes braid m) → (f g : Combination) →
    AllAmong g (basis vanishes braid m) → AreCongruent braid.field (vanishes braid m) f g → IsNormalForm vanishes braid m f (normal_form vanishes braid m f)
unfolding normal_form are_congruent
form_where vanishes braid is m l f g among h =
    let k : FieldValue = braid.field in
    let ws : List (List ℕ) = basis vanishes braid m in
    let (e, i, same) = enumerated k is g ws among in
    let (y, is_found) = finds (are_congruent vanishes braid m f) (combinations k ws) e i (congruent_right k is (vanishes braid m) l f g e (λ w. sym (same w)) h) in
    let (j, c) = found (are_congruent vanishes braid m f) (combinations k ws) y is_found in
    subst (IsNormalForm vanishes braid m f) (sym (ap (λ o. without_zeros (unwrap_or o [])) is_found)) (form_from_enumerated vanishes braid is m l f y j c)

-- a combination of words of m letters has a normal form
pub form_is_normal : (vanishes : Vanishing) (braid : BraidValue) → IsField braid.field → (m : ℕ) → IsLinearTest braid.field (vanishes braid m) → (f : Combination) →
    HasDegree m f → IsOver braid.letters f → IsNormalForm vanishes braid m f (normal_form vanishes braid m f)
form_is_normal vanishes braid is m l f degree over =
    let (g, among, elements, h) = reduced_to_basis vanishes braid is m l f (among_words braid.letters m f degree over) in
    form_where vanishes braid is m l f g among h

-- ---- there is no other

pub normal_forms_same : (vanishes : Vanishing) (braid : BraidValue) → IsField braid.field → (m : ℕ) → IsLinearTest braid.field (vanishes braid m) → (f g h : Combination) →
    IsNormalForm vanishes braid m f g → IsNormalForm vanishes braid m f h → g ≡ h
normal_forms_same vanishes braid is m l f g h p q =
    ordered_unique braid.field is g h p.elements q.elements p.ordered q.ordered
    (same_on_basis vanishes braid is m l g h p.least q.least
    (congruent_trans braid.field is (vanishes braid m) l g f h (congruent_sym braid.field is (vanishes braid m) l f g p.congruent) q.congruent))

-- what is a normal form of f is the normal form of f
pub form_is : (vanishes : Vanishing) (braid : BraidValue) → IsField braid.field → (m : ℕ) → IsLinearTest braid.field (vanishes braid m) → (f g : Combination) →
    IsNormalForm vanishes braid m f g → normal_form vanishes braid m f ≡ g
form_is vanishes braid is m l f g h = normal_forms_same vanishes braid is m l f (normal_form vanishes braid m f) g (form_where vanishes braid is m l f g h.least h.congruent) h

-- ---- classes

pub form_of_class : (vanishes : Vanishing) (braid : BraidValue) → IsField braid.field → (m : ℕ) → IsLinearTest braid.field (vanishes braid m) → (f g : Combination) →
    AreCongruent braid.field (vanishes braid m) f g → normal_form vanishes braid m f ≡ normal_form vanishes braid m g
unfolding normal_form are_congruent
form_of_class vanishes braid is m l f g h =
    let k : FieldValue = braid.field in
    ap (λ o. without_zeros (unwrap_or o []))
    (find_same (are_congruent vanishes braid m f) (are_congruent vanishes braid m g) (combinations k (basis vanishes braid m))
    (λ e i. same_answer (are_congruent vanishes braid m f e) (are_congruent vanishes braid m g e)
    (λ p. congruent_trans k is (vanishes braid m) l g f e (congruent_sym k is (vanishes braid m) l f g h) p)
    (λ p. congruent_trans k is (vanishes braid m) l f g e h p)))

pub class_of_form : (vanishes : Vanishing) (braid : BraidValue) → IsField braid.field → (m : ℕ) → IsLinearTest braid.field (vanishes braid m) → (f g : Combination) →
    HasDegree m f → IsOver braid.letters f → HasDegree m g → IsOver braid.letters g → normal_form vanishes braid m f ≡ normal_form vanishes braid m g → AreCongruent braid.field (vanishes braid m) f g
class_of_form vanishes braid is m l f g df of dg og e =
    let k : FieldValue = braid.field in
    let p : IsNormalForm vanishes braid m f (normal_form vanishes braid m f) = form_is_normal vanishes braid is m l f df of in
    let q : IsNormalForm vanishes braid m g (normal_form vanishes braid m g) = form_is_normal vanishes braid is m l g dg og in
    congruent_trans k is (vanishes braid m) l f (normal_form vanishes braid m g) g (subst (AreCongruent k (vanishes braid m) f) e p.congruent)
    (congruent_sym k is (vanishes braid m) l g (normal_form vanishes braid m g) q.congruent)

-- ---- zero, and least words

nothing_is_normal : (vanishes : Vanishing) (braid : BraidValue) → IsField braid.field → (m : ℕ) → IsLinearTest braid.field (vanishes braid m) → (f : Combination) → vanishes braid m f ≡ true → IsNormalForm vanishes braid m f []
unfolding AllAmong
nothing_is_normal vanishes braid is m l f h = record {
  least = tt;
  ordered = record { rising = tt; nonzero = tt };
  elements = tt;
  congruent = congruent_zero braid.field is (vanishes braid m) l f h;
}

pub form_of_zero : (vanishes : Vanishing) (braid : BraidValue) → IsField braid.field → (m : ℕ) → IsLinearTest braid.field (vanishes braid m) → (f : Combination) → vanishes braid m f ≡ true → normal_form vanishes braid m f ≡ []
form_of_zero vanishes braid is m l f h = form_is vanishes braid is m l f [] (nothing_is_normal vanishes braid is m l f h)

pub zero_of_form : (vanishes : Vanishing) (braid : BraidValue) → IsField braid.field → (m : ℕ) → IsLinearTest braid.field (vanishes braid m) → (f : Combination) →
    HasDegree m f → IsOver braid.letters f → normal_form vanishes braid m f ≡ [] → vanishes braid m f ≡ true
zero_of_form vanishes braid is m l f degree over e =
    let p : IsNormalForm vanishes braid m f (normal_form vanishes braid m f) = form_is_normal vanishes braid is m l f degree over in
    zero_congruent braid.field is (vanishes braid m) l f (subst (AreCongruent braid.field (vanishes braid m) f) e p.congruent)

pub form_of_least : (vanishes : Vanishing) (braid : BraidValue) → IsField braid.field → (m : ℕ) → IsLinearTest braid.field (vanishes braid m) → (w : List ℕ) →
    Contains (basis vanishes braid m) w → normal_form vanishes braid m (single w) ≡ single w
unfolding AllAmong
form_of_least vanishes braid is m l w i =
    form_is vanishes braid is m l (single w) (single w) (record {
      least = (i, tt);
      ordered = record { rising = (tt, tt); nonzero = (one_is_not_zero, tt) };
      elements = (one_is_element braid.field is, tt);
      congruent = congruent_same braid.field is (vanishes braid m) l (single w) (single w) (λ v. refl);
    })
  where
    one_is_not_zero : ◌≢◌ {A = ℕ} 1 0
    one_is_not_zero h = cc

-- ---- sums and multiples

pub form_is_linear : (vanishes : Vanishing) (braid : BraidValue) → IsField braid.field → (m : ℕ) → IsLinearTest braid.field (vanishes braid m) → IsLinearOnDegree vanishes braid m
form_is_linear vanishes braid is m l = record { sums = sums; multiples = multiples }
  where
    k : FieldValue
    k = braid.field

    test : Combination → Bool
    test = vanishes braid m

    ws : List (List ℕ)
    ws = basis vanishes braid m

    form : Combination → Combination
    form f = normal_form vanishes braid m f

    sums : (f g : Combination) → HasDegree m f → IsOver braid.letters f → HasDegree m g → IsOver braid.letters g → HasSameValues braid.field (normal_form vanishes braid m (f ++ g)) (normal_form vanishes braid m f ++ normal_form vanishes braid m g)
    sums f g df of dg og =
        let p : IsNormalForm vanishes braid m f (form f) = form_is_normal vanishes braid is m l f df of in
        let q : IsNormalForm vanishes braid m g (form g) = form_is_normal vanishes braid is m l g dg og in
        let r : IsNormalForm vanishes braid m (f ++ g) (form (f ++ g)) = form_is_normal vanishes braid is m l (f ++ g) (all-append _ f g df dg) (all-append _ f g of og) in
        same_on_basis vanishes braid is m l (form (f ++ g)) (form f ++ form g) r.least (among-append (form f) (form g) ws p.least q.least)
        (congruent_trans k is test l (form (f ++ g)) (f ++ g) (form f ++ form g) (congruent_sym k is test l (f ++ g) (form (f ++ g)) r.congruent)
        (congruent-append k is test l f (form f) g (form g) p.congruent q.congruent))

    multiples : (c : ℕ) (f : Combination) → HasDegree m f → IsOver braid.letters f → HasSameValues braid.field (normal_form vanishes braid m (scalar_multiple braid.field c f)) (scalar_multiple braid.field c (normal_form vanishes braid m f))
    multiples c f df of =
        let p : IsNormalForm vanishes braid m f (form f) = form_is_normal vanishes braid is m l f df of in
        let r : IsNormalForm vanishes braid m (scalar_multiple k c f) (form (scalar_multiple k c f)) =
        form_is_normal vanishes braid is m l (scalar_multiple k c f) (all-scalar_multiple (λ v. length v ≡ m) k c f df) (all-scalar_multiple (IsWordOver braid.letters) k c f of) in
        same_on_basis vanishes braid is m l (form (scalar_multiple k c f)) (scalar_multiple k c (form f)) r.least (among-scalar_multiple k c (form f) ws p.least)
        (congruent_trans k is test l (form (scalar_multiple k c f)) (scalar_multiple k c f) (scalar_multiple k c (form f)) (congruent_sym k is test l (scalar_multiple k c f) (form (scalar_multiple k c f)) r.congruent)
        (congruent-scalar_multiple k is test l c f (form f) p.congruent))
