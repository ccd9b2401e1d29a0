-- The derivatives of a candidate, in normal form: what the letter at its end and the forms of the word before it give.
use Rattle.std.proofs.Common.{◌≡◌, ℕ, zero, suc, Bool, true, false, List, [], ◌∷◌, ◌++◌, length, nat_eq, refl, sym, ap, ◌∙◌, arith, length-append, ◌+◌}
use Rattle.std.specs.Prelude.{if◌then◌else◌}
use Rattle.std.specs.List.{Contains}
use Rattle.nichols_field.specs.Field.{FieldValue, IsField}
use Rattle.nichols_field.proofs.FieldLaws.{one_is_element}
use Rattle.nichols_tensor.specs.Combination.{Combination, AllElements, AllAmong, single, scalar_multiple}
use Rattle.nichols_tensor.specs.Relation.{PlainRelation}
use Rattle.nichols_tensor.specs.Words.{IsWordOver}
use Rattle.nichols_tensor.proofs.Building.{elements-append, elements-scalar_multiple}
use Rattle.nichols_tensor.proofs.Enumeration.{among-append, among-scalar_multiple}
use Rattle.nichols_tensor.proofs.InOrder.{in_order_unique}
use Rattle.nichols_tensor.proofs.Over.{word_over-append}
use Rattle.nichols_braid.specs.Braid.{BraidValue, IsBraid, IsLetter, act, scalar}
use Rattle.nichols_braid.specs.Derivation.{derived_word, skew_derivative}
use Rattle.nichols_braid.specs.Kernel.{Vanishing}
use Rattle.nichols_braid.specs.Least.{is_least, basis, relations}
use Rattle.nichols_braid.specs.LeastLaws.{IsNormalForm}
use Rattle.nichols_braid.specs.LinearTest.{IsLinearTest}
use Rattle.nichols_braid.specs.RightIdealTest.{IsRightIdealTest}
use Rattle.nichols_braid.specs.RightProduct.{times_letter}
use Rattle.nichols_braid.specs.Forms.{followed_form, derived_from, derived_form}
use Rattle.nichols_braid.specs.FormLaws.{DerivativesOfCandidates}
use Rattle.nichols_braid.proofs.BraidLaws.{derivation_rule}
use Rattle.nichols_braid.proofs.Degrees.{derived_degree, derived_over}
use Rattle.nichols_braid.proofs.Congruences.{congruent_same, congruent_sym, congruent_trans, congruent_left, congruent-append, congruent-scalar_multiple}
use Rattle.nichols_braid.proofs.Reduction.{from_basis}
use Rattle.nichols_braid.proofs.Independence.{same_on_basis}
use Rattle.nichols_braid.proofs.NormalForms.{form_is_normal}
use Rattle.nichols_braid.proofs.FormsOfCandidates.{IsReducedTo, followed_is_form}

-- the derivative of a word of degree m + 1 has a normal form
pub derived_form_is_normal : (vanishes : Vanishing) (braid : BraidValue) → IsBraid braid → IsRightIdealTest braid (vanishes braid) → (m : ℕ) (w : List ℕ) (a : ℕ) → length w ≡ suc m → IsWordOver braid.letters w → IsLetter braid a →
    IsNormalForm vanishes braid m (skew_derivative braid a (single w)) (derived_form vanishes braid (suc m) w a)
unfolding derived_form
derived_form_is_normal vanishes braid is ideal m w a size over la =
    form_is_normal vanishes braid is.field m (ideal.linear m) (skew_derivative braid a (single w)) (derived_degree braid a m (single w) (size, tt)) (derived_over braid is.rack a la (single w) (over, tt))

-- the form of the derivative of a word of any degree, with a letter behind
pub followed_in_degree : (vanishes : Vanishing) (braid : BraidValue) → IsBraid braid → IsRightIdealTest braid (vanishes braid) → (m : ℕ) (u : List ℕ) (a c : ℕ) → length u ≡ m → IsWordOver braid.letters u → IsLetter braid a → IsLetter braid c →
    IsReducedTo vanishes braid m (times_letter (skew_derivative braid a (single u)) c) (followed_form braid.field (relations vanishes braid m) (derived_form vanishes braid m u a) c)
unfolding derived_form derived_word AllAmong
followed_in_degree vanishes braid is ideal zero [] a c size over la lc = record { among = tt; congruent = congruent_same braid.field is.field (vanishes braid 0) (ideal.linear 0) [] [] (λ w. refl) }
followed_in_degree vanishes braid is ideal zero (x ∷ u) a c size over la lc = absurd (omega arith)
followed_in_degree vanishes braid is ideal (suc p) u a c size over la lc =
    followed_is_form vanishes braid is.field ideal p (skew_derivative braid a (single u)) c (derived_degree braid a p (single u) (size, tt)) (derived_over braid is.rack a la (single u) (over, tt)) lc

among_chosen : (b : Bool) (u : List ℕ) (ws : List (List ℕ)) → Contains ws u → AllAmong (if b then single u else []) ws
unfolding AllAmong
among_chosen true u ws i = (i, tt)
among_chosen false u ws i = tt

-- the derivative of a candidate from the form of that of the word before its last letter
pub derived_from_is : (vanishes : Vanishing) (braid : BraidValue) → IsBraid braid → IsRightIdealTest braid (vanishes braid) → (m : ℕ) (u : List ℕ) (a b : ℕ) → Contains (basis vanishes braid m) u → IsLetter braid a → IsLetter braid b →
    IsReducedTo vanishes braid m (skew_derivative braid a (single (u ++ b ∷ []))) (derived_from braid (relations vanishes braid m) u (derived_form vanishes braid m u a) a b)
unfolding derived_from
derived_from_is vanishes braid is ideal m u a b i la lb =
    let k : FieldValue = braid.field in
    let test : Combination → Bool = vanishes braid m in
    let l : IsLinearTest braid.field (vanishes braid m) = ideal.linear m in
    let own : (length u ≡ m) × IsWordOver braid.letters u × (is_least vanishes braid u ≡ true) = from_basis vanishes braid m u i in
    let q : ℕ = scalar braid a b in
    let c : ℕ = act braid a b in
    let first : Combination = if nat_eq a b then single u else [] in
    let later : Combination = times_letter (skew_derivative braid a (single u)) c in
    let form : Combination = followed_form k (relations vanishes braid m) (derived_form vanishes braid m u a) c in
    let rest : IsReducedTo vanishes braid m later form = followed_in_degree vanishes braid is ideal m u a c own.0 own.1 la (is.rack.closed a b la lb) in
    record {
      among = among-append first (scalar_multiple k q form) (basis vanishes braid m) (among_chosen (nat_eq a b) u (basis vanishes braid m) i) (among-scalar_multiple k q form (basis vanishes braid m) rest.among);
      congruent = congruent_left k is.field test l (first ++ scalar_multiple k q later) (skew_derivative braid a (single (u ++ b ∷ []))) (first ++ scalar_multiple k q form) (λ w. sym (derivation_rule braid is a b (single u) w))
          (congruent-append k is.field test l first first (scalar_multiple k q later) (scalar_multiple k q form) (congruent_same k is.field test l first first (λ w. refl))
          (congruent-scalar_multiple k is.field test l q later form rest.congruent));
    }

elements_chosen : (k : FieldValue) → IsField k → (b : Bool) (u : List ℕ) → AllElements k (if b then single u else [])
elements_chosen k is true u = (one_is_element k is, tt)
elements_chosen k is false u = tt

-- its coefficients are elements of the field
pub derived_from_elements : (braid : BraidValue) → IsField braid.field → (table : List PlainRelation) (u : List ℕ) (form : Combination) (a b : ℕ) → AllElements braid.field (derived_from braid table u form a b)
unfolding derived_from
derived_from_elements braid is table u form a b =
    let k : FieldValue = braid.field in
    let own : Combination = if nat_eq a b then single u else [] in
    let later : Combination = scalar_multiple k (scalar braid a b) (followed_form k table form (act braid a b)) in
    elements-append k own later (elements_chosen k is (nat_eq a b) u) (elements-scalar_multiple k is (scalar braid a b) (followed_form k table form (act braid a b)))

pub derivatives_of_candidates : DerivativesOfCandidates
derivatives_of_candidates vanishes braid is ideal m u a b i la lb =
    let k : FieldValue = braid.field in
    let l : IsLinearTest braid.field (vanishes braid m) = ideal.linear m in
    let d : Combination = skew_derivative braid a (single (u ++ b ∷ [])) in
    let g : Combination = derived_form vanishes braid (suc m) (u ++ b ∷ []) a in
    let h : Combination = derived_from braid (relations vanishes braid m) u (derived_form vanishes braid m u a) a b in
    let own : (length u ≡ m) × IsWordOver braid.letters u × (is_least vanishes braid u ≡ true) = from_basis vanishes braid m u i in
    let n : IsNormalForm vanishes braid m d g =
    derived_form_is_normal vanishes braid is ideal m (u ++ b ∷ []) a (length-append u (b ∷ []) ∙ ap (λ j. j + 1) own.0 ∙ (let e : m + 1 ≡ suc m = omega arith in e)) (word_over-append braid.letters u (b ∷ []) own.1 (lb, tt)) la in
    let r : IsReducedTo vanishes braid m d h = derived_from_is vanishes braid is ideal m u a b i la lb in
    in_order_unique k is.field h g (derived_from_elements braid is.field (relations vanishes braid m) u (derived_form vanishes braid m u a) a b) n.elements n.ordered
    (same_on_basis vanishes braid is.field m l g h n.least r.among (congruent_trans k is.field (vanishes braid m) l g d h (congruent_sym k is.field (vanishes braid m) l d g n.congruent) r.congruent))
