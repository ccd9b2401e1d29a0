-- The laws of least words, bases, normal forms and candidates, each as its statement has it.
use Rattle.std.proofs.Common.{◌≡◌, ℕ, true, not, List, [], ◌∷◌, map, length, refl, sym, ◌∙◌, ap, subst}
use Rattle.std.specs.List.{filter}
use Rattle.nichols_tensor.specs.Words.{IsWordOver}
use Rattle.nichols_tensor.specs.WordOrder.{IsRising}
use Rattle.nichols_tensor.proofs.Rising.{rising-filter}
use Rattle.nichols_braid.specs.Least.{is_least, candidates}
use Rattle.nichols_braid.specs.LinearTest.{IsLinearTest}
use Rattle.nichols_braid.specs.LeastLaws.{LeastWordsAreTested, IsListedIfLeast, BasisHasLeastWords, LeastWordsAreIndependent, NormalFormsAreUnique, NormalFormsTellClasses, ZeroHasNoTerms, NormalFormIsLinear, LeastWordsAreNormal, AgreeingTestsReadAlike, BasisIsAmongCandidates, RelationsRise}
use Rattle.nichols_braid.proofs.LeastWords.{least_word_from_test, test_from_least_word}
use Rattle.nichols_braid.proofs.Reduction.{in_basis, from_basis, basis_rises}
use Rattle.nichols_braid.proofs.Independence.{basis_is_independent}
use Rattle.nichols_braid.proofs.NormalForms.{form_is_normal, form_is, form_of_class, class_of_form, form_of_zero, zero_of_form, form_is_linear, form_of_least}
use Rattle.nichols_braid.proofs.Candidates.{candidates_rise, relation_at, relations_are}
use Rattle.nichols_braid.proofs.Spanning.{candidates_span, basis_among}
use Rattle.nichols_braid.proofs.Agreement.{read_alike}

pub least_words_are_tested : LeastWordsAreTested
least_words_are_tested vanishes braid is w l = (least_word_from_test vanishes braid is w l, test_from_least_word vanishes braid w)

pub basis_has_least_words : BasisHasLeastWords
basis_has_least_words vanishes braid is m l = (basis_rises vanishes braid m, listed)
  where
    listed : (w : List ℕ) → IsListedIfLeast vanishes braid m w
    listed w = record {
      listed = λ e o none. in_basis vanishes braid m w e o (test_from_least_word vanishes braid w none);
      degree = λ i. (from_basis vanishes braid m w i).0;
      over = λ i. (from_basis vanishes braid m w i).1;
      least = λ i.
          let from : (length w ≡ m) × IsWordOver braid.letters w × (is_least vanishes braid w ≡ true) = from_basis vanishes braid m w i in
          least_word_from_test vanishes braid is w (subst (λ d. IsLinearTest braid.field (vanishes braid d)) (sym from.0) l) from.2;
    }

pub least_words_are_independent : LeastWordsAreIndependent
least_words_are_independent vanishes braid is m l f among h = basis_is_independent vanishes braid is m l f among h

pub normal_forms_are_unique : NormalFormsAreUnique
normal_forms_are_unique vanishes braid is m l f degree over = (form_is_normal vanishes braid is m l f degree over, λ g h. form_is vanishes braid is m l f g h)

pub normal_forms_tell_classes : NormalFormsTellClasses
normal_forms_tell_classes vanishes braid is m l f g df of dg og = (form_of_class vanishes braid is m l f g, class_of_form vanishes braid is m l f g df of dg og)

pub zero_has_no_terms : ZeroHasNoTerms
zero_has_no_terms vanishes braid is m l f degree over = (form_of_zero vanishes braid is m l f, zero_of_form vanishes braid is m l f degree over)

pub normal_form_is_linear : NormalFormIsLinear
normal_form_is_linear vanishes braid is m l = form_is_linear vanishes braid is m l

pub least_words_are_normal : LeastWordsAreNormal
least_words_are_normal vanishes braid is m l w i = form_of_least vanishes braid is m l w i

pub agreeing_tests_read_alike : AgreeingTestsReadAlike
agreeing_tests_read_alike vanishes other braid agree = read_alike vanishes other braid agree

pub basis_is_among_candidates : BasisIsAmongCandidates
basis_is_among_candidates vanishes braid is ideal m = basis_among vanishes braid is m (ideal.linear m) (candidates vanishes braid m) (candidates_span vanishes braid is ideal m)

pub relations_rise : RelationsRise
relations_rise vanishes braid m =
    subst IsRising (sym (ap (map (λ r. r.candidate)) (relations_are vanishes braid m) ∙ words (filter (λ w. not (is_least vanishes braid w)) (candidates vanishes braid m))))
    (rising-filter (λ w. not (is_least vanishes braid w)) (candidates vanishes braid m) (candidates_rise vanishes braid m))
  where
    words : (ws : List (List ℕ)) → map (λ r. r.candidate) (map (relation_at vanishes braid m) ws) ≡ ws
    words [] = refl
    words (w ∷ ws) = ap (λ vs. w ∷ vs) (words ws)

-- ---- what the derivations kill
