-- Two tests that agree on the combinations of words of each degree: all that is read in them is the same.
use Rattle.std.proofs.Common.{◌≡◌, ℕ, zero, suc, not, List, [], ◌∷◌, ◌++◌, map, length, refl, ◌∙◌, ap}
use Rattle.std.specs.Prelude.{unwrap_or, find}
use Rattle.std.specs.List.{flat_map, filter, Contains}
use Rattle.nichols_field.specs.Field.{FieldValue, negative}
use Rattle.nichols_tensor.specs.Combination.{Combination, AllAmong, single, scalar_multiple, minus, without_zeros}
use Rattle.nichols_tensor.specs.Words.{up_to, IsWordOver, IsOver, HasDegree, words, words_before, combinations}
use Rattle.nichols_tensor.proofs.Entries.{from_filter}
use Rattle.nichols_tensor.proofs.Enumeration.{enumerated_words, among_from_words}
use Rattle.nichols_tensor.proofs.Over.{all-append, all-scalar_multiple, all_among}
use Rattle.nichols_tensor.proofs.AllWords.{from_words}
use Rattle.nichols_tensor.proofs.Tests.{any_same, filter_same, find_same, map_same, all_of_entries}
use Rattle.nichols_braid.specs.Braid.{BraidValue}
use Rattle.nichols_braid.specs.Kernel.{Vanishing}
use Rattle.nichols_braid.specs.Least.{are_congruent, is_least, basis, normal_form, candidates, relations}
use Rattle.nichols_braid.specs.LeastLaws.{IsOfEarlierWords, AgreeOnDegrees, AreReadAlike}
use Rattle.nichols_braid.proofs.LeastWords.{earlier_from_among}
use Rattle.nichols_braid.proofs.Reduction.{from_basis}
use Rattle.nichols_braid.proofs.Candidates.{from_candidates}

congruence_agrees : (vanishes other : Vanishing) (braid : BraidValue) → AgreeOnDegrees vanishes other braid → (m : ℕ) (f g : Combination) → HasDegree m f → IsOver braid.letters f → HasDegree m g → IsOver braid.letters g →
    are_congruent vanishes braid m f g ≡ are_congruent other braid m f g
unfolding are_congruent
congruence_agrees vanishes other braid agree m f g df of dg og =
    let n : ℕ = negative braid.field 1 in
    agree m (minus braid.field f g) (all-append _ f (scalar_multiple braid.field n g) df (all-scalar_multiple (λ v. length v ≡ m) braid.field n g dg)) (all-append _ f (scalar_multiple braid.field n g) of (all-scalar_multiple (IsWordOver braid.letters) braid.field n g og))

least_agrees : (vanishes other : Vanishing) (braid : BraidValue) → AgreeOnDegrees vanishes other braid → (w : List ℕ) → IsWordOver braid.letters w → is_least vanishes braid w ≡ is_least other braid w
unfolding is_least
least_agrees vanishes other braid agree w over =
    let before : List (List ℕ) = words_before braid.letters w in
    ap not (any_same (are_congruent vanishes braid (length w) (single w)) (are_congruent other braid (length w) (single w)) (combinations braid.field before)
    (λ g i.
    let earlier : IsOfEarlierWords braid w g = earlier_from_among braid w g (among_from_words g before (enumerated_words braid.field before g i)) in
    congruence_agrees vanishes other braid agree (length w) (single w) g (refl, tt) (over, tt) earlier.degree earlier.over))

basis_agrees : (vanishes other : Vanishing) (braid : BraidValue) → AgreeOnDegrees vanishes other braid → (m : ℕ) → basis vanishes braid m ≡ basis other braid m
unfolding basis
basis_agrees vanishes other braid agree m =
    filter_same (is_least vanishes braid) (is_least other braid) (words braid.letters m) (λ w i. least_agrees vanishes other braid agree w (from_words braid.letters m w i).1)

form_agrees : (vanishes other : Vanishing) (braid : BraidValue) → AgreeOnDegrees vanishes other braid → (m : ℕ) (f : Combination) → HasDegree m f → IsOver braid.letters f → normal_form vanishes braid m f ≡ normal_form other braid m f
unfolding normal_form
form_agrees vanishes other braid agree m f degree over =
    let k : FieldValue = braid.field in
    let ws : List (List ℕ) = basis other braid m in
    ap (λ vs. without_zeros (unwrap_or (find (are_congruent vanishes braid m f) (combinations k vs)) [])) (basis_agrees vanishes other braid agree m)
    ∙ ap (λ o. without_zeros (unwrap_or o []))
    (find_same (are_congruent vanishes braid m f) (are_congruent other braid m f) (combinations k ws)
    (λ g i.
    let among : AllAmong g ws = among_from_words g ws (enumerated_words k ws g i) in
    congruence_agrees vanishes other braid agree m f g degree over
    (all_among (λ v. length v ≡ m) g ws among (all_of_entries (λ v. length v ≡ m) ws (λ v j. (from_basis other braid m v j).0)))
    (all_among (IsWordOver braid.letters) g ws among (all_of_entries (IsWordOver braid.letters) ws (λ v j. (from_basis other braid m v j).1)))))

candidates_agree : (vanishes other : Vanishing) (braid : BraidValue) → AgreeOnDegrees vanishes other braid → (m : ℕ) → candidates vanishes braid m ≡ candidates other braid m
unfolding candidates
candidates_agree vanishes other braid agree zero = refl
candidates_agree vanishes other braid agree (suc m) = ap (flat_map (λ u. map (λ b. u ++ b ∷ []) (up_to braid.letters))) (basis_agrees vanishes other braid agree m)

relations_agree : (vanishes other : Vanishing) (braid : BraidValue) → AgreeOnDegrees vanishes other braid → (m : ℕ) → relations vanishes braid m ≡ relations other braid m
unfolding relations
relations_agree vanishes other braid agree m =
    ap (λ ws. map (λ w. record { candidate = w; form = normal_form vanishes braid m (single w) }) (filter (λ w. not (is_least vanishes braid w)) ws)) (candidates_agree vanishes other braid agree m)
    ∙ ap (map (λ w. record { candidate = w; form = normal_form vanishes braid m (single w) })) same_words
    ∙ map_same (λ w. record { candidate = w; form = normal_form vanishes braid m (single w) }) (λ w. record { candidate = w; form = normal_form other braid m (single w) }) kept
    (λ w i. ap (λ f. record { candidate = w; form = f }) (form_agrees vanishes other braid agree m (single w) ((degree w i).0, tt) ((degree w i).1, tt)))
  where
    kept : List (List ℕ)
    kept = filter (λ w. not (is_least other braid w)) (candidates other braid m)

    same_words : filter (λ w. not (is_least vanishes braid w)) (candidates other braid m) ≡ filter (λ w. not (is_least other braid w)) (candidates other braid m)
    same_words =
        filter_same (λ w. not (is_least vanishes braid w)) (λ w. not (is_least other braid w)) (candidates other braid m)
        (λ w i. ap not (least_agrees vanishes other braid agree w (from_candidates other braid m w i).1))

    degree : (w : List ℕ) → Contains (filter (λ w. not (is_least other braid w)) (candidates other braid m)) w → (length w ≡ m) × IsWordOver braid.letters w
    degree w i = from_candidates other braid m w (from_filter (λ v. not (is_least other braid v)) w (candidates other braid m) i).0

-- all of it
pub read_alike : (vanishes other : Vanishing) (braid : BraidValue) → AgreeOnDegrees vanishes other braid → AreReadAlike vanishes other braid
read_alike vanishes other braid agree = record {
  least = least_agrees vanishes other braid agree;
  bases = basis_agrees vanishes other braid agree;
  forms = form_agrees vanishes other braid agree;
  candidate_lists = candidates_agree vanishes other braid agree;
  relation_lists = relations_agree vanishes other braid agree;
}
