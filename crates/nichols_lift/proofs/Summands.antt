-- The lifts of a word, in the order of the list of permutations: for each place in turn, the letter there is carried to the end,
-- and the letters before it are lifted by each permutation of the places before.
use Rattle.std.proofs.Common.{◌≡◌, ℕ, suc, ◌+◌, ◌-◌, ◌<◌, ◌≤◌, List, [], ◌∷◌, ◌++◌, map, length, take, drop, refl, sym, ◌∙◌, ap, ap₂, subst, arith, append_assoc}
use Rattle.std.specs.List.{All, Contains, flat_map, insert}
use Rattle.std.proofs.lemmas.List.{length-map, length-append, length-drop, length-take-le, take-append-drop}
use Rattle.std.proofs.lemmas.List.Elements.{All-weaker}
use Rattle.nichols_field.specs.Field.{IsElement, times}
use Rattle.nichols_field.proofs.FieldLaws.{times_one, times_is_element, one_is_element}
use Rattle.nichols_field.proofs.FieldAlgebra.{one_times}
use Rattle.nichols_tensor.specs.Combination.{Term, Combination, scalar_multiple}
use Rattle.nichols_tensor.specs.Words.{up_to, IsWordOver}
use Rattle.nichols_tensor.proofs.Entries.{contains_first, contains_later}
use Rattle.nichols_tensor.proofs.Pushed.{pushed_length}
use Rattle.nichols_braid.specs.Braid.{BraidValue, IsBraid, act}
use Rattle.nichols_braid.specs.Crossing.{crossed_term}
use Rattle.nichols_braid.specs.Lift.{IsDescending, bubble, lift}
use Rattle.nichols_braid.specs.Symmetrizer.{permutations, lifts}
use Rattle.nichols_braid.specs.Derivation.{scalars_met}
use Rattle.nichols_braid.specs.Rearrangement.{IsRearrangement}
use Rattle.nichols_braid.specs.RightProduct.{times_letter}
use Rattle.nichols_braid.proofs.Lists.{map-map, map-flat_map, same_flat_map}
use Rattle.nichols_braid.proofs.Rearranged.{consecutive, up_to_is_consecutive, rearranged_length, rearranged_bounds}
use Rattle.nichols_braid.proofs.Permutations.{inserted_is_rearrangement, listed_is_rearrangement, insert_between}
use Rattle.nichols_lift.proofs.Bubble.{bubble_descends}
use Rattle.nichols_tensor.proofs.Terms.{term}
use Rattle.nichols_lift.proofs.Reduced.{reduced_list, lift_is_closed}
use Rattle.nichols_lift.proofs.Chain.{carried_to_end, descending_inserted, behind, multiple, crossed_within, crossed_term-append, crossed_multiple}

-- ---- one permutation

met_is_element : (braid : BraidValue) → IsBraid braid → (a : ℕ) (u : List ℕ) → IsElement braid.field (scalars_met braid a u)
met_is_element braid is a [] = one_is_element braid.field is.field
met_is_element braid is a (x ∷ u) = times_is_element braid.field _ _ is.field

-- every descending list leads to the lift
crossed_is_lift : (braid : BraidValue) → IsBraid braid → (m : ℕ) (places ends w : List ℕ) → IsRearrangement m ends → length w ≡ m → IsWordOver braid.letters w → IsDescending ends places → lift braid ends w ≡ crossed_term braid places (term w 1)
crossed_is_lift braid is m places ends w arranged size over h = lift_is_closed braid is m ends w arranged size over ∙ sym (reduced_list braid is m places ends w arranged size over h)

-- the list that takes the greatest end place to the end first
lift_parts : (braid : BraidValue) → IsBraid braid → (m : ℕ) (left right front : List ℕ) (a : ℕ) (u : List ℕ) → IsRearrangement m (left ++ right) → length left ≡ length front → length right ≡ length u → IsWordOver braid.letters (front ++ a ∷ u) →
    lift braid (left ++ suc m ∷ right) (front ++ a ∷ u) ≡ behind a (multiple braid.field (scalars_met braid a u) (lift braid (left ++ right) (front ++ map (act braid a) u)))
unfolding lift
lift_parts braid is m left right front a u arranged same_left same_right over =
    let ends : List ℕ = left ++ right in
    let v : List ℕ = front ++ map (act braid a) u in
    let s : ℕ = scalars_met braid a u in
    let chain : List ℕ = consecutive (suc (length left)) (length right) in
    let whole : IsRearrangement (suc m) (left ++ suc m ∷ right) = subst (IsRearrangement (suc m)) (insert_between left right (suc m)) (inserted_is_rearrangement m ends (length left) arranged) in
    let size : length left + length right ≡ m = sym (length-append left right) ∙ rearranged_length m ends arranged in
    let count : length (front ++ a ∷ u) ≡ suc m = length-append front (a ∷ u) ∙ (omega arith) in
    let less : All (λ e. e < suc m) ends = All-weaker (λ e. (1 ≤ e) × (e ≤ m)) (λ e. e < suc m) (λ e k. omega arith) ends (rearranged_bounds m ends arranged) in
    crossed_is_lift braid is (suc m) (chain ++ bubble ends) (left ++ suc m ∷ right) (front ++ a ∷ u) whole count over (descending_inserted (suc m) left right (bubble ends) less (bubble_descends ends))
    ∙ crossed_term-append braid chain (bubble ends) (term (front ++ a ∷ u) 1)
    ∙ ap₂ (λ i n. crossed_term braid (bubble ends) (crossed_term braid (consecutive (suc i) n) (term (front ++ a ∷ u) 1))) same_left same_right
    ∙ ap (crossed_term braid (bubble ends)) (carried_to_end braid is.field front a u 1 (one_is_element braid.field is.field)
    ∙ ap₂ term (sym (append_assoc front (map (act braid a) u) (a ∷ []))) (one_times braid.field s (met_is_element braid is a u) ∙ sym (times_one braid.field s (met_is_element braid is a u))))
    ∙ crossed_within braid a (bubble ends) ends v (times braid.field s 1) (bubble_descends ends) (length-append front (map (act braid a) u) ∙ ap (λ n. length front + n) (length-map u (act braid a)) ∙ sym (ap₂ (λ i n. i + n) same_left same_right) ∙ sym (length-append left right))
    ∙ ap (behind a) (crossed_multiple braid (bubble ends) v s 1)

-- the same, with the greatest end place put in
lift_inserted : (braid : BraidValue) → IsBraid braid → (m : ℕ) (ends front : List ℕ) (a : ℕ) (u : List ℕ) → IsRearrangement m ends → length front + length u ≡ m → IsWordOver braid.letters (front ++ a ∷ u) →
    lift braid (insert ends (length front) (suc m)) (front ++ a ∷ u) ≡ behind a (multiple braid.field (scalars_met braid a u) (lift braid ends (front ++ map (act braid a) u)))
lift_inserted braid is m ends front a u arranged size over =
    let i : ℕ = length front in
    let whole : take i ends ++ drop i ends ≡ ends = take-append-drop i ends in
    let long : length ends ≡ m = rearranged_length m ends arranged in
    let left : length (take i ends) ≡ i = length-take-le i ends (omega arith) in
    let right : length (drop i ends) ≡ length u = length-drop i ends ∙ (omega arith) in
    lift_parts braid is m (take i ends) (drop i ends) front a u (subst (IsRearrangement m) (sym whole) arranged) left right over
    ∙ ap (λ es. behind a (multiple braid.field (scalars_met braid a u) (lift braid es (front ++ map (act braid a) u)))) whole

-- ---- all permutations

-- a letter of a word, and the word without it, once it passed the letters behind it
abbrev pub Summand : Type 0
Summand = record { letter : ℕ; rest : Term }

abbrev pub summands : BraidValue → List ℕ → List ℕ → List Summand
summands braid front [] = []
summands braid front (a ∷ u) = record { letter = a; rest = term (front ++ map (act braid a) u) (scalars_met braid a u) } ∷ summands braid (front ++ a ∷ []) u

-- the summand with its rest lifted by each permutation
abbrev pub lifted : BraidValue → Summand → Combination
lifted braid s = times_letter (scalar_multiple braid.field s.rest.coefficient (lifts braid s.rest.word)) s.letter

abbrev lifts_with_last_at : BraidValue → ℕ → List ℕ → ℕ → Combination
lifts_with_last_at braid m w j = map (λ ends. lift braid (insert ends (j - 1) (suc m)) w) (permutations m)

lifts_with_last_are_lifted : (braid : BraidValue) → IsBraid braid → (m : ℕ) (front : List ℕ) (a : ℕ) (u : List ℕ) → length front + length u ≡ m → IsWordOver braid.letters (front ++ a ∷ u) →
    lifts_with_last_at braid m (front ++ a ∷ u) (suc (length front)) ≡ times_letter (scalar_multiple braid.field (scalars_met braid a u) (lifts braid (front ++ map (act braid a) u))) a
unfolding lifts
lifts_with_last_are_lifted braid is m front a u size over =
    ap (λ i. map (λ ends. lift braid (insert ends i (suc m)) (front ++ a ∷ u)) (permutations m)) (let e : suc (length front) - 1 ≡ length front = omega arith in e)
    ∙ each (permutations m) (listed_is_rearrangement m)
    ∙ ap (λ n. times_letter (scalar_multiple braid.field (scalars_met braid a u) (map (λ ends. lift braid ends (front ++ map (act braid a) u)) (permutations n))) a)
    (sym size ∙ sym (ap (λ n. length front + n) (length-map u (act braid a))) ∙ sym (length-append front (map (act braid a) u)))
  where
    each : (all : List (List ℕ)) → ((ends : List ℕ) → Contains all ends → IsRearrangement m ends) →
        map (λ ends. lift braid (insert ends (length front) (suc m)) (front ++ a ∷ u)) all ≡ times_letter (scalar_multiple braid.field (scalars_met braid a u) (map (λ ends. lift braid ends (front ++ map (act braid a) u)) all)) a
    each [] h = refl
    each (ends ∷ all) h = ap₂ (λ t r. t ∷ r) (lift_inserted braid is m ends front a u (h ends (contains_first ends all)) size over) (each all (λ es i. h es (contains_later ends all es i)))

lifts_behind_are_summands : (braid : BraidValue) → IsBraid braid → (m : ℕ) (front u w : List ℕ) → front ++ u ≡ w → length w ≡ suc m → IsWordOver braid.letters w →
    flat_map (lifts_with_last_at braid m w) (consecutive (suc (length front)) (length u)) ≡ flat_map (lifted braid) (summands braid front u)
lifts_behind_are_summands braid is m front [] w e size over = refl
lifts_behind_are_summands braid is m front (a ∷ u) w e size over =
    let next : List ℕ = front ++ a ∷ [] in
    let count : length front + length u ≡ m = (let l : length front + suc (length u) ≡ suc m = sym (length-append front (a ∷ u)) ∙ ap length e ∙ size in omega arith) in
    ap₂ (λ f r. f ++ r)
    (ap (λ x. lifts_with_last_at braid m x (suc (length front))) (sym e) ∙ lifts_with_last_are_lifted braid is m front a u count (subst (IsWordOver braid.letters) (sym e) over))
    (ap (λ n. flat_map (lifts_with_last_at braid m w) (consecutive (suc n) (length u))) (sym (pushed_length front a)) ∙ lifts_behind_are_summands braid is m next u w (append_assoc front (a ∷ []) u ∙ e) size over)

by_length : (braid : BraidValue) (m : ℕ) (w : List ℕ) → length w ≡ suc m → lifts braid w ≡ flat_map (lifts_with_last_at braid m w) (up_to (suc m))
unfolding lifts permutations
by_length braid m w size =
    ap (λ n. map (λ ends. lift braid ends w) (permutations n)) size
    ∙ map-flat_map (λ ends. lift braid ends w) (λ j. map (λ ends. insert ends (j - 1) (suc m)) (permutations m)) (up_to (suc m))
    ∙ same_flat_map (λ j. map (λ ends. lift braid ends w) (map (λ ends. insert ends (j - 1) (suc m)) (permutations m))) (lifts_with_last_at braid m w)
    (λ j. map-map (λ ends. lift braid ends w) (λ ends. insert ends (j - 1) (suc m)) (permutations m)) (up_to (suc m))

pub lifts_are_summands : (braid : BraidValue) → IsBraid braid → (m : ℕ) (w : List ℕ) → length w ≡ suc m → IsWordOver braid.letters w → lifts braid w ≡ flat_map (lifted braid) (summands braid [] w)
lifts_are_summands braid is m w size over =
    by_length braid m w size
    ∙ ap (flat_map (lifts_with_last_at braid m w)) (up_to_is_consecutive (suc m) ∙ ap (consecutive 1) (sym size))
    ∙ lifts_behind_are_summands braid is m [] w w refl size over
