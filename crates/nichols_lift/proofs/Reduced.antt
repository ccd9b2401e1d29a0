-- Every descending list leads to the closed form; so does the list that the lift takes.
use Rattle.std.proofs.Common.{◌≡◌, ℕ, List, [], ◌∷◌, length, map, sym, ◌∙◌, ap, ap₂}
use Rattle.std.proofs.lemmas.List.Sorted.{IsPermutation-trans}
use Rattle.nichols_field.specs.Field.{IsField, IsElement, times}
use Rattle.nichols_field.proofs.FieldLaws.{times_assoc, times_one, times_is_element, one_is_element}
use Rattle.nichols_field.proofs.FieldAlgebra.{one_times}
use Rattle.nichols_tensor.specs.Words.{up_to, IsWordOver}
use Rattle.nichols_tensor.proofs.Terms.{term}
use Rattle.nichols_tensor.proofs.Tests.{map_same}
use Rattle.nichols_braid.specs.Braid.{BraidValue, IsBraid}
use Rattle.nichols_braid.specs.Crossing.{cross, cross_scalar, crossed_term}
use Rattle.nichols_braid.specs.Lift.{exchanged_at, IsDescending, bubble, lift}
use Rattle.nichols_braid.specs.Rearrangement.{IsRearrangement}
use Rattle.nichols_lift.specs.ClosedForm.{letters_at_ends, ended_scalar, letter_at, closed_form}
use Rattle.nichols_lift.proofs.Acted.{none_placed}
use Rattle.nichols_braid.proofs.KeptProducts.{cross_over}
use Rattle.nichols_lift.proofs.Step.{exchanged_is_permutation, crossed_letters, crossed_scalars}
use Rattle.nichols_lift.proofs.Bubble.{bubble_descends}
use Rattle.nichols_braid.proofs.Rearranged.{consecutive, up_to_is_consecutive, rearranged_length}
use Rattle.nichols_lift.proofs.Sorted.{sorted_is_up_to, closed_letters_sorted, closed_scalar_sorted}
use Rattle.nichols_braid.proofs.WholeKernel.{cross_length}

-- the word of the closed form
ending : BraidValue → ℕ → List ℕ → List ℕ → List ℕ
ending braid m ends w = map (letter_at (letters_at_ends braid [] ends w)) (up_to m)

at_end : (braid : BraidValue) → IsField braid.field → (ends w : List ℕ) → ends ≡ consecutive 1 (length w) → (c : ℕ) → IsElement braid.field c →
    term w c ≡ term (ending braid (length w) ends w) (times braid.field c (ended_scalar braid [] ends w))
unfolding ending
at_end braid is ends w e c element =
    ap₂ term
    (sym (closed_letters_sorted braid w) ∙ ap₂ (λ ps es. map (letter_at (letters_at_ends braid [] ps w)) es) (sym e) (sym (up_to_is_consecutive (length w))))
    (sym (times_one braid.field c element) ∙ ap (times braid.field c) (sym (closed_scalar_sorted braid is w) ∙ ap (λ ps. ended_scalar braid [] ps w) (sym e)))

ending_same : (braid : BraidValue) (m : ℕ) (ends w ends' w' : List ℕ) → ((e : ℕ) → letter_at (letters_at_ends braid [] ends' w') e ≡ letter_at (letters_at_ends braid [] ends w) e) → ending braid m ends' w' ≡ ending braid m ends w
unfolding ending
ending_same braid m ends w ends' w' h = map_same (letter_at (letters_at_ends braid [] ends' w')) (letter_at (letters_at_ends braid [] ends w)) (up_to m) (λ e i. h e)

crossed_to_closed : (braid : BraidValue) → IsBraid braid → (m : ℕ) (places ends w : List ℕ) (c : ℕ) → IsRearrangement m ends → length w ≡ m → IsWordOver braid.letters w → IsElement braid.field c → IsDescending ends places →
    crossed_term braid places (term w c) ≡ term (ending braid m ends w) (times braid.field c (ended_scalar braid [] ends w))
crossed_to_closed braid is m [] ends w c arranged size over element h =
    at_end braid is.field ends w (sorted_is_up_to m ends arranged h ∙ ap (consecutive 1) (sym size)) c element
    ∙ ap (λ n. term (ending braid n ends w) (times braid.field c (ended_scalar braid [] ends w))) size
crossed_to_closed braid is m (i ∷ places) ends w c arranged size over element h =
    let q : ℕ = cross_scalar braid i w in
    let w' : List ℕ = cross braid i w in
    let ends' : List ℕ = exchanged_at i ends in
    let same : length w ≡ length ends = size ∙ sym (rearranged_length m ends arranged) in
    crossed_to_closed braid is m places ends' w' (times braid.field c q) (IsPermutation-trans (up_to m) ends ends' arranged (exchanged_is_permutation i ends h.0)) (cross_length braid i w ∙ size)
    (cross_over braid is.rack i w over) (times_is_element braid.field c q is.field) h.1
    ∙ ap₂ term (ending_same braid m ends w ends' w' (crossed_letters braid is.rack [] (none_placed braid) i ends w same over h.0))
    (times_assoc braid.field c q (ended_scalar braid [] ends' w') ∙ ap (times braid.field c) (crossed_scalars braid is.rack is.cocycle [] (none_placed braid) i ends w same over h.0))

-- every descending list leads to the closed form
pub reduced_list : (braid : BraidValue) → IsBraid braid → (m : ℕ) (places ends w : List ℕ) → IsRearrangement m ends → length w ≡ m → IsWordOver braid.letters w → IsDescending ends places → crossed_term braid places (term w 1) ≡ closed_form braid ends w
unfolding ending closed_form
reduced_list braid is m places ends w arranged size over h =
    crossed_to_closed braid is m places ends w 1 arranged size over (one_is_element braid.field is.field) h
    ∙ ap₂ (λ n s. term (ending braid n ends w) s) (sym (rearranged_length m ends arranged)) (one_times braid.field (ended_scalar braid [] ends w) (ended_scalar_is_element ends w))
  where
    ended_scalar_is_element : (ends w : List ℕ) → IsElement braid.field (ended_scalar braid [] ends w)
    ended_scalar_is_element [] w = one_is_element braid.field is.field
    ended_scalar_is_element (e ∷ ends) [] = one_is_element braid.field is.field
    ended_scalar_is_element (e ∷ ends) (x ∷ w) = times_is_element braid.field _ _ is.field

-- so the lift is the closed form
pub lift_is_closed : (braid : BraidValue) → IsBraid braid → (m : ℕ) (ends w : List ℕ) → IsRearrangement m ends → length w ≡ m → IsWordOver braid.letters w → lift braid ends w ≡ closed_form braid ends w
unfolding lift
lift_is_closed braid is m ends w arranged size over = reduced_list braid is m (bubble ends) ends w arranged size over (bubble_descends ends)
