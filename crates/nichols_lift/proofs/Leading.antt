-- The loops that cross letter by letter: every descending list of what is left leads from there to the lift.
use Rattle.std.proofs.Common.{◌≡◌, ℕ, zero, suc, ◌+◌, ◌-◌, ◌<◌, ◌≤◌, List, [], ◌∷◌, length, drop, get_or, set, refl, sym, ◌∙◌, ap, ap₂, subst, arith, Option, None, Some}
use Rattle.std.proofs.Math.Seq.{drop-cons}
use Rattle.nichols_field.specs.Field.{IsElement, times}
use Rattle.nichols_tensor.specs.Words.{IsWordOver}
use Rattle.nichols_tensor.proofs.Terms.{term}
use Rattle.nichols_braid.specs.Braid.{BraidValue, IsBraid, act, scalar}
use Rattle.nichols_braid.specs.Crossing.{cross, cross_scalar, crossed_term}
use Rattle.nichols_braid.specs.Lift.{exchanged_at, IsDescentAt, IsSorted, IsDescending, first_descent, lift}
use Rattle.nichols_lift.specs.ClosedForm.{closed_form}
use Rattle.nichols_lift.specs.Perm.{IsPerm}
use Rattle.nichols_lift.proofs.LiftLaws.{reduced_lists_agree}
use Rattle.nichols_lift.proofs.Bubble.{inversions, none_is_sorted, one_fewer}
use Rattle.nichols_lift.proofs.Step.{exchanged_length}

-- ---- one crossing

crossed_at : (braid : BraidValue) (j : ℕ) (w : List ℕ) → suc j < length w → set (set w j (act braid (get_or w j 0) (get_or w (suc j) 0))) (suc j) (get_or w j 0) ≡ cross braid (suc j) w
crossed_at braid zero [] h = absurd (omega arith)
crossed_at braid zero (a ∷ []) h = absurd (omega arith)
crossed_at braid zero (a ∷ b ∷ w) h = refl
crossed_at braid (suc j) [] h = absurd (omega arith)
crossed_at braid (suc j) (a ∷ w) h = ap (λ r. a ∷ r) (crossed_at braid j w (omega arith))

scalar_at : (braid : BraidValue) (j : ℕ) (w : List ℕ) → suc j < length w → scalar braid (get_or w j 0) (get_or w (suc j) 0) ≡ cross_scalar braid (suc j) w
scalar_at braid zero [] h = absurd (omega arith)
scalar_at braid zero (a ∷ []) h = absurd (omega arith)
scalar_at braid zero (a ∷ b ∷ w) h = refl
scalar_at braid (suc j) [] h = absurd (omega arith)
scalar_at braid (suc j) (a ∷ w) h = scalar_at braid j w (omega arith)

pub crossed_there : (braid : BraidValue) (i : ℕ) (w : List ℕ) → 1 ≤ i → i < length w → set (set w (i - 1) (act braid (get_or w (i - 1) 0) (get_or w i 0))) i (get_or w (i - 1) 0) ≡ cross braid i w
crossed_there braid zero w h l = absurd (omega arith)
crossed_there braid (suc j) w h l =
    let e : suc j - 1 ≡ j = omega arith in
    ap (λ k. set (set w k (act braid (get_or w k 0) (get_or w (suc j) 0))) (suc j) (get_or w k 0)) e ∙ crossed_at braid j w l

pub scalar_there : (braid : BraidValue) (i : ℕ) (w : List ℕ) → 1 ≤ i → i < length w → scalar braid (get_or w (i - 1) 0) (get_or w i 0) ≡ cross_scalar braid i w
scalar_there braid zero w h l = absurd (omega arith)
scalar_there braid (suc j) w h l = let e : suc j - 1 ≡ j = omega arith in ap (λ k. scalar braid (get_or w k 0) (get_or w (suc j) 0)) e ∙ scalar_at braid j w l

pub descent_within : (i : ℕ) (ends : List ℕ) → IsDescentAt i ends → (1 ≤ i) × (i < length ends)
descent_within zero ends h = absurd h
descent_within (suc zero) [] h = absurd h
descent_within (suc zero) (a ∷ []) h = absurd h
descent_within (suc zero) (a ∷ b ∷ ends) h = (omega arith, omega arith)
descent_within (suc (suc i)) [] h = absurd h
descent_within (suc (suc i)) (a ∷ ends) h = let rest : (1 ≤ suc i) × (suc i < length ends) = descent_within (suc i) ends h in (omega arith, omega (arith, rest.1))

-- ---- the loop of `lift`

-- from the word and the scalar every list that is descending for these end places leads to the lift
pub record IsLeading (braid : BraidValue) (perm word ends now : List ℕ) (met : ℕ) : Type 0 where
  pub leads : (places : List ℕ) → IsDescending ends places → crossed_term braid places (term now met) ≡ lift braid perm word
  pub size : length now ≡ length ends
  pub letters : IsWordOver braid.letters now
  pub element : IsElement braid.field met

pub leading_start : (braid : BraidValue) → IsBraid braid → (perm word : List ℕ) → IsPerm perm → length word ≡ length perm → IsWordOver braid.letters word → IsElement braid.field 1 → IsLeading braid perm word perm word 1
leading_start braid is perm word p size letters one = record {
  leads = λ places d. (reduced_lists_agree braid is (length perm) perm word p.rearrangement size letters).1 places d;
  size = size;
  letters = letters;
  element = one;
}

pub leading-cross : (braid : BraidValue) (perm word ends now : List ℕ) (met i : ℕ) → IsLeading braid perm word ends now met → IsDescentAt i ends → (ends' now' : List ℕ) (scalar_met met' : ℕ) → ends' ≡ exchanged_at i ends → now' ≡ cross braid i now → length now' ≡ length now →
    IsWordOver braid.letters now' → scalar_met ≡ cross_scalar braid i now → met' ≡ times braid.field met scalar_met → IsElement braid.field met' → IsLeading braid perm word ends' now' met'
leading-cross braid perm word ends now met i h d ends' now' scalar_met met' ends_is now_is size letters scalar_is met_is element = record {
  leads = λ places descending.
      ap₂ (λ (w : List ℕ) (c : ℕ). crossed_term braid places (term w c)) now_is (met_is ∙ ap (times braid.field met) scalar_is)
      ∙ h.leads (i ∷ places) (d, subst (λ e. IsDescending e places) ends_is descending);
  size = size ∙ h.size ∙ sym (exchanged_length i ends) ∙ ap length (sym ends_is);
  letters = letters;
  element = element;
}

pub leading_end : (braid : BraidValue) (perm word ends now : List ℕ) (met : ℕ) → IsLeading braid perm word ends now met → IsSorted ends → term now met ≡ lift braid perm word
leading_end braid perm word ends now met h s = h.leads [] s

pub closed_lift : (braid : BraidValue) → IsBraid braid → (perm word : List ℕ) → IsPerm perm → length word ≡ length perm → IsWordOver braid.letters word → lift braid perm word ≡ closed_form braid perm word
closed_lift braid is perm word p size letters = (reduced_lists_agree braid is (length perm) perm word p.rearrangement size letters).0

-- ---- the loop of `lift_by`

-- the rest of the list is descending for some end places, and leads from here to the lift
pub record IsFollowing (braid : BraidValue) (perm word rest now : List ℕ) (met : ℕ) : Type 0 where
  pub ends : List ℕ
  pub descending : IsDescending ends rest
  pub leads : crossed_term braid rest (term now met) ≡ lift braid perm word
  pub size : length now ≡ length ends
  pub letters : IsWordOver braid.letters now
  pub element : IsElement braid.field met

pub following_start : (braid : BraidValue) → IsBraid braid → (perm word list : List ℕ) → IsPerm perm → length word ≡ length perm → IsWordOver braid.letters word → IsElement braid.field 1 → IsDescending perm list → IsFollowing braid perm word list word 1
following_start braid is perm word list p size letters one d = record {
  ends = perm;
  descending = d;
  leads = (reduced_lists_agree braid is (length perm) perm word p.rearrangement size letters).1 list d;
  size = size;
  letters = letters;
  element = one;
}

pub place_within : (braid : BraidValue) (perm word list now : List ℕ) (met k : ℕ) → k < length list → IsFollowing braid perm word (drop k list) now met → (1 ≤ get_or list k 0) × (get_or list k 0 < length now)
place_within braid perm word list now met k within h =
    let d : IsDescending h.ends (get_or list k 0 ∷ drop (suc k) list) = subst (IsDescending h.ends) (drop-cons list k 0 within) h.descending in
    let w : (1 ≤ get_or list k 0) × (get_or list k 0 < length h.ends) = descent_within (get_or list k 0) h.ends d.0 in
    (w.0, subst (λ n. get_or list k 0 < n) (sym h.size) w.1)

pub following-cross : (braid : BraidValue) (perm word list now : List ℕ) (met k : ℕ) → k < length list → IsFollowing braid perm word (drop k list) now met → (now' : List ℕ) (scalar_met met' : ℕ) → now' ≡ cross braid (get_or list k 0) now → length now' ≡ length now →
    IsWordOver braid.letters now' → scalar_met ≡ cross_scalar braid (get_or list k 0) now → met' ≡ times braid.field met scalar_met → IsElement braid.field met' → IsFollowing braid perm word (drop (k + 1) list) now' met'
following-cross braid perm word list now met k within h now' scalar_met met' now_is size letters scalar_is met_is element =
    let i : ℕ = get_or list k 0 in
    let next : k + 1 ≡ suc k = omega arith in
    let d : IsDescending h.ends (i ∷ drop (suc k) list) = subst (IsDescending h.ends) (drop-cons list k 0 within) h.descending in
    subst (λ n. IsFollowing braid perm word (drop n list) now' met') (sym next)
    (record {
      ends = exchanged_at i h.ends;
      descending = d.1;
      leads =
          ap₂ (λ (w : List ℕ) (c : ℕ). crossed_term braid (drop (suc k) list) (term w c)) now_is (met_is ∙ ap (times braid.field met) scalar_is)
          ∙ ap (λ places. crossed_term braid places (term now met)) (sym (drop-cons list k 0 within)) ∙ h.leads;
      size = size ∙ h.size ∙ sym (exchanged_length i h.ends);
      letters = letters;
      element = element;
    })

-- no descent is left
pub none_left : (ends : List ℕ) (found : Option ℕ) → found ≡ first_descent ends → ((i : ℕ) → found ≡ Some i → ⊥) → IsSorted ends
none_left ends None is h = none_is_sorted ends (sym is)
none_left ends (Some i) is h = absurd (h i refl)

pub fewer_left : (i : ℕ) (ends next : List ℕ) → IsDescentAt i ends → next ≡ exchanged_at i ends → inversions next < inversions ends
fewer_left i ends next d e = subst (λ n. inversions n < inversions ends) (sym e) (let less : suc (inversions (exchanged_at i ends)) ≡ inversions ends = one_fewer i ends d in omega arith)
