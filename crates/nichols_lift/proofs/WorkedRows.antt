-- Worked rows over the three transpositions with 101 elements and scalar -1: closed forms of lifts.
use Rattle.std.proofs.Common.{◌≡◌, [], ◌∷◌, refl, arith}
use Rattle.nichols_field.proofs.OnNumerals.{field_on_numerals}
use Rattle.nichols_tensor.proofs.Terms.{term}
use Rattle.nichols_braid.specs.Braid.{entry}
use Rattle.nichols_braid.specs.Crossing.{crossed_term}
use Rattle.nichols_braid.specs.Lift.{IsDescending}
use Rattle.nichols_braid.proofs.WorkedRows.{three}
use Rattle.nichols_lift.specs.ClosedForm.{closed_form}

closed_321 : closed_form three (3 ∷ 2 ∷ 1 ∷ []) (1 ∷ 2 ∷ 3 ∷ []) ≡ term (1 ∷ 3 ∷ 1 ∷ []) 100
unfolding field_on_numerals entry closed_form
closed_321 = refl

closed_312 : closed_form three (3 ∷ 1 ∷ 2 ∷ []) (1 ∷ 2 ∷ 3 ∷ []) ≡ term (3 ∷ 2 ∷ 1 ∷ []) 1
unfolding field_on_numerals entry closed_form
closed_312 = refl

-- the other list of crossings for the end places 3, 2, 1
crossed_212 : crossed_term three (2 ∷ 1 ∷ 2 ∷ []) (term (1 ∷ 2 ∷ 3 ∷ []) 1) ≡ term (1 ∷ 3 ∷ 1 ∷ []) 100
unfolding field_on_numerals entry
crossed_212 = refl

-- both lists are descending for these end places
descending_121 : IsDescending (3 ∷ 2 ∷ 1 ∷ []) (1 ∷ 2 ∷ 1 ∷ [])
descending_121 = (omega arith, (omega arith, (omega arith, (omega arith, (omega arith, tt)))))

descending_212 : IsDescending (3 ∷ 2 ∷ 1 ∷ []) (2 ∷ 1 ∷ 2 ∷ [])
descending_212 = (omega arith, (omega arith, (omega arith, (omega arith, (omega arith, tt)))))
