-- Worked rows over the three transpositions with 101 elements and scalar -1: lifts, images and derivatives.
use Rattle.std.proofs.Common.{◌≡◌, [], ◌∷◌, refl, true}
use Rattle.std.specs.Prelude.{pos}
use Rattle.nichols_field.specs.Field.{prime_field}
use Rattle.nichols_field.proofs.OnNumerals.{field_on_numerals}
use Rattle.nichols_tensor.specs.Combination.{Combination, single, is_zero}
use Rattle.nichols_tensor.specs.Words.{words, words_before, combinations}
use Rattle.nichols_tensor.specs.Parts.{longest, degrees_of}
use Rattle.nichols_tensor.proofs.Terms.{term}
use Rattle.nichols_braid.specs.Braid.{BraidValue, entry}
use Rattle.nichols_braid.specs.Lift.{lift}
use Rattle.nichols_braid.specs.Symmetrizer.{permutations, lifts, symmetrizer_image}
use Rattle.nichols_braid.specs.Derivation.{derived_word, skew_derivative}
use Rattle.nichols_braid.specs.Kernel.{is_in_kernel, is_killed}
use Rattle.nichols_braid.specs.Least.{are_congruent, is_least, basis, normal_form, candidates, relations}
use Rattle.nichols_braid.specs.WholeForm.{normal_form_by_parts}

abbrev pub three : BraidValue
three = record {
  field = prime_field (pos 101);
  letters = 3;
  rack = 1 ∷ 3 ∷ 2 ∷ 3 ∷ 2 ∷ 1 ∷ 2 ∷ 1 ∷ 3 ∷ [];
  cocycle = 100 ∷ 100 ∷ 100 ∷ 100 ∷ 100 ∷ 100 ∷ 100 ∷ 100 ∷ 100 ∷ [];
}

three_places : permutations 3 ≡ (3 ∷ 2 ∷ 1 ∷ []) ∷ (3 ∷ 1 ∷ 2 ∷ []) ∷ (2 ∷ 3 ∷ 1 ∷ []) ∷ (1 ∷ 3 ∷ 2 ∷ []) ∷ (2 ∷ 1 ∷ 3 ∷ []) ∷ (1 ∷ 2 ∷ 3 ∷ []) ∷ []
unfolding permutations
three_places = refl

lift_321 : lift three (3 ∷ 2 ∷ 1 ∷ []) (1 ∷ 2 ∷ 3 ∷ []) ≡ term (1 ∷ 3 ∷ 1 ∷ []) 100
unfolding field_on_numerals entry lift
lift_321 = refl

lift_312 : lift three (3 ∷ 1 ∷ 2 ∷ []) (1 ∷ 2 ∷ 3 ∷ []) ≡ term (3 ∷ 2 ∷ 1 ∷ []) 1
unfolding field_on_numerals entry lift
lift_312 = refl

derivative_1 : skew_derivative three 1 (single (1 ∷ 2 ∷ 1 ∷ [])) ≡ term (3 ∷ 1 ∷ []) 1 ∷ term (1 ∷ 2 ∷ []) 1 ∷ []
unfolding field_on_numerals entry derived_word
derivative_1 = refl

derivative_2 : skew_derivative three 2 (single (1 ∷ 2 ∷ 1 ∷ [])) ≡ term (1 ∷ 3 ∷ []) 100 ∷ []
unfolding field_on_numerals entry derived_word
derivative_2 = refl

derivative_3 : skew_derivative three 3 (single (1 ∷ 2 ∷ 1 ∷ [])) ≡ []
unfolding field_on_numerals entry derived_word
derivative_3 = refl

image_of_12 : symmetrizer_image three (single (1 ∷ 2 ∷ [])) ≡ term (3 ∷ 1 ∷ []) 100 ∷ term (1 ∷ 2 ∷ []) 1 ∷ []
unfolding field_on_numerals entry lift permutations lifts
image_of_12 = refl

abbrev cycle : Combination
cycle = term (1 ∷ 2 ∷ []) 1 ∷ term (2 ∷ 3 ∷ []) 1 ∷ term (3 ∷ 1 ∷ []) 1 ∷ []

image_of_cycle : is_in_kernel three 2 cycle ≡ true
unfolding field_on_numerals entry lift permutations lifts is_in_kernel is_zero
image_of_cycle = refl

cycle_is_killed : is_killed three 2 cycle ≡ true
unfolding field_on_numerals entry derived_word is_killed is_zero
cycle_is_killed = refl

-- ---- bases and normal forms over the field of two elements, with two letters that act trivially

abbrev two : BraidValue
two = record { field = prime_field (pos 2); letters = 2; rack = 1 ∷ 2 ∷ 1 ∷ 2 ∷ []; cocycle = 1 ∷ 1 ∷ 1 ∷ 1 ∷ [] }

basis_of_two : basis is_in_kernel two 2 ≡ (1 ∷ 2 ∷ []) ∷ []
unfolding field_on_numerals entry lift permutations lifts is_in_kernel is_zero words words_before combinations are_congruent is_least basis
basis_of_two = refl

basis_by_derivations : basis is_killed two 2 ≡ (1 ∷ 2 ∷ []) ∷ []
unfolding field_on_numerals entry derived_word is_killed is_zero words words_before combinations are_congruent is_least basis
basis_by_derivations = refl

form_of_21 : normal_form is_in_kernel two 2 (single (2 ∷ 1 ∷ [])) ≡ single (1 ∷ 2 ∷ [])
unfolding field_on_numerals entry lift permutations lifts is_in_kernel is_zero words words_before combinations are_congruent is_least basis normal_form
form_of_21 = refl

-- 2.1 + 1 + 2.2: each part has its own form
form_by_parts : normal_form_by_parts is_in_kernel two (term (2 ∷ 1 ∷ []) 1 ∷ term (1 ∷ []) 1 ∷ term (2 ∷ 2 ∷ []) 1 ∷ []) ≡ term (1 ∷ []) 1 ∷ term (1 ∷ 2 ∷ []) 1 ∷ []
unfolding field_on_numerals entry lift permutations lifts is_in_kernel is_zero words words_before combinations are_congruent is_least basis normal_form longest degrees_of normal_form_by_parts
form_by_parts = refl

relations_of_two : relations is_in_kernel two 2 ≡
    record { candidate = 1 ∷ 1 ∷ []; form = [] } ∷ record { candidate = 2 ∷ 1 ∷ []; form = single (1 ∷ 2 ∷ []) } ∷ record { candidate = 2 ∷ 2 ∷ []; form = [] } ∷ []
unfolding field_on_numerals entry lift permutations lifts is_in_kernel is_zero words words_before combinations are_congruent is_least basis normal_form candidates relations
relations_of_two = refl

-- one letter over five elements with scalar 1: the powers below the fifth are least, and the fifth is zero
abbrev one : BraidValue
one = record { field = prime_field (pos 5); letters = 1; rack = 1 ∷ []; cocycle = 1 ∷ [] }

fifth_power : basis is_in_kernel one 5 ≡ []
unfolding field_on_numerals entry lift permutations lifts is_in_kernel is_zero words words_before combinations are_congruent is_least basis
fifth_power = refl
