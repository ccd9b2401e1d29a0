-- Worked rows over racks whose maps aren't their own inverses, over racks where a letter moves itself, and over cocycles that
-- aren't constant. The values come from another program.
use Rattle.std.proofs.Common.{◌≡◌, ℕ, [], ◌∷◌, refl, nat_lt, Some, None}
use Rattle.std.specs.Prelude.{pos, Option, if◌then◌else◌}
use Rattle.nichols_field.specs.Field.{prime_field}
use Rattle.nichols_field.proofs.OnNumerals.{field_on_numerals}
use Rattle.nichols_tensor.specs.Combination.{single, is_zero}
use Rattle.nichols_tensor.specs.Words.{words, words_before, combinations}
use Rattle.nichols_tensor.proofs.Terms.{term}
use Rattle.nichols_braid.specs.Braid.{BraidValue, entry}
use Rattle.nichols_braid.specs.Lift.{lift}
use Rattle.nichols_braid.specs.Symmetrizer.{permutations, lifts, symmetrizer_image}
use Rattle.nichols_braid.specs.Derivation.{derived_word, skew_derivative}
use Rattle.nichols_braid.specs.Kernel.{is_in_kernel, is_killed}
use Rattle.nichols_braid.specs.Least.{are_congruent, is_least, basis, normal_form, candidates, relations}
use Rattle.nichols_braid.specs.End.{degrees_finished, finished_from, is_closed, stop_of}

-- ---- each letter moves every letter one on

-- three letters over five elements: `i ▷ j` is the letter after j
abbrev onward : BraidValue
onward = record { field = prime_field (pos 5); letters = 3; rack = 2 ∷ 3 ∷ 1 ∷ 2 ∷ 3 ∷ 1 ∷ 2 ∷ 3 ∷ 1 ∷ []; cocycle = 4 ∷ 3 ∷ 1 ∷ 4 ∷ 3 ∷ 1 ∷ 4 ∷ 3 ∷ 1 ∷ [] }

onward_lift : lift onward (3 ∷ 4 ∷ 1 ∷ 2 ∷ []) (3 ∷ 1 ∷ 2 ∷ 3 ∷ []) ≡ term (1 ∷ 2 ∷ 3 ∷ 1 ∷ []) 2
unfolding field_on_numerals entry lift
onward_lift = refl

onward_derivative : skew_derivative onward 3 (single (1 ∷ 3 ∷ 1 ∷ 3 ∷ 3 ∷ [])) ≡ term (1 ∷ 2 ∷ 1 ∷ 1 ∷ []) 4 ∷ term (1 ∷ 3 ∷ 1 ∷ 1 ∷ []) 1 ∷ term (1 ∷ 3 ∷ 1 ∷ 3 ∷ []) 1 ∷ []
unfolding field_on_numerals entry derived_word
onward_derivative = refl

onward_image : symmetrizer_image onward (single (2 ∷ 3 ∷ 1 ∷ [])) ≡
    term (3 ∷ 1 ∷ 2 ∷ []) 2 ∷ term (1 ∷ 2 ∷ 2 ∷ []) 4 ∷ term (3 ∷ 2 ∷ 3 ∷ []) 2 ∷ term (2 ∷ 2 ∷ 3 ∷ []) 4 ∷ term (1 ∷ 2 ∷ 1 ∷ []) 1 ∷ term (2 ∷ 3 ∷ 1 ∷ []) 1 ∷ []
unfolding field_on_numerals entry lift permutations lifts
onward_image = refl

-- three letters over seven elements: `i ▷ j` is the letter before j
abbrev backward : BraidValue
backward = record { field = prime_field (pos 7); letters = 3; rack = 3 ∷ 1 ∷ 2 ∷ 3 ∷ 1 ∷ 2 ∷ 3 ∷ 1 ∷ 2 ∷ []; cocycle = 6 ∷ 4 ∷ 4 ∷ 6 ∷ 4 ∷ 4 ∷ 6 ∷ 4 ∷ 4 ∷ [] }

backward_lift : lift backward (2 ∷ 1 ∷ 3 ∷ []) (1 ∷ 3 ∷ 3 ∷ []) ≡ term (2 ∷ 1 ∷ 3 ∷ []) 4
unfolding field_on_numerals entry lift
backward_lift = refl

backward_derivative : skew_derivative backward 1 (single (1 ∷ 1 ∷ 1 ∷ 1 ∷ [])) ≡ term (3 ∷ 3 ∷ 3 ∷ []) 6 ∷ term (1 ∷ 3 ∷ 3 ∷ []) 1 ∷ term (1 ∷ 1 ∷ 3 ∷ []) 6 ∷ term (1 ∷ 1 ∷ 1 ∷ []) 1 ∷ []
unfolding field_on_numerals entry derived_word
backward_derivative = refl

-- four letters over 101 elements: `i ▷ j` is the letter after j
abbrev onward_of_four : BraidValue
onward_of_four = record {
  field = prime_field (pos 101);
  letters = 4;
  rack = 2 ∷ 3 ∷ 4 ∷ 1 ∷ 2 ∷ 3 ∷ 4 ∷ 1 ∷ 2 ∷ 3 ∷ 4 ∷ 1 ∷ 2 ∷ 3 ∷ 4 ∷ 1 ∷ [];
  cocycle = 12 ∷ 94 ∷ 57 ∷ 28 ∷ 12 ∷ 94 ∷ 57 ∷ 28 ∷ 12 ∷ 94 ∷ 57 ∷ 28 ∷ 12 ∷ 94 ∷ 57 ∷ 28 ∷ [];
}

lift_of_four : lift onward_of_four (1 ∷ 3 ∷ 4 ∷ 2 ∷ []) (4 ∷ 1 ∷ 4 ∷ 1 ∷ []) ≡ term (4 ∷ 3 ∷ 1 ∷ 4 ∷ []) 17
unfolding field_on_numerals entry lift
lift_of_four = refl

image_of_four : symmetrizer_image onward_of_four (single (2 ∷ 4 ∷ 2 ∷ [])) ≡
    term (4 ∷ 1 ∷ 2 ∷ []) 39 ∷ term (1 ∷ 3 ∷ 2 ∷ []) 6 ∷ term (4 ∷ 2 ∷ 4 ∷ []) 5 ∷ term (2 ∷ 3 ∷ 4 ∷ []) 94 ∷ term (1 ∷ 2 ∷ 2 ∷ []) 28 ∷ term (2 ∷ 4 ∷ 2 ∷ []) 1 ∷ []
unfolding field_on_numerals entry lift permutations lifts
image_of_four = refl

-- ---- the tetrahedron: each map turns the other three letters, and a scalar for each pair

abbrev tetrahedron : BraidValue
tetrahedron = record {
  field = prime_field (pos 101);
  letters = 4;
  rack = 1 ∷ 4 ∷ 2 ∷ 3 ∷ 3 ∷ 2 ∷ 4 ∷ 1 ∷ 4 ∷ 1 ∷ 3 ∷ 2 ∷ 2 ∷ 3 ∷ 1 ∷ 4 ∷ [];
  cocycle = 28 ∷ 35 ∷ 19 ∷ 16 ∷ 5 ∷ 28 ∷ 49 ∷ 29 ∷ 34 ∷ 11 ∷ 28 ∷ 83 ∷ 7 ∷ 20 ∷ 76 ∷ 28 ∷ [];
}

tetrahedron_lift : lift tetrahedron (2 ∷ 3 ∷ 1 ∷ []) (2 ∷ 2 ∷ 1 ∷ []) ≡ term (4 ∷ 2 ∷ 2 ∷ []) 43
unfolding field_on_numerals entry lift
tetrahedron_lift = refl

tetrahedron_derivative : skew_derivative tetrahedron 4 (single (4 ∷ 1 ∷ 4 ∷ 3 ∷ 4 ∷ [])) ≡ term (2 ∷ 4 ∷ 1 ∷ 4 ∷ []) 59 ∷ term (4 ∷ 1 ∷ 1 ∷ 4 ∷ []) 7 ∷ term (4 ∷ 1 ∷ 4 ∷ 3 ∷ []) 1 ∷ []
unfolding field_on_numerals entry derived_word
tetrahedron_derivative = refl

tetrahedron_image : symmetrizer_image tetrahedron (single (4 ∷ 2 ∷ [])) ≡ term (3 ∷ 4 ∷ []) 20 ∷ term (4 ∷ 2 ∷ []) 1 ∷ []
unfolding field_on_numerals entry lift permutations lifts
tetrahedron_image = refl

-- ---- reflections of four letters, and of three, with scalars that differ

abbrev square : BraidValue
square = record {
  field = prime_field (pos 7);
  letters = 4;
  rack = 1 ∷ 4 ∷ 3 ∷ 2 ∷ 3 ∷ 2 ∷ 1 ∷ 4 ∷ 1 ∷ 4 ∷ 3 ∷ 2 ∷ 3 ∷ 2 ∷ 1 ∷ 4 ∷ [];
  cocycle = 3 ∷ 4 ∷ 4 ∷ 6 ∷ 1 ∷ 4 ∷ 3 ∷ 4 ∷ 4 ∷ 4 ∷ 3 ∷ 6 ∷ 6 ∷ 4 ∷ 4 ∷ 4 ∷ [];
}

square_lift : lift square (3 ∷ 2 ∷ 1 ∷ 5 ∷ 4 ∷ []) (4 ∷ 1 ∷ 4 ∷ 3 ∷ 4 ∷ []) ≡ term (2 ∷ 3 ∷ 4 ∷ 2 ∷ 3 ∷ []) 3
unfolding field_on_numerals entry lift
square_lift = refl

square_derivative : skew_derivative square 4 (single (4 ∷ 3 ∷ 4 ∷ 4 ∷ 4 ∷ [])) ≡ term (1 ∷ 4 ∷ 4 ∷ 4 ∷ []) 4 ∷ term (4 ∷ 3 ∷ 4 ∷ 4 ∷ []) 2 ∷ term (4 ∷ 3 ∷ 4 ∷ 4 ∷ []) 4 ∷ term (4 ∷ 3 ∷ 4 ∷ 4 ∷ []) 1 ∷ []
unfolding field_on_numerals entry derived_word
square_derivative = refl

abbrev twisted_three : BraidValue
twisted_three = record { field = prime_field (pos 5); letters = 3; rack = 1 ∷ 3 ∷ 2 ∷ 3 ∷ 2 ∷ 1 ∷ 2 ∷ 1 ∷ 3 ∷ []; cocycle = 3 ∷ 3 ∷ 3 ∷ 1 ∷ 3 ∷ 4 ∷ 1 ∷ 4 ∷ 3 ∷ [] }

twisted_lift : lift twisted_three (3 ∷ 1 ∷ 2 ∷ []) (2 ∷ 3 ∷ 1 ∷ []) ≡ term (1 ∷ 3 ∷ 2 ∷ []) 4
unfolding field_on_numerals entry lift
twisted_lift = refl

twisted_derivative : skew_derivative twisted_three 1 (single (1 ∷ 1 ∷ 2 ∷ 1 ∷ 2 ∷ [])) ≡ term (1 ∷ 3 ∷ 1 ∷ 3 ∷ []) 1 ∷ term (1 ∷ 3 ∷ 1 ∷ 3 ∷ []) 2 ∷ term (1 ∷ 1 ∷ 2 ∷ 3 ∷ []) 3 ∷ []
unfolding field_on_numerals entry derived_word
twisted_derivative = refl

-- ---- bases and relations: two letters that every letter exchanges

-- over two elements with scalar 1
abbrev exchange : BraidValue
exchange = record { field = prime_field (pos 2); letters = 2; rack = 2 ∷ 1 ∷ 2 ∷ 1 ∷ []; cocycle = 1 ∷ 1 ∷ 1 ∷ 1 ∷ [] }

exchange_basis : basis is_in_kernel exchange 3 ≡ (1 ∷ 1 ∷ 1 ∷ []) ∷ (1 ∷ 1 ∷ 2 ∷ []) ∷ (1 ∷ 2 ∷ 1 ∷ []) ∷ (2 ∷ 1 ∷ 1 ∷ []) ∷ []
unfolding field_on_numerals entry lift permutations lifts is_in_kernel is_zero words words_before combinations are_congruent is_least basis
exchange_basis = refl

exchange_basis_by_derivations : basis is_killed exchange 3 ≡ (1 ∷ 1 ∷ 1 ∷ []) ∷ (1 ∷ 1 ∷ 2 ∷ []) ∷ (1 ∷ 2 ∷ 1 ∷ []) ∷ (2 ∷ 1 ∷ 1 ∷ []) ∷ []
unfolding field_on_numerals entry derived_word is_killed is_zero words words_before combinations are_congruent is_least basis
exchange_basis_by_derivations = refl

-- the candidate 2.2.1, say, doesn't stand here, as 2.2 isn't least
exchange_relations : relations is_in_kernel exchange 3 ≡
    record { candidate = 1 ∷ 2 ∷ 2 ∷ []; form = term (1 ∷ 1 ∷ 1 ∷ []) 1 ∷ term (1 ∷ 1 ∷ 2 ∷ []) 1 ∷ term (1 ∷ 2 ∷ 1 ∷ []) 1 ∷ [] }
    ∷ record { candidate = 2 ∷ 1 ∷ 2 ∷ []; form = term (1 ∷ 1 ∷ 1 ∷ []) 1 ∷ [] }
    ∷ []
unfolding field_on_numerals entry lift permutations lifts is_in_kernel is_zero words words_before combinations are_congruent is_least basis normal_form candidates relations
exchange_relations = refl

-- over three elements with scalar 1: a form with the coefficient 2
abbrev exchange_over_three : BraidValue
exchange_over_three = record { field = prime_field (pos 3); letters = 2; rack = 2 ∷ 1 ∷ 2 ∷ 1 ∷ []; cocycle = 1 ∷ 1 ∷ 1 ∷ 1 ∷ [] }

form_with_a_two : relations is_in_kernel exchange_over_three 2 ≡ record { candidate = 2 ∷ 2 ∷ []; form = term (1 ∷ 1 ∷ []) 2 ∷ term (1 ∷ 2 ∷ []) 1 ∷ term (2 ∷ 1 ∷ []) 1 ∷ [] } ∷ []
unfolding field_on_numerals entry lift permutations lifts is_in_kernel is_zero words words_before combinations are_congruent is_least basis normal_form candidates relations
form_with_a_two = refl

-- two letters that stay, over three elements, with scalars that differ
abbrev resting : BraidValue
resting = record { field = prime_field (pos 3); letters = 2; rack = 1 ∷ 2 ∷ 1 ∷ 2 ∷ []; cocycle = 2 ∷ 1 ∷ 1 ∷ 1 ∷ [] }

resting_relations : relations is_in_kernel resting 2 ≡ record { candidate = 1 ∷ 1 ∷ []; form = [] } ∷ record { candidate = 2 ∷ 1 ∷ []; form = term (1 ∷ 2 ∷ []) 1 ∷ [] } ∷ []
unfolding field_on_numerals entry lift permutations lifts is_in_kernel is_zero words words_before combinations are_congruent is_least basis normal_form candidates relations
resting_relations = refl

-- ---- the end: one letter with a root of unity, whose powers below its order are least

-- the degree limit n as a reason to stop
abbrev beyond : ℕ → ℕ → Option ℕ
beyond n m = if nat_lt n m then Some n else None

abbrev of_order_two : BraidValue
of_order_two = record { field = prime_field (pos 3); letters = 1; rack = 1 ∷ []; cocycle = 2 ∷ [] }

closed_degrees : degrees_finished is_in_kernel of_order_two (beyond 3) ≡ 0 ∷ 1 ∷ 2 ∷ []
unfolding field_on_numerals entry lift permutations lifts is_in_kernel is_zero words words_before combinations are_congruent is_least basis degrees_finished finished_from
closed_degrees = refl

closed_without_a_stop : stop_of is_in_kernel of_order_two (beyond 3) ≡ None
unfolding field_on_numerals entry lift permutations lifts is_in_kernel is_zero words words_before combinations are_congruent is_least basis degrees_finished finished_from is_closed stop_of
closed_without_a_stop = refl

abbrev of_order_four : BraidValue
of_order_four = record { field = prime_field (pos 5); letters = 1; rack = 1 ∷ []; cocycle = 3 ∷ [] }

stopped_degrees : degrees_finished is_in_kernel of_order_four (beyond 1) ≡ 0 ∷ 1 ∷ []
unfolding field_on_numerals entry lift permutations lifts is_in_kernel is_zero words words_before combinations are_congruent is_least basis degrees_finished finished_from
stopped_degrees = refl

stopped_by_the_limit : stop_of is_in_kernel of_order_four (beyond 1) ≡ Some 1
unfolding field_on_numerals entry lift permutations lifts is_in_kernel is_zero words words_before combinations are_congruent is_least basis degrees_finished finished_from is_closed stop_of
stopped_by_the_limit = refl
