-- Worked rows over 7 elements: combinations brought into order, and parts of combinations.
use Rattle.std.proofs.Common.{◌≡◌, pos, [], ◌∷◌, map, refl}
use Rattle.nichols_field.specs.Field.{FieldValue, prime_field}
use Rattle.nichols_field.proofs.OnNumerals.{field_on_numerals}
use Rattle.nichols_tensor.specs.Combination.{Combination}
use Rattle.nichols_tensor.specs.InOrder.{with_term, rising_terms, in_order}
use Rattle.nichols_tensor.specs.Parts.{part_of_degree, longest, degrees_of}
use Rattle.nichols_tensor.proofs.Terms.{term}

abbrev seven : FieldValue
seven = prime_field (pos 7)

-- 3*2.1 + 5*1 + 4*[] + 6*2.1 + 2*1 + 1*1.2, where `[]` is the empty word
abbrev mixed : Combination
mixed = term (2 ∷ 1 ∷ []) 3 ∷ term (1 ∷ []) 5 ∷ term [] 4 ∷ term (2 ∷ 1 ∷ []) 6 ∷ term (1 ∷ []) 2 ∷ term (1 ∷ 2 ∷ []) 1 ∷ []

-- the two terms of the word 1 cancel, those of 2.1 sum to 2, and 1.2 comes before 2.1
mixed_in_order : in_order seven mixed ≡ term [] 4 ∷ term (1 ∷ 2 ∷ []) 1 ∷ term (2 ∷ 1 ∷ []) 2 ∷ []
unfolding field_on_numerals with_term rising_terms in_order
mixed_in_order = refl

-- what is in order stays as it is
in_order_again : in_order seven (term [] 4 ∷ term (1 ∷ 2 ∷ []) 1 ∷ term (2 ∷ 1 ∷ []) 2 ∷ []) ≡ term [] 4 ∷ term (1 ∷ 2 ∷ []) 1 ∷ term (2 ∷ 1 ∷ []) 2 ∷ []
unfolding field_on_numerals with_term rising_terms in_order
in_order_again = refl

-- a shorter word comes first, whatever its letters are
shorter_first : in_order seven (term (1 ∷ 1 ∷ []) 1 ∷ term (24 ∷ []) 6 ∷ []) ≡ term (24 ∷ []) 6 ∷ term (1 ∷ 1 ∷ []) 1 ∷ []
unfolding field_on_numerals with_term rising_terms in_order
shorter_first = refl

-- seven times a term is nothing
nothing_left : in_order seven (term (3 ∷ []) 3 ∷ term (3 ∷ []) 4 ∷ []) ≡ []
unfolding field_on_numerals with_term rising_terms in_order
nothing_left = refl

degrees_of_mixed : degrees_of mixed ≡ 0 ∷ 1 ∷ 2 ∷ []
unfolding longest degrees_of
degrees_of_mixed = refl

parts_of_mixed : map (λ m. part_of_degree m mixed) (degrees_of mixed) ≡
    (term [] 4 ∷ []) ∷ (term (1 ∷ []) 5 ∷ term (1 ∷ []) 2 ∷ []) ∷ (term (2 ∷ 1 ∷ []) 3 ∷ term (2 ∷ 1 ∷ []) 6 ∷ term (1 ∷ 2 ∷ []) 1 ∷ []) ∷ []
unfolding longest degrees_of
parts_of_mixed = refl

no_part : part_of_degree 3 mixed ≡ []
no_part = refl
