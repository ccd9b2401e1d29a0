-- Worked rows of products from the left, of letters carried past words, of products of words and of new words. The values come from another program.
use Rattle.std.proofs.Common.{◌≡◌, [], ◌∷◌, refl}
use Rattle.std.specs.Prelude.{pos}
use Rattle.nichols_field.specs.Field.{prime_field}
use Rattle.nichols_field.proofs.OnNumerals.{field_on_numerals}
use Rattle.nichols_tensor.specs.Combination.{is_zero}
use Rattle.nichols_tensor.specs.Words.{words, words_before, combinations}
use Rattle.nichols_tensor.proofs.Terms.{term}
use Rattle.nichols_braid.specs.Braid.{BraidValue, entry}
use Rattle.nichols_braid.specs.Derivation.{derived_word}
use Rattle.nichols_braid.specs.Kernel.{is_killed}
use Rattle.nichols_braid.specs.Least.{are_congruent, is_least}
use Rattle.nichols_braid.specs.LeftProduct.{letter_times, carried_past}
use Rattle.nichols_braid.specs.NewWords.{is_new, new_words}
use Rattle.nichols_braid.specs.Product.{product_of, unact, product_before, part_of_product}

-- ---- letters from the left

-- three letters over five elements: `i ▷ j` is the letter after j, and `q(i, j)` is 4, 3 or 1 by the letter j
abbrev onward : BraidValue
onward = record { field = prime_field (pos 5); letters = 3; rack = 2 ∷ 3 ∷ 1 ∷ 2 ∷ 3 ∷ 1 ∷ 2 ∷ 3 ∷ 1 ∷ []; cocycle = 4 ∷ 3 ∷ 1 ∷ 4 ∷ 3 ∷ 1 ∷ 4 ∷ 3 ∷ 1 ∷ [] }

three_in_front : letter_times 3 (term (1 ∷ 2 ∷ []) 2 ∷ term [] 4 ∷ []) ≡ term (3 ∷ 1 ∷ 2 ∷ []) 2 ∷ term (3 ∷ []) 4 ∷ []
three_in_front = refl

two_carried : carried_past onward 2 (term (1 ∷ 3 ∷ []) 3 ∷ term (2 ∷ 2 ∷ []) 2 ∷ []) ≡ term (2 ∷ 1 ∷ []) 2 ∷ term (3 ∷ 3 ∷ []) 3 ∷ []
unfolding field_on_numerals entry
two_carried = refl

three_carried : carried_past onward 3 (term (1 ∷ 2 ∷ 3 ∷ []) 1 ∷ []) ≡ term (2 ∷ 3 ∷ 1 ∷ []) 2 ∷ []
unfolding field_on_numerals entry
three_carried = refl

-- ---- products of words

-- five letters, read modulo 5, with `i ▷ j` equal to `2 j - i`
abbrev affine : BraidValue
affine = record {
  field = prime_field (pos 2);
  letters = 5;
  rack = 1 ∷ 3 ∷ 5 ∷ 2 ∷ 4 ∷ 5 ∷ 2 ∷ 4 ∷ 1 ∷ 3 ∷ 4 ∷ 1 ∷ 3 ∷ 5 ∷ 2 ∷ 3 ∷ 5 ∷ 2 ∷ 4 ∷ 1 ∷ 2 ∷ 4 ∷ 1 ∷ 3 ∷ 5 ∷ [];
  cocycle = 1 ∷ 1 ∷ 1 ∷ 1 ∷ 1 ∷ 1 ∷ 1 ∷ 1 ∷ 1 ∷ 1 ∷ 1 ∷ 1 ∷ 1 ∷ 1 ∷ 1 ∷ 1 ∷ 1 ∷ 1 ∷ 1 ∷ 1 ∷ 1 ∷ 1 ∷ 1 ∷ 1 ∷ 1 ∷ [];
}

product_of_none : product_of affine [] ≡ 1 ∷ 2 ∷ 3 ∷ 4 ∷ 5 ∷ []
unfolding entry product_of
product_of_none = refl

product_of_12 : product_of affine (1 ∷ 2 ∷ []) ≡ 4 ∷ 3 ∷ 2 ∷ 1 ∷ 5 ∷ []
unfolding entry product_of
product_of_12 = refl

product_of_21 : product_of affine (2 ∷ 1 ∷ []) ≡ 5 ∷ 4 ∷ 3 ∷ 2 ∷ 1 ∷ []
unfolding entry product_of
product_of_21 = refl

product_of_311 : product_of affine (3 ∷ 1 ∷ 1 ∷ []) ≡ 4 ∷ 2 ∷ 5 ∷ 3 ∷ 1 ∷ []
unfolding entry product_of
product_of_311 = refl

four_before_two : unact affine 2 4 ≡ 3
unfolding entry unact
four_before_two = refl

product_before_2 : product_before affine 2 (4 ∷ 3 ∷ 2 ∷ 1 ∷ 5 ∷ []) ≡ 1 ∷ 3 ∷ 5 ∷ 2 ∷ 4 ∷ []
unfolding entry unact product_before
product_before_2 = refl

product_before_1 : product_before affine 1 (4 ∷ 3 ∷ 2 ∷ 1 ∷ 5 ∷ []) ≡ 4 ∷ 1 ∷ 3 ∷ 5 ∷ 2 ∷ []
unfolding entry unact product_before
product_before_1 = refl

part_of_1 : part_of_product affine (1 ∷ 3 ∷ 5 ∷ 2 ∷ 4 ∷ []) (term (1 ∷ []) 1 ∷ term (2 ∷ []) 1 ∷ []) ≡ term (1 ∷ []) 1 ∷ []
unfolding entry product_of
part_of_1 = refl

-- ---- new words

-- two letters that act trivially, with scalars 1: over two elements 1.2 alone is least in degree 2
abbrev two : BraidValue
two = record { field = prime_field (pos 2); letters = 2; rack = 1 ∷ 2 ∷ 1 ∷ 2 ∷ []; cocycle = 1 ∷ 1 ∷ 1 ∷ 1 ∷ [] }

new_of_degree_0 : new_words is_killed two 0 ≡ [] ∷ []
unfolding is_new new_words words
new_of_degree_0 = refl

new_of_degree_2 : new_words is_killed two 2 ≡ (1 ∷ 1 ∷ []) ∷ (1 ∷ 2 ∷ []) ∷ (2 ∷ 1 ∷ []) ∷ (2 ∷ 2 ∷ []) ∷ []
unfolding field_on_numerals entry derived_word is_killed is_zero words words_before combinations are_congruent is_least is_new new_words
new_of_degree_2 = refl

no_new_of_degree_3 : new_words is_killed two 3 ≡ []
unfolding field_on_numerals entry derived_word is_killed is_zero words words_before combinations are_congruent is_least is_new new_words
no_new_of_degree_3 = refl

-- over three elements the letters commute, and the cubes are zero: 1.1, 1.2 and 2.2 are least in degree 2
abbrev commuting : BraidValue
commuting = record { field = prime_field (pos 3); letters = 2; rack = 1 ∷ 2 ∷ 1 ∷ 2 ∷ []; cocycle = 1 ∷ 1 ∷ 1 ∷ 1 ∷ [] }

new_of_commuting : new_words is_killed commuting 3 ≡ (1 ∷ 1 ∷ 1 ∷ []) ∷ (1 ∷ 1 ∷ 2 ∷ []) ∷ (1 ∷ 2 ∷ 2 ∷ []) ∷ (2 ∷ 2 ∷ 2 ∷ []) ∷ []
unfolding field_on_numerals entry derived_word is_killed is_zero words words_before combinations are_congruent is_least is_new new_words
new_of_commuting = refl
