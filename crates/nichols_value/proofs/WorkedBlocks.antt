-- Worked rows of blocks. The values come from another program.
use Rattle.std.proofs.Common.{◌≡◌, ℕ, true, List, [], ◌∷◌, map, refl}
use Rattle.std.specs.Prelude.{pos}
use Rattle.nichols_field.specs.Field.{prime_field}
use Rattle.nichols_field.proofs.OnNumerals.{field_on_numerals}
use Rattle.nichols_tensor.specs.Combination.{is_zero}
use Rattle.nichols_tensor.specs.Words.{combinations, words, words_before}
use Rattle.nichols_braid.specs.Braid.{BraidValue, entry}
use Rattle.nichols_braid.specs.Derivation.{derived_word}
use Rattle.nichols_braid.specs.Kernel.{is_killed}
use Rattle.nichols_braid.specs.Least.{are_congruent, basis, candidates, is_least}
use Rattle.nichols_braid.specs.Product.{product_before, product_of, unact}
use Rattle.nichols_braid.specs.Products.{each_once, leading, products, rows}
use Rattle.nichols_value.specs.declared.value.BlockValue.TheVariants.{Over, Void}
use Rattle.nichols_value.specs.Block.{block_basis, has_block, is_whole, is_whole_below, left_lower_basis, lower_basis, lower_letters}
use Rattle.nichols_value.specs.Value.{block_value}

-- the three transpositions over two elements, with the scalar 1
abbrev three : BraidValue
three = record { field = prime_field (pos 2); letters = 3; rack = 1 ∷ 3 ∷ 2 ∷ 3 ∷ 2 ∷ 1 ∷ 2 ∷ 1 ∷ 3 ∷ []; cocycle = 1 ∷ 1 ∷ 1 ∷ 1 ∷ 1 ∷ 1 ∷ 1 ∷ 1 ∷ 1 ∷ [] }

-- the product of 1.2, of 2.3 and of 3.1
abbrev onward : List ℕ
onward = 2 ∷ 3 ∷ 1 ∷ []

products_of_two : products three 2 ≡ (1 ∷ 2 ∷ 3 ∷ []) ∷ onward ∷ (3 ∷ 1 ∷ 2 ∷ []) ∷ []
unfolding entry words product_of each_once products
products_of_two = refl

blocks_of_two : map (block_basis three 2) (products three 2) ≡ [] ∷ ((1 ∷ 2 ∷ []) ∷ (2 ∷ 3 ∷ []) ∷ []) ∷ ((1 ∷ 3 ∷ []) ∷ (2 ∷ 1 ∷ []) ∷ []) ∷ []
unfolding field_on_numerals entry derived_word is_killed is_zero words words_before combinations are_congruent is_least basis product_of each_once products block_basis
blocks_of_two = refl

letters_below : lower_letters three 2 onward ≡ 1 ∷ 2 ∷ 3 ∷ []
unfolding entry words product_of each_once products unact product_before leading has_block lower_letters
letters_below = refl

below_one : lower_basis three 2 onward 1 ≡ (3 ∷ []) ∷ []
unfolding field_on_numerals entry derived_word is_killed is_zero words words_before combinations are_congruent is_least basis product_of unact product_before block_basis lower_basis
below_one = refl

left_below_one : left_lower_basis three 2 onward 1 ≡ (2 ∷ []) ∷ []
unfolding field_on_numerals entry derived_word is_killed is_zero words words_before combinations are_congruent is_least basis product_of left_lower_basis
left_below_one = refl

whole_at_three : is_whole three 3 2 onward ≡ true
unfolding field_on_numerals entry derived_word is_killed is_zero words words_before combinations are_congruent is_least basis candidates product_of each_once products rows unact product_before leading has_block lower_letters is_whole
whole_at_three = refl

over_at_two : block_value three 2 2 onward ≡ Over 3
unfolding field_on_numerals entry derived_word is_killed is_zero words words_before combinations are_congruent is_least basis candidates product_of each_once products rows unact product_before leading has_block lower_letters is_whole is_whole_below block_value
over_at_two = refl

void_at_two : block_value three 2 3 (1 ∷ 3 ∷ 2 ∷ []) ≡ Void
unfolding field_on_numerals entry derived_word is_killed is_zero words words_before combinations are_congruent is_least basis candidates product_of each_once products rows unact product_before leading has_block lower_letters is_whole is_whole_below block_value
void_at_two = refl
