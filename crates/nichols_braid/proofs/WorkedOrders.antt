-- Worked rows of orders, over a rack where rank and letter can't be exchanged unseen, and of scalars that are pairs. The values
-- were found by hand.
use Rattle.std.proofs.Common.{◌≡◌, [], ◌∷◌, List, ℕ, refl, map, Some, Ok}
use Rattle.std.specs.Prelude.{pos, negsuc}
use Rattle.nichols_field.specs.Field.{FieldValue, prime_field, quadratic_field, joined, element_of}
use Rattle.nichols_field.proofs.OnNumerals.{field_on_numerals}
use Rattle.nichols_tensor.specs.Combination.{single, is_zero}
use Rattle.nichols_tensor.specs.Words.{words, words_before, combinations}
use Rattle.nichols_tensor.proofs.Terms.{term}
use Rattle.nichols_braid.specs.Braid.{BraidValue, entry}
use Rattle.nichols_braid.specs.Faults.{letters_fault, wrong_row, rack_shape_fault, rack_entry_fault, bijection_fault, distributivity_fault, cocycle_shape_fault, zero_fault, cocycle_fault, table_fault, braid_of}
use Rattle.nichols_braid.specs.GivenEntries.{given_element}
use Rattle.nichols_braid.specs.GivenScalars.{table}
use Rattle.nichols_braid.specs.Kernel.{is_in_kernel}
use Rattle.nichols_braid.specs.Least.{are_congruent, is_least, basis, normal_form, candidates, relations}
use Rattle.nichols_braid.specs.Lift.{lift}
use Rattle.nichols_braid.specs.Order.{entries_before, rank_of, letter_at, relabelled, product_in_letters, order_fault}
use Rattle.nichols_braid.specs.OrderForms.{relations_by}
use Rattle.nichols_braid.specs.Product.{product_of}
use Rattle.nichols_braid.specs.Products.{each_once, products}
use Rattle.nichols_braid.specs.Symmetrizer.{permutations, lifts, symmetrizer_image}
use Rattle.nichols_braid.specs.declared.entry.Entry.TheVariants.{Whole, Pair}

-- ---- four letters over five elements, each of which sends 1 to 2 to 3 to 4 to 1, with `q(i, j) = j`

abbrev four : BraidValue
four = record { field = prime_field (pos 5); letters = 4; rack = 2 ∷ 3 ∷ 4 ∷ 1 ∷ 2 ∷ 3 ∷ 4 ∷ 1 ∷ 2 ∷ 3 ∷ 4 ∷ 1 ∷ 2 ∷ 3 ∷ 4 ∷ 1 ∷ []; cocycle = 1 ∷ 2 ∷ 3 ∷ 4 ∷ 1 ∷ 2 ∷ 3 ∷ 4 ∷ 1 ∷ 2 ∷ 3 ∷ 4 ∷ 1 ∷ 2 ∷ 3 ∷ 4 ∷ [] }

abbrev order : List ℕ
order = 2 ∷ 3 ∷ 1 ∷ 4 ∷ []

ranks : map (rank_of order) (1 ∷ 2 ∷ 3 ∷ 4 ∷ []) ≡ 3 ∷ 1 ∷ 2 ∷ 4 ∷ []
unfolding entries_before
ranks = refl

letters : map (letter_at order) (1 ∷ 2 ∷ 3 ∷ 4 ∷ []) ≡ 2 ∷ 3 ∷ 1 ∷ 4 ∷ []
letters = refl

four_by_rank : relabelled order four ≡ record {
  field = prime_field (pos 5);
  letters = 4;
  rack = 2 ∷ 4 ∷ 1 ∷ 3 ∷ 2 ∷ 4 ∷ 1 ∷ 3 ∷ 2 ∷ 4 ∷ 1 ∷ 3 ∷ 2 ∷ 4 ∷ 1 ∷ 3 ∷ [];
  cocycle = 2 ∷ 3 ∷ 1 ∷ 4 ∷ 2 ∷ 3 ∷ 1 ∷ 4 ∷ 2 ∷ 3 ∷ 1 ∷ 4 ∷ 2 ∷ 3 ∷ 1 ∷ 4 ∷ [];
}
unfolding entries_before entry relabelled
four_by_rank = refl

-- the letters 2.3, by their ranks
image_by_rank : symmetrizer_image (relabelled order four) (single (1 ∷ 2 ∷ [])) ≡ term (4 ∷ 1 ∷ []) 3 ∷ term (1 ∷ 2 ∷ []) 1 ∷ []
unfolding field_on_numerals entries_before entry relabelled lift permutations lifts
image_by_rank = refl

products_by_rank : products (relabelled order four) 2 ≡ (4 ∷ 3 ∷ 2 ∷ 1 ∷ []) ∷ []
unfolding entries_before entry relabelled words product_of each_once products
products_by_rank = refl

-- as a product of letters, it sends 1 to 3 and 2 to 4
product_of_letters : product_in_letters order (4 ∷ 3 ∷ 2 ∷ 1 ∷ []) ≡ 3 ∷ 4 ∷ 1 ∷ 2 ∷ []
unfolding entries_before
product_of_letters = refl

-- ---- wrong places

repeated_entry : order_fault 3 (pos 1 ∷ pos 1 ∷ pos 2 ∷ []) ≡ Some 2
unfolding order_fault
repeated_entry = refl

missing_entry : order_fault 3 (pos 1 ∷ pos 2 ∷ []) ≡ Some 3
unfolding order_fault
missing_entry = refl

surplus_entry : order_fault 3 (pos 1 ∷ pos 2 ∷ pos 3 ∷ pos 1 ∷ []) ≡ Some 4
unfolding order_fault
surplus_entry = refl

wrong_before_the_surplus : order_fault 2 (pos 1 ∷ negsuc 0 ∷ pos 2 ∷ []) ≡ Some 2
unfolding order_fault
wrong_before_the_surplus = refl

-- ---- two letters that act as the identity over four elements, with all three elements other than 0 as scalars

abbrev of_four : FieldValue
of_four = quadratic_field (prime_field (pos 2)) (pos 1) (pos 1)

abbrev two : BraidValue
two = record { field = of_four; letters = 2; rack = 1 ∷ 2 ∷ 1 ∷ 2 ∷ []; cocycle = 1 ∷ 2 ∷ 3 ∷ 1 ∷ [] }

from_entries : braid_of of_four ((pos 1 ∷ pos 2 ∷ []) ∷ (pos 1 ∷ pos 2 ∷ []) ∷ []) (table ((Whole (pos 1) ∷ Pair (pos 0) (pos 1) ∷ []) ∷ (Pair (negsuc 0) (negsuc 2) ∷ Whole (negsuc 0) ∷ []) ∷ [])) ≡ Ok two
unfolding field_on_numerals quadratic_field joined element_of given_element entry letters_fault wrong_row rack_shape_fault rack_entry_fault bijection_fault distributivity_fault cocycle_shape_fault zero_fault cocycle_fault table_fault braid_of
from_entries = refl

relations_of_two : relations is_in_kernel two 2 ≡
    record { candidate = 1 ∷ 1 ∷ []; form = [] } ∷ record { candidate = 2 ∷ 1 ∷ []; form = term (1 ∷ 2 ∷ []) 3 ∷ [] } ∷ record { candidate = 2 ∷ 2 ∷ []; form = [] } ∷ []
unfolding field_on_numerals quadratic_field entry lift permutations lifts is_in_kernel is_zero words words_before combinations are_congruent is_least basis normal_form candidates relations
relations_of_two = refl

-- with the order 2, 1 the relation is read the other way round
relations_by_order : relations_by (2 ∷ 1 ∷ []) two 2 ≡
    record { candidate = 2 ∷ 2 ∷ []; form = [] } ∷ record { candidate = 1 ∷ 2 ∷ []; form = term (2 ∷ 1 ∷ []) 2 ∷ [] } ∷ record { candidate = 1 ∷ 1 ∷ []; form = [] } ∷ []
unfolding field_on_numerals quadratic_field entries_before relabelled entry lift permutations lifts is_in_kernel is_zero words words_before combinations are_congruent is_least basis normal_form candidates relations
relations_by_order = refl
