-- Which products are made.
use Rattle.std.specs.Prelude.{ℕ, suc, ◌+◌, ◌*◌, ◌/◌, ◌%◌, List, [], ◌∷◌, get_or, length}
use Rattle.std.specs.List.{flat_map, range_with_len}
use Rattle.nichols_tensor.specs.Combination.{single}
use Rattle.nichols_braid.specs.Braid.{BraidValue}
use Rattle.nichols_braid.specs.Kernel.{is_in_kernel}
use Rattle.nichols_braid.specs.Least.{basis}
use Rattle.nichols_product.specs.Products.{normal_of_product}
use Rattle.nichols_reduce.specs.declared.answer.Normal.{Normal}
use Rattle.nichols_times.specs.declared.products.TheConstants.{LEFT_STEP, RIGHT_STEP}

-- the least words of some degrees, degree by degree
abbrev pub words_of : BraidValue → List ℕ → List (List ℕ)
words_of braid degrees = flat_map (basis is_in_kernel braid) degrees

-- those of the degrees up to the last one
abbrev pub least_words : BraidValue → ℕ → List (List ℕ)
least_words braid last = words_of braid (range_with_len 0 (suc last))

-- the places of the factors of the k-th product among so many words
abbrev pub left_place : ℕ → ℕ → ℕ
left_place count k = (k * LEFT_STEP) % count

abbrev pub right_place : ℕ → ℕ → ℕ
right_place count k = (k * RIGHT_STEP + k / count) % count

-- the k-th product of these words
unfoldable pub product_due : BraidValue → ℕ → List (List ℕ) → ℕ → Normal
product_due braid last words k = normal_of_product braid last (single (get_or words (left_place (length words) k) []) ∷ single (get_or words (right_place (length words) k) []) ∷ [])
