-- Products of lists of elements, as far as the degrees of an algebra are made.
use Rattle.std.specs.Prelude.{ℕ, Bool, ◌&&◌, not, nat_lt, List, length, map, take, if◌then◌else◌}
use Rattle.std.specs.List.{list_any, range_with_len}
use Rattle.nichols_tensor.specs.Combination.{Combination, is_zero}
use Rattle.nichols_tensor.specs.Product.{product_of}
use Rattle.nichols_braid.specs.Braid.{BraidValue}
use Rattle.nichols_braid.specs.End.{is_empty_degree}
use Rattle.nichols_braid.specs.Kernel.{is_killed}
use Rattle.nichols_braid.specs.WholeForm.{normal_form_by_parts}
use Rattle.nichols_reduce.specs.declared.answer.Normal.{Normal}
use Rattle.nichols_reduce.specs.declared.answer.Normal.TheVariants.{Form, Beyond}
use Rattle.nichols_product.specs.Degrees.{degree_of_product}

-- whether none of the factors is zero, and the degree of their product exceeds the last degree that is made, which has least words
unfoldable pub is_product_beyond : BraidValue → ℕ → List Combination → Bool
is_product_beyond braid last fs = not (list_any (is_zero braid.field) fs) && nat_lt last (degree_of_product fs) && not (is_empty_degree is_killed braid last)

-- that the product of a list is beyond the last degree, or its normal form
unfoldable pub normal_of_product : BraidValue → ℕ → List Combination → Normal
normal_of_product braid last fs = if is_product_beyond braid last fs then Beyond last else Form (normal_form_by_parts is_killed braid (product_of braid.field fs))

-- the answers for the first factor, for the first two, and so on up to all of them
unfoldable pub products_of : BraidValue → ℕ → List Combination → List Normal
products_of braid last fs = map (λ k. normal_of_product braid last (take k fs)) (range_with_len 1 (length fs))
