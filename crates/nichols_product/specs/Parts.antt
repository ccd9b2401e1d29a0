-- Elements as sums over the least words of some blocks.
use Rattle.std.specs.Prelude.{◌≡◌, ◌≤◌, ℕ, suc, false, List, [], ◌∷◌, ◌++◌, length, min}
use Rattle.std.specs.List.{list_any, AllByRecursion, Contains}
use Rattle.nichols_tensor.specs.Combination.{Combination, HasSameValues, is_zero}
use Rattle.nichols_tensor.specs.Product.{product_of}
use Rattle.nichols_braid.specs.Braid.{BraidValue}
use Rattle.nichols_braid.specs.Kernel.{is_killed}
use Rattle.nichols_braid.specs.Products.{products}
use Rattle.nichols_braid.specs.WholeForm.{normal_form_by_parts}
use Rattle.nichols_value.specs.Block.{block_basis}
use Rattle.nichols_reduce.specs.Sums.{combination_of}
use Rattle.nichols_product.specs.Degrees.{degree_of_product}
use Rattle.nichols_product.specs.Products.{is_product_beyond}
use Rattle.nichols_product.specs.declared.parts.Part.{Part}
use Rattle.nichols_product.specs.declared.running.Running.{Running}

-- the element that the sums of a block stand for
abbrev pub element_of : BraidValue → Part → Combination
element_of braid p = combination_of braid.field (block_basis braid p.degree p.product) p.sums.items

-- the sum of these elements
unfoldable pub total : BraidValue → List Part → Combination
total braid [] = []
total braid (p ∷ ps) = element_of braid p ++ total braid ps

-- a block of a degree that is made, with a sum for each of its least words
pub record IsPart (braid : BraidValue) (last : ℕ) (p : Part) : Type 0 where
  pub made : p.degree ≤ last
  pub there : Contains (products braid p.degree) p.product
  pub width : length p.sums.items ≡ length (block_basis braid p.degree p.product)

abbrev pub AreParts : BraidValue → ℕ → List Part → Type 0
AreParts braid last ps = AllByRecursion (IsPart braid last) ps

-- no degree exceeds n
abbrev pub AreWithin : ℕ → List Part → Type 0
AreWithin n ps = AllByRecursion (λ p. p.degree ≤ n) ps

-- parts of degrees that don't exceed the reach
pub record IsRunning (braid : BraidValue) (last : ℕ) (r : Running) : Type 0 where
  pub parts : AreParts braid last r.parts.items
  pub within : AreWithin r.reach r.parts.items

-- what is kept of the product of some factors: whether one of them is zero, else its degree, up to the first degree that isn't made,
-- and the product itself where it isn't beyond the last degree
pub record IsProductOf (braid : BraidValue) (last : ℕ) (fs : List Combination) (r : Running) : Type 0 where
  pub zero : r.zero ≡ list_any (is_zero braid.field) fs
  pub reach : r.zero ≡ false → r.reach ≡ min (degree_of_product fs) (suc last)
  pub values : is_product_beyond braid last fs ≡ false → HasSameValues braid.field (total braid r.parts.items) (normal_form_by_parts is_killed braid (product_of braid.field fs))
