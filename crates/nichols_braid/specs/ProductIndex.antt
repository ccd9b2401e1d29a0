-- How a list of distinct products is kept: with the place of each.
use Rattle.std.specs.Prelude.{◌≡◌, ℕ, ◌<◌, ◌≤◌, List, Some, length}
use Rattle.std.specs.BTreeMap.{BTreeMap, get}
use Rattle.std.specs.Cmp.Lexicographic.{slice_cmp}
use Rattle.std.specs.Ordering.{nat_cmp}
use Rattle.nichols_tensor.specs.Positions.{word_at}
use Rattle.nichols_braid.specs.declared.TheConstants.{MOST_PRODUCTS}

-- the map has the place of each product of a list, and no other product
pub record IsIndexed (gs : List (List ℕ)) (places : BTreeMap (List ℕ) ℕ) : Type 0 where
  pub few : length gs ≤ MOST_PRODUCTS
  pub placed : (k : ℕ) → k < length gs → get (slice_cmp nat_cmp) places (word_at gs k) ≡ Some k
  pub listed : (g : List ℕ) (k : ℕ) → get (slice_cmp nat_cmp) places g ≡ Some k → (k < length gs) × (word_at gs k ≡ g)
