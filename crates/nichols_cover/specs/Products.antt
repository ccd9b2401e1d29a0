-- The products of least words with generators, brought to candidates.
use Rattle.std.specs.Prelude.{◌≡◌, ℕ, suc, List, [], take, drop}
use Rattle.std.specs.List.{Contains}
use Rattle.nichols_tensor.specs.Combination.{Combination, single, linear_map}
use Rattle.nichols_tensor.specs.Product.{prefixed}
use Rattle.nichols_braid.specs.Braid.{BraidValue}
use Rattle.nichols_braid.specs.Least.{basis, normal_form}
use Rattle.nichols_cover.specs.Ideal.{between, in_ideal}

-- a word with the normal form of its first m letters in their place
unfoldable pub followed : List Combination → BraidValue → ℕ → List ℕ → Combination
followed rs braid m w = between [] (normal_form (in_ideal rs) braid m (single (take m w))) (drop m w)

-- a combination whose words are so replaced
abbrev pub to_candidates : List Combination → BraidValue → ℕ → Combination → Combination
to_candidates rs braid m f = linear_map braid.field (followed rs braid m) f

-- u r, brought to candidates of degree m + 2, for a least word u of degree m and a generator r
abbrev pub IsProduct : List Combination → BraidValue → ℕ → Combination → Type 0
IsProduct rs braid m g = (u : List ℕ) × (r : Combination) × Contains (basis (in_ideal rs) braid m) u × Contains rs r × (g ≡ to_candidates rs braid (suc m) (prefixed u r))
