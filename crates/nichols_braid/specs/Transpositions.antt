-- Transpositions of points, which are the numbers from 1 on.
use Rattle.std.specs.Prelude.{ℕ, ◌+◌, ◌&&◌, Bool, List, map, filter, if◌then◌else◌, nat_eq, nat_lt}
use Rattle.std.specs.List.{flat_map, position_or_len}
use Rattle.nichols_tensor.specs.Words.{up_to}

-- the transposition of two points, the first below the second
pub record Transposition : Type 0 where
  pub first : ℕ
  pub second : ℕ

-- the transposition of two points in either order
abbrev pub transposition_of : ℕ → ℕ → Transposition
transposition_of a b = if nat_lt a b then record { first = a; second = b } else record { first = b; second = a }

-- where a transposition takes a point
abbrev pub image_under : Transposition → ℕ → ℕ
image_under t x = if nat_eq x t.first then t.second else if nat_eq x t.second then t.first else x

-- the conjugate of t by s: it exchanges the images under s of the two points of t
abbrev pub conjugate : Transposition → Transposition → Transposition
conjugate s t = transposition_of (image_under s t.first) (image_under s t.second)

-- the transpositions of point a and each greater one up to k
abbrev pub transpositions_from : ℕ → ℕ → List Transposition
transpositions_from k a = map (λ b. record { first = a; second = b }) (filter (nat_lt a) (up_to k))

-- the transpositions of the points 1 to k, in lexicographic order of their points
unfoldable pub transpositions : ℕ → List Transposition
transpositions k = flat_map (transpositions_from k) (up_to k)

-- the two have the same points
abbrev pub has_points_of : Transposition → Transposition → Bool
has_points_of s t = nat_eq s.first t.first && nat_eq s.second t.second

-- the place of a transposition in a list, from 1
unfoldable pub number_in : List Transposition → Transposition → ℕ
number_in ts t = position_or_len (has_points_of t) ts + 1
