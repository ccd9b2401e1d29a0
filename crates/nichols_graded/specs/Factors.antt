-- The factors of the series of the dimensions of a closed algebra. A polynomial is the list of its coefficients, from the
-- constant term up, and (k) is `1 + t + .. + t^(k-1)`.
use Rattle.std.specs.Prelude.{ℕ, zero, suc, ◌+◌, ◌-◌, Bool, false, List, [], ◌∷◌, ◌++◌, length, map, take, drop, replicate, Option, None, Some, option_map, if◌then◌else◌, nat_eq, nat_lt, nat_le}
use Rattle.std.specs.List.{list_all}

-- the sum of two polynomials
unfoldable pub polynomial_sum : List ℕ → List ℕ → List ℕ
polynomial_sum [] q = q
polynomial_sum (a ∷ p) [] = a ∷ p
polynomial_sum (a ∷ p) (b ∷ q) = (a + b) ∷ polynomial_sum p q

-- the product of (k) and q, where k is at least 1: of n coefficients it makes n + k - 1
unfoldable pub times_interval : ℕ → List ℕ → List ℕ
times_interval k [] = replicate (k - 1) 0
times_interval k (a ∷ q) = polynomial_sum (replicate k a) (0 ∷ times_interval k q)

-- long division by (k) from the constant term up, for a quotient of n coefficients: the first coefficient is one of the
-- quotient, and is taken from the k - 1 behind it; none where the division leaves a rest, or needs a negative number
unfoldable pub quotient_of : ℕ → ℕ → List ℕ → Option (List ℕ)
quotient_of zero k p = if list_all (λ x. nat_eq x 0) p then Some [] else None
quotient_of (suc n) k [] = None
quotient_of (suc n) k (a ∷ p) =
    if list_all (nat_le a) (take (k - 1) p) then option_map (λ q. a ∷ q) (quotient_of n k (map (λ x. x - a) (take (k - 1) p) ++ drop (k - 1) p)) else None

-- the quotient of p by (k), where it is exact and has no negative coefficient
unfoldable pub quotient : ℕ → List ℕ → Option (List ℕ)
quotient k p = if nat_lt (length p + 1) k then None else quotient_of (length p + 1 - k) k p

-- whether a polynomial is 1
abbrev pub is_one : List ℕ → Bool
is_one (a ∷ []) = nat_eq a 1
is_one p = false

-- k goes down to 2: while (k) divides p exactly and without negative coefficients, k is a factor and p becomes the quotient.
-- None where p isn't 1 in the end. Each step makes k or p shorter.
unfoldable pub factors_within : ℕ → ℕ → List ℕ → Option (List ℕ)
factors_within zero k p = None
factors_within (suc steps) k p =
    if nat_lt k 2 then (if is_one p then Some [] else None)
    else elim (quotient k p) [ Some q ↦ option_map (λ ks. k ∷ ks) (factors_within steps k q) | None ↦ factors_within steps (k - 1) p ]

-- the polynomial of the dimensions of a closed algebra, which end with the 0 of its empty degree
abbrev pub series_of : List ℕ → List ℕ
series_of dimensions = take (length dimensions - 1) dimensions

-- the factors of a closed algebra with these dimensions: k begins at the degree of the polynomial plus 1
unfoldable pub factors_of : List ℕ → Option (List ℕ)
factors_of dimensions = factors_within (suc (length dimensions + length dimensions)) (length (series_of dimensions)) (series_of dimensions)
