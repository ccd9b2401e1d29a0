-- What the laws of factors say. A polynomial is the list of its coefficients, from the constant term up, and (k) is
-- `1 + t + .. + t^(k-1)`.
use Rattle.std.specs.Prelude.{◌≡◌, ℕ, ◌<◌, ◌≤◌, ◌↔◌, List, [], ◌∷◌, length, Some}
use Rattle.nichols_graded.specs.Factors.{times_interval, quotient, series_of, factors_of}

-- the quotient by (k) is q exactly where the product of (k) and q is the polynomial; no zeros are dropped or added at the ends
abbrev pub QuotientIsExact : Type 0
QuotientIsExact = (k : ℕ) (p q : List ℕ) → 0 < k → (quotient k p ≡ Some q) ↔ (times_interval k q ≡ p)

-- the product of (k) for these k
abbrev pub product_of_intervals : List ℕ → List ℕ
product_of_intervals [] = 1 ∷ []
product_of_intervals (k ∷ ks) = times_interval k (product_of_intervals ks)

-- the numbers fall, from at most `most` down to at least 2; one may stand several times
abbrev pub FallFrom : ℕ → List ℕ → Type 0
FallFrom most [] = Unit {0}
FallFrom most (k ∷ ks) = (2 ≤ k) × (k ≤ most) × FallFrom k ks

-- the factors fall, from at most the degree plus 1, and multiply to the polynomial of the dimensions
abbrev pub FactorsMultiply : Type 0
FactorsMultiply =
    (dimensions ks : List ℕ) → factors_of dimensions ≡ Some ks →
    FallFrom (length (series_of dimensions)) ks × (product_of_intervals ks ≡ series_of dimensions)

-- ks are factors of p up to `most`: the first is the greatest k up to it whose (k) divides p, and the others are those of the
-- quotient up to k
abbrev pub AreGreatest : ℕ → List ℕ → List ℕ → Type 0
AreGreatest most p [] = p ≡ 1 ∷ []
AreGreatest most p (k ∷ ks) =
    (2 ≤ k) × (k ≤ most) × ((j : ℕ) (q : List ℕ) → k < j → j ≤ most → times_interval j q ≡ p → ⊥) × ((q : List ℕ) × (times_interval k q ≡ p) × AreGreatest k q ks)

-- each factor is the greatest that divides what the greater ones leave
abbrev pub FactorsAreGreatest : Type 0
FactorsAreGreatest = (dimensions ks : List ℕ) → (factors_of dimensions ≡ Some ks) ↔ AreGreatest (length (series_of dimensions)) (series_of dimensions) ks
