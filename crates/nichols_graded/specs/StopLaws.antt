-- What the laws of stops say: what stops a degree, and that the end comes at the first degree that something stops.
use Rattle.std.specs.Prelude.{◌≡◌, ◌↔◌, ◌<◌, ◌≤◌, ℕ, suc, true, false, List, ◌∷◌, ◌++◌, length, Option, None, Some}
use Rattle.std.specs.List.{Contains}
use Rattle.nichols_braid.specs.declared.TheConstants.{MOST_DEGREES, MOST_PRODUCTS}
use Rattle.nichols_braid.specs.Braid.{BraidValue}
use Rattle.nichols_braid.specs.Kernel.{is_in_kernel}
use Rattle.nichols_braid.specs.Products.{products, rows}
use Rattle.nichols_braid.specs.End.{is_empty_degree}
use Rattle.nichols_graded.specs.Ends.{stops_at, algebra_end}
use Rattle.nichols_graded.specs.declared.ends.End.TheVariants.{Closed, Stopped}
use Rattle.nichols_graded.specs.declared.ends.Stop.{Stop}
use Rattle.nichols_graded.specs.declared.ends.Stop.TheVariants.{DegreeLimit, Wide, Rows}

-- no product of a list has more rows in degree m than the limit
abbrev pub AreWithinRows : BraidValue → ℕ → ℕ → List (List ℕ) → Type 0
AreWithinRows braid rows_limit m gs = (g : List ℕ) → Contains gs g → rows is_in_kernel braid m g ≤ rows_limit

-- the first product of degree m that has more rows than the limit: its number, which counts from 1, and the count of its rows
pub record IsFirstOver (braid : BraidValue) (rows_limit m number count : ℕ) : Type 0 where
  pub before : List (List ℕ)
  pub product : List ℕ
  pub behind : List (List ℕ)
  pub listed : products braid m ≡ before ++ product ∷ behind
  pub within : AreWithinRows braid rows_limit m before
  pub over : rows_limit < rows is_in_kernel braid m product
  pub place : number ≡ suc (length before)
  pub counted : count ≡ rows is_in_kernel braid m product

-- why degree m isn't made, or that nothing stops it
abbrev pub IsStop : BraidValue → ℕ → ℕ → ℕ → Option Stop → Type 0
IsStop braid limit rows_limit m (Some DegreeLimit) = limit < m
IsStop braid limit rows_limit m (Some (Wide n)) = (m ≤ limit) × (MOST_PRODUCTS < length (products braid m)) × (n ≡ m)
IsStop braid limit rows_limit m (Some (Rows n number count)) = (m ≤ limit) × (length (products braid m) ≤ MOST_PRODUCTS) × (n ≡ m) × IsFirstOver braid rows_limit m number count
IsStop braid limit rows_limit m None = (m ≤ limit) × (length (products braid m) ≤ MOST_PRODUCTS) × AreWithinRows braid rows_limit m (products braid m)

-- that is what stops it
abbrev pub StopsAreTheFirst : Type 0
StopsAreTheFirst = (braid : BraidValue) (limit rows_limit m : ℕ) (stop : Option Stop) → (stops_at braid limit rows_limit m ≡ stop) ↔ IsStop braid limit rows_limit m stop

-- degree m is the first that something stops, which is this, and no degree before it is empty
pub record IsFirstStopped (braid : BraidValue) (limit rows_limit m : ℕ) (stop : Stop) : Type 0 where
  pub cause : stops_at braid limit rows_limit m ≡ Some stop
  pub free : (j : ℕ) → j < m → stops_at braid limit rows_limit j ≡ None
  pub filled : (j : ℕ) → j < m → is_empty_degree is_in_kernel braid j ≡ false

-- degree m is empty, and nothing stops it or a degree before it
pub record IsEmptyUnstopped (braid : BraidValue) (limit rows_limit m : ℕ) : Type 0 where
  pub empty : is_empty_degree is_in_kernel braid m ≡ true
  pub free : (j : ℕ) → j ≤ m → stops_at braid limit rows_limit j ≡ None

-- the algebra is stopped by what stops the first such degree, where none before is empty, and is closed where one is
pub record IsEndAtTheFirst (braid : BraidValue) (limit rows_limit : ℕ) : Type 0 where
  pub stopped : (stop : Stop) → (algebra_end braid limit rows_limit ≡ Stopped stop) ↔ ((m : ℕ) × IsFirstStopped braid limit rows_limit m stop)
  pub closed : (algebra_end braid limit rows_limit ≡ Closed) ↔ ((m : ℕ) × IsEmptyUnstopped braid limit rows_limit m)

abbrev pub EndIsAtTheFirst : Type 0
EndIsAtTheFirst = (braid : BraidValue) (limit rows_limit : ℕ) → limit ≤ MOST_DEGREES → IsEndAtTheFirst braid limit rows_limit
