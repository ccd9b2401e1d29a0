-- What the laws of certificates say.
use Rattle.std.specs.Prelude.{◌≡◌, ◌<◌, ℕ, suc, true, List, None, Ok, length, map, Option, slice_index_or, []}
use Rattle.std.specs.List.{range_with_len}
use Rattle.nichols_tensor.specs.Combination.{Combination, IsZero, linear_map}
use Rattle.nichols_tensor.specs.Positions.{word_at}
use Rattle.nichols_tensor.specs.Words.{IsOver, HasDegree}
use Rattle.nichols_braid.specs.Braid.{BraidValue, IsBraid, IsLetter}
use Rattle.nichols_braid.specs.Forms.{derived_form}
use Rattle.nichols_braid.specs.Kernel.{Vanishing, is_killed, is_in_kernel}
use Rattle.nichols_braid.specs.Least.{basis, relations}
use Rattle.nichols_input.specs.Document.{DocumentValue}
use Rattle.nichols_check.specs.Table.{Table, AreInOrder, IsTestFor, Passes, by_ranks}
use Rattle.nichols_check.specs.TableRefusal.{is_over_basis, table_refusal}
use Rattle.nichols_check.specs.Certificate.{CertifiedValue, DegreeValue, certified}
use Rattle.toml.specs.Data.{Data}

-- a combination of words of m + 1 letters is zero in the algebra exactly where, for each letter a, the same combination of the normal forms of the
-- derivatives by a of its words is zero
abbrev pub DerivedFormsTellZero : Type 0
DerivedFormsTellZero =
    (braid : BraidValue) → IsBraid braid → (m : ℕ) (f : Combination) → HasDegree (suc m) f → IsOver braid.letters f →
    (is_killed braid (suc m) f ≡ true → (a : ℕ) → IsLetter braid a → IsZero braid.field (linear_map braid.field (λ v. derived_form is_killed braid (suc m) v a) f))
    × (((a : ℕ) → IsLetter braid a → IsZero braid.field (linear_map braid.field (λ v. derived_form is_killed braid (suc m) v a) f)) → is_killed braid (suc m) f ≡ true)

-- a table that passes has the least words and the relations of its degree, as the quantum symmetrizer gives them
abbrev pub PassingTablesAreRight : Type 0
PassingTablesAreRight =
    (braid : BraidValue) → IsBraid braid → (m : ℕ) (t : Table) → AreInOrder braid.field t.relations → Passes braid m t →
    (t.basis ≡ basis is_in_kernel braid (suc m)) × (t.relations ≡ relations is_in_kernel braid (suc m))

-- a table that nothing refuses passes; so it is right
abbrev pub UnrefusedTablesPass : Type 0
UnrefusedTablesPass = (braid : BraidValue) → IsBraid braid → (order : List ℕ) (m : ℕ) (t : Table) → table_refusal braid order m t ≡ None → Passes braid m t

-- the array of each basis word of degree m + 1 is a test for it, and there is none behind the last word's
pub record HaveTests (braid : BraidValue) (order : List ℕ) (m : ℕ) (tests : List (List Combination)) : Type 0 where
  pub count : length tests ≡ length (basis is_killed braid (suc m))
  pub letters : (i : ℕ) → i < length tests → length (slice_index_or tests i []) ≡ braid.letters
  pub over : (i : ℕ) → i < length tests → is_over_basis braid m (slice_index_or tests i []) ≡ true
  pub tell : (i : ℕ) → i < length tests → IsTestFor braid m (basis is_killed braid (suc m)) (word_at (basis is_killed braid (suc m)) i) (by_ranks order (slice_index_or tests i []))

-- the right table of a degree isn't refused where its arrays are tests
abbrev pub RightTablesAreUnrefused : Type 0
RightTablesAreUnrefused =
    (braid : BraidValue) → IsBraid braid → (order : List ℕ) (m : ℕ) (tests : List (List Combination)) → HaveTests braid order m tests →
    table_refusal braid order m (record { basis = basis is_killed braid (suc m); relations = relations is_killed braid (suc m); tests = tests }) ≡ None

-- the least words and the relations of the degrees below k
abbrev pub degrees_of : Vanishing → BraidValue → ℕ → List DegreeValue
degrees_of vanishes braid k = map (λ m. record { basis = basis vanishes braid m; relations = relations vanishes braid m }) (range_with_len 0 k)

-- what a certificate certifies is right: each of its degrees has the least words and the relations that the quantum symmetrizer gives
abbrev pub CertifiedDegreesAreRight : Type 0
CertifiedDegreesAreRight =
    (d : DocumentValue) → IsBraid d.braid → (tables : Option Data) (c : CertifiedValue) → certified d tables ≡ Ok c → c.degrees ≡ degrees_of is_in_kernel d.braid (length c.degrees)
