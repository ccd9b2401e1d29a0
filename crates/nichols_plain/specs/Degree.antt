-- A degree of a Nichols algebra.
use Rattle.std.specs.Prelude.{◌≡◌, ℕ}
use Rattle.nichols_braid.specs.Braid.{BraidValue}
use Rattle.nichols_braid.specs.Kernel.{is_in_kernel}
use Rattle.nichols_braid.specs.Least.{basis, relations}
use Rattle.nichols_plain.specs.declared.degree.PlainDegree.{PlainDegree}

-- the least words and the relations of degree m, as the quantum symmetrizer gives them
pub record IsDegree (braid : BraidValue) (m : ℕ) (d : PlainDegree) : Type 0 where
  pub degree : d.degree ≡ m
  pub basis : d.basis.items ≡ basis is_in_kernel braid m
  pub relations : d.relations.items ≡ relations is_in_kernel braid m
