-- Degree 0 has the empty word and no relations.
use Rattle.std.proofs.Common.{◌≡◌, ℕ, List, sym, ◌∙◌, ap₂}
use Rattle.nichols_tensor.specs.Relation.{PlainRelation}
use Rattle.nichols_braid.specs.Braid.{BraidValue, IsBraid}
use Rattle.nichols_braid.specs.Kernel.{is_in_kernel}
use Rattle.nichols_braid.specs.Least.{basis, relations}
use Rattle.nichols_braid.proofs.FirstDegree.{basis_first, relations_first}
use Rattle.nichols_lift.proofs.Readings.{one_reading}
use Rattle.nichols_check.specs.Certificate.{degree_zero}

pub degree_zero_is : (braid : BraidValue) → IsBraid braid → degree_zero ≡ record { basis = basis is_in_kernel braid 0; relations = relations is_in_kernel braid 0 }
degree_zero_is braid is =
    sym (ap₂ (λ (ws : List (List ℕ)) (rs : List PlainRelation). record { basis = ws; relations = rs })
    ((one_reading braid is).alike.bases 0 ∙ basis_first braid is.field) ((one_reading braid is).alike.relation_lists 0 ∙ relations_first braid is.field))
