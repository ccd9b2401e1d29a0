-- The fields of a permutation, from its list of end places.
use Rattle.std.specs.Prelude.{◌≡◌, ℕ, ◌-◌, List, ◌++◌, length, take, replicate}
use Rattle.nichols_tensor.specs.Inline.{IsInline, fields_kept}
use Rattle.nichols_lift.specs.declared.perm.Perm.TheInside.{Inside}
use Rattle.nichols_lift.specs.declared.TheConstants.{PLACE_LIMIT}
use Rattle.nichols_lift.specs.Perm.{IsPerm}

-- the fields that a list of end places has
abbrev pub fields_of : List ℕ → Inside
fields_of xs = record { len = length xs; ends = xs ++ replicate (PLACE_LIMIT - length xs) 0 }

pub fields_back : (p : Inside) → IsInline PLACE_LIMIT IsPerm p.len p.ends → fields_of (take p.len p.ends) ≡ p
fields_back p h = fields_kept (λ n (xs : List ℕ). record { len = n; ends = xs }) PLACE_LIMIT IsPerm p.len p.ends h
