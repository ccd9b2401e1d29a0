-- Which field p and two integers a and b give, or why there is none.
use Rattle.std.specs.Prelude.{ℕ, ℤ, if◌then◌else◌, Option, None, Some, Result, Ok, Err}
use Rattle.nichols_field.specs.declared.FieldFault.{FieldFault}
use Rattle.nichols_field.specs.declared.FieldFault.TheVariants.{OutsideList, Root}
use Rattle.nichols_field.specs.Field.{FieldValue, prime_field, quadratic_field, root_of, is_modulus_integer}

-- a field, unless its polynomial has this root
abbrev pub unless_root : Option ℕ → FieldValue → Result FieldValue FieldFault
unless_root None field = Ok field
unless_root (Some r) field = Err (Root r)

-- the field of p squared elements, by t with t² = a t + b
abbrev pub extended_field : ℤ → ℤ → ℤ → Result FieldValue FieldFault
extended_field p a b =
    if is_modulus_integer p then unless_root (root_of (prime_field p) a b) (quadratic_field (prime_field p) a b) else Err (OutsideList p)
