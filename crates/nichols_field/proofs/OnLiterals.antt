-- What an answer unfolds to compute in a field that a literal document names.
use Rattle.std.specs.Prelude.{⊤}
use Rattle.nichols_field.specs.Field.{quadratic_field, root_of, is_extended, joined, element_of}
use Rattle.nichols_field.specs.Pairs.{least_root}
use Rattle.nichols_field.proofs.OnNumerals.{field_on_numerals}

unfoldable pub field_on_literals : ⊤
unfolding field_on_numerals quadratic_field root_of least_root is_extended joined element_of
field_on_literals = tt
