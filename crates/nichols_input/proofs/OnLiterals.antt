-- What an answer unfolds to compute what a literal document says.
use Rattle.std.specs.Prelude.{⊤}
use Rattle.std.specs.Str.{chars, is_utf8}
use Rattle.toml.proofs.OnLiterals.{toml_on_literals}
use Rattle.nichols_braid.specs.Braid.{entry}
use Rattle.nichols_braid.specs.Faults.{letters_fault, wrong_row, rack_shape_fault, rack_entry_fault, bijection_fault, distributivity_fault, cocycle_shape_fault, zero_fault, cocycle_fault, table_fault, braid_of}
use Rattle.nichols_braid.specs.GivenEntries.{given_element}
use Rattle.nichols_braid.specs.Order.{order_fault, relabelled}
use Rattle.nichols_expression.proofs.OnLiterals.{reader_on_literals}
use Rattle.nichols_input.specs.Document.{missing_in, unknown_in, wrong_kind_in, keys_refusal, values_from, document_of, document_of_table, table_in, document_with, document_in, value_in}

unfoldable pub input_on_literals : ⊤
unfolding toml_on_literals reader_on_literals given_element order_fault relabelled chars is_utf8 entry letters_fault wrong_row rack_shape_fault rack_entry_fault bijection_fault distributivity_fault cocycle_shape_fault zero_fault cocycle_fault table_fault braid_of missing_in unknown_in wrong_kind_in keys_refusal values_from document_of document_of_table table_in document_with document_in value_in
input_on_literals = tt
