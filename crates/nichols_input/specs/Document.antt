-- What a document says, as a function of its bytes: its braid, its order and its expressions, or the first of its faults.
use Rattle.std.specs.Prelude.{ℕ, suc, ℤ, pos, Bool, false, not, List, [], ◌∷◌, Option, None, Some, is_none, is_some, map, option_and_then, option_map, unwrap_or, Result, Ok, Err, if◌then◌else◌, nat_lt}
use Rattle.std.specs.Option.{option_or}
use Rattle.std.specs.List.{find}
use Rattle.std.specs.Str.{is_utf8}
use Rattle.nichols_field.specs.Extended.{extended_field}
use Rattle.nichols_field.specs.Field.{FieldValue, prime_field, is_modulus_integer}
use Rattle.nichols_field.specs.declared.FieldFault.{FieldFault}
use Rattle.nichols_field.specs.declared.FieldFault.TheVariants.{OutsideList}
use Rattle.nichols_tensor.specs.Combination.{Combination}
use Rattle.nichols_tensor.specs.Words.{up_to}
use Rattle.nichols_braid.specs.Braid.{BraidValue}
use Rattle.nichols_braid.specs.GivenScalars.{GivenScalars, constant}
use Rattle.nichols_braid.specs.Faults.{TableFault, braid_of}
use Rattle.nichols_braid.specs.GivenTables.{letter_of}
use Rattle.nichols_braid.specs.Order.{order_fault, relabelled}
use Rattle.nichols_braid.specs.declared.entry.Entry.TheVariants.{Whole}
use Rattle.nichols_expression.specs.Reader.{Fault, expression_of}
use Rattle.nichols_expression.specs.declared.faults.Cause.TheVariants.{Surplus}
use Rattle.nichols_expression.specs.declared.TheConstants.{EXPRESSION_LIMIT}
use Rattle.nichols_input.specs.declared.key.Key.{Key}
use Rattle.nichols_input.specs.declared.key.Key.TheVariants.{Modulus, Extension, Rack, Cocycle, Order, Expressions}
use Rattle.nichols_input.specs.Keys.{key_name, needed_keys, known_keys, is_allowed}
use Rattle.nichols_input.specs.Shapes.{as_integers, as_rows, as_pair, as_scalars, as_texts, has_kind}
use Rattle.nichols_input.specs.Refusal.{Refusal, not_toml, missing_key, unknown_key, wrong_kind, field_refusal, tables, order, expression}
use Rattle.toml.specs.Data.{Data, Members, no_members, member, get_member, as_integer}
use Rattle.toml.specs.Parse.{parse_document}

-- what a document says: an order of the letters, a braid on ranks, and the values of its expressions, in ranks too
abbrev pub DocumentValue : Type 0
DocumentValue = record { braid : BraidValue; order : List ℕ; expressions : List Combination }

-- ---- keys and kinds

-- the value at a key
abbrev pub at_key : Key → Members → Option Data
at_key key ms = get_member (key_name key) ms

-- the first needed key that isn't there
unfoldable pub missing_in : Members → Option Key
missing_in ms = find (λ key. is_none (at_key key ms)) needed_keys

-- the keys of a table, which stand in the order of their bytes
abbrev pub keys_in : Members → List (List ℕ)
keys_in no_members = []
keys_in (member text d ms) = text ∷ keys_in ms

-- the first key that isn't allowed
unfoldable pub unknown_in : Option (List ℕ) → Members → Option (List ℕ)
unknown_in further ms = find (λ text. not (is_allowed further text)) (keys_in ms)

-- whether a document has an extension
abbrev pub is_extended : Members → Bool
is_extended ms = is_some (at_key Extension ms)

-- whether the value at a key, where there is one, is of another kind than the key's
abbrev pub has_wrong_kind : Bool → Key → Option Data → Bool
has_wrong_kind extended key None = false
has_wrong_kind extended key (Some d) = not (has_kind extended key d)

-- the first key that is there with a value of a wrong kind
unfoldable pub wrong_kind_in : Members → Option Key
wrong_kind_in ms = find (λ key. has_wrong_kind (is_extended ms) key (at_key key ms)) known_keys

-- what is wrong with the keys: first a missing one
unfoldable pub keys_refusal : Option (List ℕ) → Members → Option Refusal
keys_refusal further ms = option_or (option_map missing_key (missing_in ms)) (option_map unknown_key (unknown_in further ms))

-- what is wrong with the kinds
abbrev pub kinds_refusal : Members → Option Refusal
kinds_refusal ms = option_map wrong_kind (wrong_kind_in ms)

-- ---- what stands at the keys

-- what stands at the keys
pub record Given : Type 0 where
  pub modulus : ℤ
  pub extension : Option (ℤ × ℤ)
  pub rows : List (List ℤ)
  pub scalars : GivenScalars
  pub order : Option (List ℤ)
  pub texts : List (List ℕ)

-- the value at a key, read as it should be; the last where it isn't there, or is of a wrong kind
abbrev pub read_at : {X : Type 0} → (Data → Option X) → Key → Members → X → X
read_at shape key ms other = unwrap_or (option_and_then shape (at_key key ms)) other

-- a value that may be left out
abbrev pub may_be : {X : Type 0} → (Data → Option X) → Option Data → Option (Option X)
may_be shape None = Some None
may_be shape (Some d) = option_map (λ x. Some x) (shape d)

-- without the key there are none
abbrev pub texts_of : Option Data → Option (List (List ℕ))
texts_of None = Some []
texts_of (Some d) = as_texts d

abbrev pub given_at : Members → Given
given_at ms = record {
  modulus = read_at as_integer Modulus ms (pos 0);
  extension = unwrap_or (may_be as_pair (at_key Extension ms)) None;
  rows = read_at as_rows Rack ms [];
  scalars = read_at (as_scalars (is_extended ms)) Cocycle ms (constant (Whole (pos 0)));
  order = unwrap_or (may_be as_integers (at_key Order ms)) None;
  texts = unwrap_or (texts_of (at_key Expressions ms)) [];
}

-- ---- the field and the order

-- the field of p elements, or of p squared with an extension, or why there is none
abbrev pub field_of : ℤ → Option (ℤ × ℤ) → Result FieldValue FieldFault
field_of p None = if is_modulus_integer p then Ok (prime_field p) else Err (OutsideList p)
field_of p (Some t) = extended_field p t.0 t.1

-- an order, unless it is wrong at this place
abbrev pub unless_wrong : Option ℕ → List ℕ → Result (List ℕ) ℕ
unless_wrong None list = Ok list
unless_wrong (Some place) list = Err place

-- the order of n letters that is given, or its least wrong place; it is 1 to n where none is given
abbrev pub order_of : ℕ → Option (List ℤ) → Result (List ℕ) ℕ
order_of n None = Ok (up_to n)
order_of n (Some list) = unless_wrong (order_fault n list) (map letter_of list)

-- ---- the expressions

-- the value of the text of this number, or its fault; a text beyond the limit has one at its first byte
abbrev pub with_number : ℕ → Result Combination Fault → Result Combination Refusal
with_number k (Ok f) = Ok f
with_number k (Err fault) = Err (expression k fault.place fault.cause)

abbrev pub value_of : BraidValue → List ℕ → ℕ → List ℕ → Result Combination Refusal
value_of braid list k text = if nat_lt EXPRESSION_LIMIT k then Err (expression k 1 Surplus) else with_number k (expression_of braid list text)

-- one value more in front, or the first fault
abbrev pub put_value : Result Combination Refusal → Result (List Combination) Refusal → Result (List Combination) Refusal
put_value (Err refusal) rest = Err refusal
put_value (Ok f) (Err refusal) = Err refusal
put_value (Ok f) (Ok fs) = Ok (f ∷ fs)

-- the values of texts that are numbered from k on, or the first fault
unfoldable pub values_from : BraidValue → List ℕ → ℕ → List (List ℕ) → Result (List Combination) Refusal
values_from braid list k [] = Ok []
values_from braid list k (text ∷ texts) = put_value (value_of braid list k text) (values_from braid list (suc k) texts)

-- ---- the document

-- a document of a braid on ranks and its expressions, or the fault of these
abbrev pub with_values : BraidValue → List ℕ → Result (List Combination) Refusal → Result DocumentValue Refusal
with_values braid list (Ok fs) = Ok (record { braid = braid; order = list; expressions = fs })
with_values braid list (Err refusal) = Err refusal

-- a document of a braid, an order and texts, or the first fault of these
abbrev pub with_order : BraidValue → List (List ℕ) → Result (List ℕ) ℕ → Result DocumentValue Refusal
with_order braid texts (Ok list) = with_values (relabelled list braid) list (values_from (relabelled list braid) list 1 texts)
with_order braid texts (Err place) = Err (order place)

-- the places of a braid's fault are those of the document's own letters
abbrev pub with_braid : Given → Result BraidValue TableFault → Result DocumentValue Refusal
with_braid given (Ok braid) = with_order braid given.texts (order_of braid.letters given.order)
with_braid given (Err fault) = Err (tables fault)

abbrev pub with_field : Given → Result FieldValue FieldFault → Result DocumentValue Refusal
with_field given (Ok field) = with_braid given (braid_of field given.rows given.scalars)
with_field given (Err fault) = Err (field_refusal fault)

-- the document of what is given: its field, its braid, its order, and then its expressions
unfoldable pub document_of : Given → Result DocumentValue Refusal
document_of given = with_field given (field_of given.modulus given.extension)

-- a refusal, where there is one, comes first
abbrev pub unless_refused : Option Refusal → Result DocumentValue Refusal → Result DocumentValue Refusal
unless_refused None document = document
unless_refused (Some refusal) document = Err refusal

-- the document of a top table: first its keys, then their kinds
unfoldable pub document_of_table : Option (List ℕ) → Members → Result DocumentValue Refusal
document_of_table further ms = unless_refused (keys_refusal further ms) (unless_refused (kinds_refusal ms) (document_of (given_at ms)))

-- the top table of a document, where its bytes are UTF-8 and TOML
unfoldable pub table_in : List ℕ → Option Members
table_in bytes = if is_utf8 bytes then parse_document bytes else None

-- the document of a top table, where there is one
abbrev pub document_of_found : Option (List ℕ) → Option Members → Result DocumentValue Refusal
document_of_found further None = Err not_toml
document_of_found further (Some ms) = document_of_table further ms

-- what bytes say where a further key is allowed, if one is, or why they are refused
unfoldable pub document_with : Option (List ℕ) → List ℕ → Result DocumentValue Refusal
document_with further bytes = document_of_found further (table_in bytes)

-- what bytes say, or why they are refused
unfoldable pub document_in : List ℕ → Result DocumentValue Refusal
document_in bytes = document_with None bytes

-- the value at a key of the top table of bytes, where it is there
unfoldable pub value_in : List ℕ → List ℕ → Option Data
value_in key bytes = option_and_then (get_member key) (table_in bytes)
