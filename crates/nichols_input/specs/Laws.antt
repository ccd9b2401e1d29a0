-- When a document is read, and when each refusal is told, in the words of the format.
use Rattle.std.specs.Prelude.{◌≡◌, ◌↔◌, ◌≤◌, ◌+◌, ℕ, suc, Bool, true, false, not, List, ◌∷◌, ◌++◌, length, map, Option, None, Some, is_none, option_and_then, Result, Ok, Err}
use Rattle.std.specs.Cmp.Lexicographic.{slice_cmp}
use Rattle.std.specs.List.{list_all, Contains}
use Rattle.std.specs.Ordering.{nat_cmp, is_lt}
use Rattle.std.specs.Result.{is_ok}
use Rattle.nichols_field.specs.Field.{FieldValue}
use Rattle.nichols_field.specs.declared.FieldFault.{FieldFault}
use Rattle.nichols_tensor.specs.Combination.{Combination}
use Rattle.nichols_braid.specs.Braid.{BraidValue}
use Rattle.nichols_braid.specs.Faults.{TableFault, braid_of}
use Rattle.nichols_braid.specs.Order.{relabelled}
use Rattle.nichols_expression.specs.Reader.{Fault, expression_of}
use Rattle.nichols_expression.specs.declared.faults.Cause.{Cause}
use Rattle.nichols_expression.specs.declared.faults.Cause.TheVariants.{Surplus}
use Rattle.nichols_expression.specs.declared.TheConstants.{EXPRESSION_LIMIT}
use Rattle.nichols_input.specs.declared.key.Key.{Key}
use Rattle.nichols_input.specs.declared.key.Key.TheVariants.{Modulus, Extension, Rack, Cocycle, Order, Expressions}
use Rattle.nichols_input.specs.Keys.{needed_keys, known_keys, is_allowed}
use Rattle.nichols_input.specs.Shapes.{as_integers, as_rows, as_pair, as_scalars}
use Rattle.nichols_input.specs.Document.{DocumentValue, Given, at_key, keys_in, is_extended, has_wrong_kind, may_be, texts_of, field_of, order_of, table_in, document_with, document_in}
use Rattle.nichols_input.specs.Refusal.{Refusal, not_toml, missing_key, unknown_key, wrong_kind, field_refusal, tables, order, expression}
use Rattle.toml.specs.Data.{Members, as_integer}

-- the entry is the first along a list that meets a test
pub record IsFirst {X : Type 0} (test : X → Bool) (xs : List X) (x : X) : Type 0 where
  pub before : List X
  pub after : List X
  pub split : xs ≡ before ++ x ∷ after
  pub others : list_all (λ y. not (test y)) before ≡ true
  pub here : test x ≡ true

-- the text is the least of a list, by its bytes, that meets a test
pub record IsLeast (test : List ℕ → Bool) (texts : List (List ℕ)) (text : List ℕ) : Type 0 where
  pub here : Contains texts text
  pub meets : test text ≡ true
  pub least : (other : List ℕ) → Contains texts other → test other ≡ true → is_lt (slice_cmp nat_cmp other text) ≡ false

-- each needed key is there
abbrev pub HasNeededKeys : Members → Type 0
HasNeededKeys ms = list_all (λ key. not (is_none (at_key key ms))) needed_keys ≡ true

-- each needed key is there, and each key is allowed
abbrev pub HasKeys : Option (List ℕ) → Members → Type 0
HasKeys further ms = HasNeededKeys ms × (list_all (λ text. not (not (is_allowed further text))) (keys_in ms) ≡ true)

-- this stands at the keys of a table, each value of its kind
pub record Holds (further : Option (List ℕ)) (ms : Members) (given : Given) : Type 0 where
  pub keys : HasKeys further ms
  pub at_modulus : option_and_then as_integer (at_key Modulus ms) ≡ Some given.modulus
  pub at_extension : may_be as_pair (at_key Extension ms) ≡ Some given.extension
  pub at_rack : option_and_then as_rows (at_key Rack ms) ≡ Some given.rows
  pub at_cocycle : option_and_then (as_scalars (is_extended ms)) (at_key Cocycle ms) ≡ Some given.scalars
  pub at_order : may_be as_integers (at_key Order ms) ≡ Some given.order
  pub at_expressions : texts_of (at_key Expressions ms) ≡ Some given.texts

-- the texts are expressions, as many as a document may have, with these values in order
abbrev pub HaveValues : BraidValue → List ℕ → List (List ℕ) → List Combination → Type 0
HaveValues braid list texts fs = (length texts ≤ EXPRESSION_LIMIT) × (map (expression_of braid list) texts ≡ map Ok fs)

-- the first fault of the texts: at the text of this number, from 1, or for a text that is one too many
pub data IsFirstFault (braid : BraidValue) (list : List ℕ) (texts : List (List ℕ)) : ℕ → ℕ → Cause → Type 0 where
  faulty : (before after : List (List ℕ)) (text : List ℕ) (fault : Fault) (number : ℕ) → texts ≡ before ++ text ∷ after
      → list_all (λ t. is_ok (expression_of braid list t)) before ≡ true → number ≡ 1 + length before → number ≤ EXPRESSION_LIMIT → expression_of braid list text ≡ Err fault
      → IsFirstFault braid list texts number fault.place fault.cause
  surplus : (before after : List (List ℕ)) (text : List ℕ) (number : ℕ) → texts ≡ before ++ text ∷ after
      → list_all (λ t. is_ok (expression_of braid list t)) before ≡ true → number ≡ 1 + length before → number ≡ suc EXPRESSION_LIMIT
      → IsFirstFault braid list texts number 1 Surplus

-- the top table of bytes holds this
abbrev pub HoldsIn : Option (List ℕ) → List ℕ → Given → Type 0
HoldsIn further bytes given = (ms : Members) × (table_in bytes ≡ Some ms) × Holds further ms given

-- it holds this, with this braid, in the document's own letters
abbrev pub GivesBraid : Option (List ℕ) → List ℕ → Given → BraidValue → Type 0
GivesBraid further bytes given braid = HoldsIn further bytes given × (field : FieldValue) × (field_of given.modulus given.extension ≡ Ok field) × (braid_of field given.rows given.scalars ≡ Ok braid)

-- what is due of bytes where a further key is allowed, if one is: the first refusal for which there is a cause, or the document
pub data IsDue (further : Option (List ℕ)) (bytes : List ℕ) : Result DocumentValue Refusal → Type 0 where
  no_table : table_in bytes ≡ None → IsDue further bytes (Err not_toml)
  missing : (ms : Members) (key : Key) → table_in bytes ≡ Some ms → IsFirst (λ k. is_none (at_key k ms)) needed_keys key → IsDue further bytes (Err (missing_key key))
  unknown : (ms : Members) (text : List ℕ) → table_in bytes ≡ Some ms → HasNeededKeys ms → IsLeast (λ t. not (is_allowed further t)) (keys_in ms) text
      → IsDue further bytes (Err (unknown_key text))
  kind : (ms : Members) (key : Key) → table_in bytes ≡ Some ms → HasKeys further ms → IsFirst (λ k. has_wrong_kind (is_extended ms) k (at_key k ms)) known_keys key
      → IsDue further bytes (Err (wrong_kind key))
  no_field : (given : Given) (fault : FieldFault) → HoldsIn further bytes given → field_of given.modulus given.extension ≡ Err fault → IsDue further bytes (Err (field_refusal fault))
  no_braid : (given : Given) (field : FieldValue) (fault : TableFault) → HoldsIn further bytes given → field_of given.modulus given.extension ≡ Ok field
      → braid_of field given.rows given.scalars ≡ Err fault → IsDue further bytes (Err (tables fault))
  no_order : (given : Given) (braid : BraidValue) (place : ℕ) → GivesBraid further bytes given braid → order_of braid.letters given.order ≡ Err place → IsDue further bytes (Err (order place))
  no_expression : (given : Given) (braid : BraidValue) (list : List ℕ) (number place : ℕ) (cause : Cause) → GivesBraid further bytes given braid → order_of braid.letters given.order ≡ Ok list
      → IsFirstFault (relabelled list braid) list given.texts number place cause → IsDue further bytes (Err (expression number place cause))
  whole : (given : Given) (braid : BraidValue) (list : List ℕ) (fs : List Combination) → GivesBraid further bytes given braid → order_of braid.letters given.order ≡ Ok list
      → HaveValues (relabelled list braid) list given.texts fs → IsDue further bytes (Ok (record { braid = relabelled list braid; order = list; expressions = fs }))

-- a document is read, or refused, exactly where that is due
abbrev pub DocumentIsDue : Type 0
DocumentIsDue = (bytes : List ℕ) (due : Result DocumentValue Refusal) → (document_in bytes ≡ due) ↔ IsDue None bytes due

-- and so is one with a further key
abbrev pub DocumentWithKeyIsDue : Type 0
DocumentWithKeyIsDue = (key bytes : List ℕ) (due : Result DocumentValue Refusal) → (document_with (Some key) bytes ≡ due) ↔ IsDue (Some key) bytes due
