-- Why a document is refused.
use Rattle.std.specs.Prelude.{ℕ, ℤ, List, Option, None, Some}
use Rattle.std.specs.Option.{option_map}
use Rattle.nichols_field.specs.declared.FieldFault.{FieldFault}
use Rattle.nichols_field.specs.declared.FieldFault.TheVariants.{OutsideList, Root}
use Rattle.nichols_braid.specs.Faults.{TableFault}
use Rattle.nichols_braid.specs.FaultAnswers.{table_fault_in}
use Rattle.nichols_expression.specs.declared.faults.Cause.{Cause}
use Rattle.nichols_input.specs.declared.key.Key.{Key}
use Rattle.nichols_input.specs.declared.faults.InputFault.{InputFault}
use Rattle.nichols_input.specs.declared.faults.InputFault.TheVariants.{NotToml, MissingKey, UnknownKey, WrongKind, Modulus, Braid, Order, Expression, Memory}

-- what is wrong with a document, in the order in which it is looked for
pub data Refusal : Type 0 where
  -- its bytes aren't UTF-8 or aren't TOML
  not_toml : Refusal
  -- a key isn't there
  missing_key : Key → Refusal
  -- a key is there that isn't allowed
  unknown_key : List ℕ → Refusal
  -- a value is of a wrong kind
  wrong_kind : Key → Refusal
  -- the modulus is no field's
  modulus : ℤ → Refusal
  -- the extension's polynomial has this root, the least
  root : ℕ → Refusal
  -- rows and scalars aren't a braid
  tables : TableFault → Refusal
  -- the order is none of the letters, by its least wrong place from 1
  order : (place : ℕ) → Refusal
  -- a text, by its number from 1, is no expression, by the place of its first fault from 1
  expression : (number place : ℕ) → Cause → Refusal

-- why there is no field
abbrev pub field_refusal : FieldFault → Refusal
field_refusal (OutsideList p) = modulus p
field_refusal (Root r) = root r

-- the refusal that a fault of the reader tells; want of memory tells none
abbrev pub refusal_of : InputFault → Option Refusal
refusal_of NotToml = Some not_toml
refusal_of (MissingKey key) = Some (missing_key key)
refusal_of (UnknownKey text) = Some (unknown_key text)
refusal_of (WrongKind key) = Some (wrong_kind key)
refusal_of (Modulus fault) = Some (field_refusal fault)
refusal_of (Braid fault) = option_map tables (table_fault_in fault)
refusal_of (Order place) = Some (order place)
refusal_of (Expression number place cause) = Some (expression number place cause)
refusal_of Memory = None
