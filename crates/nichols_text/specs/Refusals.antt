-- The lines of refusals.
use Rattle.std.specs.Prelude.{ℕ, ℤ, ◌&&◌, List, ◌++◌, codes, decimal, map, take, nat_le, Option, Some, option_map, if◌then◌else◌}
use Rattle.std.specs.Fmt.{signed_decimal}
use Rattle.nichols_field.specs.Pairs.{Pair}
use Rattle.nichols_tensor.specs.declared.TheConstants.{LETTER_LIMIT, WORD_LIMIT}
use Rattle.nichols_braid.specs.Faults.{TableFault, letters, rack_shape, rack_entry, not_bijective, not_distributive, cocycle_shape, cocycle_zero, not_cocycle}
use Rattle.nichols_expression.specs.Printed.{parts_text}
use Rattle.nichols_expression.specs.declared.TheConstants.{NUMBER_LIMIT, TERM_LIMIT, EXPRESSION_LIMIT}
use Rattle.nichols_expression.specs.declared.faults.Cause.{Cause}
use Rattle.nichols_expression.specs.declared.faults.Cause.TheVariants.{Early, Byte, Letter, LongNumber, LongWord, Terms, Surplus}
use Rattle.nichols_input.specs.Keys.{key_name}
use Rattle.nichols_input.specs.Refusal.{Refusal as DocumentRefusal, refusal_of, not_toml, missing_key, unknown_key, wrong_kind, modulus, root, tables, order, expression}
use Rattle.nichols_input.specs.declared.TheConstants.{DOCUMENT_LIMIT}
use Rattle.nichols_input.specs.declared.key.Key.{Key}
use Rattle.nichols_text.specs.declared.key_line.TheConstants.{KEY_LIMIT}
use Rattle.nichols_text.specs.declared.refusal.Refusal.{Refusal}
use Rattle.nichols_text.specs.declared.refusal.Refusal.TheVariants.{TooLong, Input, LongExpression}

-- ---- the document

-- `refused: document longer than <limit> bytes`
unfoldable pub too_long_text : List ℕ
too_long_text = codes "refused: document longer than " ++ decimal DOCUMENT_LIMIT ++ codes " bytes\n"

unfoldable pub not_toml_text : List ℕ
not_toml_text = codes "refused: not TOML\n"

-- `refused: missing key <key>`
unfoldable pub missing_key_text : Key → List ℕ
missing_key_text key = codes "refused: missing key " ++ key_name key ++ codes "\n"

-- a byte that can be seen, from `!` to `~`, or else `?`
abbrev pub printed_byte : ℕ → ℕ
printed_byte byte = if nat_le 33 byte && nat_le byte 126 then byte else 63

-- the first bytes of a key, as they are printed
unfoldable pub printed_key : List ℕ → List ℕ
printed_key text = map printed_byte (take KEY_LIMIT text)

-- `refused: unknown key <text>`
unfoldable pub unknown_key_text : List ℕ → List ℕ
unknown_key_text text = codes "refused: unknown key " ++ printed_key text ++ codes "\n"

-- `refused: wrong kind at key <key>`
unfoldable pub wrong_kind_text : Key → List ℕ
wrong_kind_text key = codes "refused: wrong kind at key " ++ key_name key ++ codes "\n"

-- `refused: modulus <p> not in the list`
unfoldable pub modulus_text : ℤ → List ℕ
modulus_text p = codes "refused: modulus " ++ signed_decimal p ++ codes " not in the list\n"

-- `refused: extension has root <r>`
unfoldable pub root_text : ℕ → List ℕ
root_text r = codes "refused: extension has root " ++ decimal r ++ codes "\n"

-- `refused: order wrong at place <place>`
unfoldable pub order_text : ℕ → List ℕ
order_text place = codes "refused: order wrong at place " ++ decimal place ++ codes "\n"

-- ---- rows and scalars

-- `refused: <n> letters outside 1 to <limit>`
unfoldable pub letters_text : ℕ → List ℕ
letters_text n = codes "refused: " ++ decimal n ++ codes " letters outside 1 to " ++ decimal LETTER_LIMIT ++ codes "\n"

-- `refused: rack row <r> has a wrong length`
unfoldable pub rack_shape_text : ℕ → List ℕ
rack_shape_text row = codes "refused: rack row " ++ decimal row ++ codes " has a wrong length\n"

-- `refused: rack entry <i> <j> is <v>`
unfoldable pub rack_entry_text : ℕ → ℕ → ℤ → List ℕ
rack_entry_text i j v = codes "refused: rack entry " ++ decimal i ++ codes " " ++ decimal j ++ codes " is " ++ signed_decimal v ++ codes "\n"

-- `refused: rack row <i> has <v> at places <j> and <k>`
unfoldable pub not_bijective_text : ℕ → ℕ → ℕ → ℕ → List ℕ
not_bijective_text i j k v = codes "refused: rack row " ++ decimal i ++ codes " has " ++ decimal v ++ codes " at places " ++ decimal j ++ codes " and " ++ decimal k ++ codes "\n"

-- three letters and the two sides of a law that differ there: `<i> <j> <k>: <left> and <right>`
unfoldable pub sides_text : ℕ → ℕ → ℕ → List ℕ → List ℕ → List ℕ
sides_text i j k left right =
    decimal i ++ codes " " ++ decimal j ++ codes " " ++ decimal k ++ codes ": " ++ left ++ codes " and " ++ right ++ codes "\n"

-- `refused: not distributive at <i> <j> <k>: <left> and <right>`
unfoldable pub not_distributive_text : ℕ → ℕ → ℕ → ℕ → ℕ → List ℕ
not_distributive_text i j k left right = codes "refused: not distributive at " ++ sides_text i j k (decimal left) (decimal right)

-- `refused: cocycle row <r> is missing, surplus or of a wrong length`
unfoldable pub cocycle_shape_text : ℕ → List ℕ
cocycle_shape_text row = codes "refused: cocycle row " ++ decimal row ++ codes " is missing, surplus or of a wrong length\n"

-- `refused: cocycle entry <i> <j> is zero`
unfoldable pub cocycle_zero_text : ℕ → ℕ → List ℕ
cocycle_zero_text i j = codes "refused: cocycle entry " ++ decimal i ++ codes " " ++ decimal j ++ codes " is zero\n"

-- `refused: not a cocycle at <i> <j> <k>: <left> and <right>`
unfoldable pub not_cocycle_text : ℕ → ℕ → ℕ → Pair → Pair → List ℕ
not_cocycle_text i j k left right = codes "refused: not a cocycle at " ++ sides_text i j k (parts_text left.low left.high) (parts_text right.low right.high)

-- the line of rows and scalars that aren't a braid
abbrev pub table_line : TableFault → List ℕ
table_line (letters n) = letters_text n
table_line (rack_shape row) = rack_shape_text row
table_line (rack_entry i j v) = rack_entry_text i j v
table_line (not_bijective i j k v) = not_bijective_text i j k v
table_line (not_distributive i j k left right) = not_distributive_text i j k left right
table_line (cocycle_shape row) = cocycle_shape_text row
table_line (cocycle_zero i j) = cocycle_zero_text i j
table_line (not_cocycle i j k left right) = not_cocycle_text i j k left right

-- ---- expressions

-- the words for what is wrong with an expression
unfoldable pub cause_words : Cause → List ℕ
cause_words Early = codes "text ends too early"
cause_words Byte = codes "unexpected byte"
cause_words Letter = codes "letter outside the rack"
cause_words LongNumber = codes "number longer than " ++ decimal NUMBER_LIMIT ++ codes " digits"
cause_words LongWord = codes "word longer than " ++ decimal WORD_LIMIT ++ codes " letters"
cause_words Terms = codes "more than " ++ decimal TERM_LIMIT ++ codes " terms"
cause_words Surplus = codes "more than " ++ decimal EXPRESSION_LIMIT ++ codes " expressions"

-- `refused: expression <number> at byte <place>: <cause>`
unfoldable pub expression_text : ℕ → ℕ → Cause → List ℕ
expression_text number place cause = codes "refused: expression " ++ decimal number ++ codes " at byte " ++ decimal place ++ codes ": " ++ cause_words cause ++ codes "\n"

-- `refused: expression <number> longer than 7 letters`
unfoldable pub long_expression_text : ℕ → List ℕ
long_expression_text number = codes "refused: expression " ++ decimal number ++ codes " longer than 7 letters\n"

-- ---- all refusals

-- the line of a document that isn't read
abbrev pub document_line : DocumentRefusal → List ℕ
document_line not_toml = not_toml_text
document_line (missing_key key) = missing_key_text key
document_line (unknown_key text) = unknown_key_text text
document_line (wrong_kind key) = wrong_kind_text key
document_line (modulus p) = modulus_text p
document_line (root r) = root_text r
document_line (tables fault) = table_line fault
document_line (order place) = order_text place
document_line (expression number place cause) = expression_text number place cause

-- the line of a refusal; want of memory has none
abbrev pub refusal_line : Refusal → Option (List ℕ)
refusal_line TooLong = Some too_long_text
refusal_line (Input fault) = option_map document_line (refusal_of fault)
refusal_line (LongExpression number) = Some (long_expression_text number)
