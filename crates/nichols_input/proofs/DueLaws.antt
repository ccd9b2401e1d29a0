-- Each document has the answer that is due, and no other.
use Rattle.std.proofs.Common.{◌≡◌, ◌≤◌, ◌↔◌, ℕ, suc, ◌+◌, ℤ, List, ◌∷◌, length, Option, None, Some, option_map, Result, Ok, Err, refl, ap, ◌∙◌, sym, subst, arith}
use Rattle.std.specs.Prelude.{not, is_none, option_and_then}
use Rattle.std.specs.Option.{option_or}
use Rattle.nichols_field.specs.Field.{FieldValue}
use Rattle.nichols_field.specs.declared.FieldFault.{FieldFault}
use Rattle.nichols_tensor.specs.Combination.{Combination}
use Rattle.nichols_braid.specs.Braid.{BraidValue}
use Rattle.nichols_braid.specs.GivenScalars.{GivenScalars}
use Rattle.nichols_braid.specs.Faults.{TableFault, braid_of}
use Rattle.nichols_braid.specs.Order.{relabelled}
use Rattle.nichols_expression.specs.declared.faults.Cause.{Cause}
use Rattle.nichols_expression.specs.declared.TheConstants.{EXPRESSION_LIMIT}
use Rattle.nichols_input.specs.declared.key.Key.{Key}
use Rattle.nichols_input.specs.declared.key.Key.TheVariants.{Modulus, Extension, Rack, Cocycle, Order, Expressions}
use Rattle.nichols_input.specs.Keys.{needed_keys, known_keys, is_allowed}
use Rattle.nichols_input.specs.Shapes.{as_integers, as_rows, as_pair, as_scalars}
use Rattle.nichols_input.specs.Document.{DocumentValue, Given, at_key, keys_in, missing_in, unknown_in, is_extended, has_wrong_kind, wrong_kind_in, keys_refusal, kinds_refusal, may_be, texts_of, given_at, field_of, order_of, values_from, with_values, with_order, with_braid, with_field, document_of, unless_refused, document_of_table, table_in, document_of_found, document_with, document_in}
use Rattle.nichols_input.specs.Refusal.{Refusal, missing_key, unknown_key, wrong_kind, expression}
use Rattle.nichols_input.specs.Laws.{IsFirst, IsLeast, HasNeededKeys, HasKeys, HoldsIn, GivesBraid, IsFirstFault, faulty, surplus, IsDue, no_table, missing, unknown, kind, no_field, no_braid, no_order, no_expression, whole, DocumentIsDue, DocumentWithKeyIsDue}
use Rattle.nichols_input.proofs.ReadKinds.{unread, given_of, kinds_read, right_kinds}
use Rattle.nichols_input.proofs.KeyOrder.{table_keys_rise}
use Rattle.nichols_input.proofs.LeastKeys.{first_is_least, least_is_first}
use Rattle.nichols_input.proofs.Searches.{find_first, find_none, none_find, first_find}
use Rattle.nichols_input.proofs.ValueLaws.{Told, values, fault_at, too_many, values_told, past_read, refused_text, surplus_text, all_values}
use Rattle.toml.specs.Data.{Members, as_integer}

-- ---- what is answered is due

expressions_due : (further : Option (List ℕ)) (bytes : List ℕ) (given : Given) (braid : BraidValue) (list : List ℕ) → GivesBraid further bytes given braid → order_of braid.letters given.order ≡ Ok list
    → (r : Result (List Combination) Refusal) → Told (relabelled list braid) list 1 given.texts r → IsDue further bytes (with_values (relabelled list braid) list r)
expressions_due further bytes given braid list gives ordered _ (values fs few same) =
    let short : length given.texts ≤ EXPRESSION_LIMIT = (let h : 1 + length given.texts ≤ suc EXPRESSION_LIMIT = few in grind (arith, h)) in
    whole given braid list fs gives ordered (short, same)
expressions_due further bytes given braid list gives ordered _ (fault_at before after text fault number split good counted low at) =
    no_expression given braid list number fault.place fault.cause gives ordered (faulty before after text fault number split good counted low at)
expressions_due further bytes given braid list gives ordered _ (too_many before after text number split good counted high) =
    no_expression given braid list number 1 _ gives ordered (surplus before after text number split good counted high)

parts_due : (further : Option (List ℕ)) (bytes : List ℕ) (given : Given) → HoldsIn further bytes given → IsDue further bytes (document_of given)
unfolding document_of
parts_due further bytes given holds = by_field (field_of given.modulus given.extension) refl
  where
    by_order : (braid : BraidValue) → GivesBraid further bytes given braid → (r : Result (List ℕ) ℕ) → order_of braid.letters given.order ≡ r → IsDue further bytes (with_order braid given.texts r)
    by_order braid gives (Ok list) is = expressions_due further bytes given braid list gives is (values_from (relabelled list braid) list 1 given.texts) (values_told (relabelled list braid) list given.texts 1 (omega arith))
    by_order braid gives (Err place) is = no_order given braid place gives is

    by_braid : (field : FieldValue) → field_of given.modulus given.extension ≡ Ok field → (r : Result BraidValue TableFault) → braid_of field given.rows given.scalars ≡ r → IsDue further bytes (with_braid given r)
    by_braid field listed (Ok braid) is = by_order braid (holds, field, listed, is) (order_of braid.letters given.order) refl
    by_braid field listed (Err fault) is = no_braid given field fault holds listed is

    by_field : (r : Result FieldValue FieldFault) → field_of given.modulus given.extension ≡ r → IsDue further bytes (with_field given r)
    by_field (Ok field) is = by_braid field is (braid_of field given.rows given.scalars) refl
    by_field (Err fault) is = no_field given fault holds is

read_due : (further : Option (List ℕ)) (bytes : List ℕ) (ms : Members) → table_in bytes ≡ Some ms → HasKeys further ms
    → (p : Option ℤ) (x : Option (Option (ℤ × ℤ))) (rows : Option (List (List ℤ))) (scalars : Option GivenScalars) (order : Option (Option (List ℤ))) (texts : Option (List (List ℕ)))
    → option_and_then as_integer (at_key Modulus ms) ≡ p → may_be as_pair (at_key Extension ms) ≡ x → option_and_then as_rows (at_key Rack ms) ≡ rows
    → option_and_then (as_scalars (is_extended ms)) (at_key Cocycle ms) ≡ scalars → may_be as_integers (at_key Order ms) ≡ order → texts_of (at_key Expressions ms) ≡ texts
    → unread p x rows scalars order texts ≡ None → IsDue further bytes (document_of (given_of p x rows scalars order texts))
read_due further bytes ms found keys (Some p) (Some x) (Some rows) (Some scalars) (Some order) (Some texts) is_p is_x is_rows is_scalars is_order is_texts none =
    let given : Given = record { modulus = p; extension = x; rows = rows; scalars = scalars; order = order; texts = texts } in
    parts_due further bytes given (ms, found, record { keys = keys; at_modulus = is_p; at_extension = is_x; at_rack = is_rows; at_cocycle = is_scalars; at_order = is_order; at_expressions = is_texts })
read_due further bytes ms found keys (Some p) (Some x) (Some rows) (Some scalars) (Some order) None is_p is_x is_rows is_scalars is_order is_texts none = absurd cc
read_due further bytes ms found keys (Some p) (Some x) (Some rows) (Some scalars) None texts is_p is_x is_rows is_scalars is_order is_texts none = absurd cc
read_due further bytes ms found keys (Some p) (Some x) (Some rows) None order texts is_p is_x is_rows is_scalars is_order is_texts none = absurd cc
read_due further bytes ms found keys (Some p) (Some x) None scalars order texts is_p is_x is_rows is_scalars is_order is_texts none = absurd cc
read_due further bytes ms found keys (Some p) None rows scalars order texts is_p is_x is_rows is_scalars is_order is_texts none = absurd cc
read_due further bytes ms found keys None x rows scalars order texts is_p is_x is_rows is_scalars is_order is_texts none = absurd cc

abbrev document_at : Members → Result DocumentValue Refusal
document_at ms = document_of (given_at ms)

table_due : (further : Option (List ℕ)) (bytes : List ℕ) (ms : Members) → table_in bytes ≡ Some ms → IsDue further bytes (document_of_table further ms)
unfolding document_of_table keys_refusal missing_in unknown_in wrong_kind_in
table_due further bytes ms found = by_missing (missing_in ms) refl
  where
    by_kind : HasKeys further ms → missing_in ms ≡ None → (o : Option Key) → wrong_kind_in ms ≡ o → IsDue further bytes (unless_refused (option_map wrong_kind o) (document_at ms))
    by_kind keys there (Some key) is = kind ms key found keys (find_first (λ k. has_wrong_kind (is_extended ms) k (at_key k ms)) known_keys key is)
    by_kind keys there None is =
        read_due further bytes ms found keys _ _ _ _ _ _ refl refl refl refl refl refl
        (sym (kinds_read (at_key Modulus ms) (at_key Extension ms) (at_key Rack ms) (at_key Cocycle ms) (at_key Order ms) (at_key Expressions ms) there) ∙ is)

    by_unknown : HasNeededKeys ms → missing_in ms ≡ None → (o : Option (List ℕ)) → unknown_in further ms ≡ o
        → IsDue further bytes (unless_refused (option_map unknown_key o) (unless_refused (kinds_refusal ms) (document_at ms)))
    by_unknown needed there (Some text) is = unknown ms text found needed (first_is_least (λ t. not (is_allowed further t)) (keys_in ms) text (table_keys_rise bytes ms found) is)
    by_unknown needed there None is = by_kind (needed, find_none (λ t. not (is_allowed further t)) (keys_in ms) is) there (wrong_kind_in ms) refl

    by_missing : (o : Option Key) → missing_in ms ≡ o
        → IsDue further bytes (unless_refused (option_or (option_map missing_key o) (option_map unknown_key (unknown_in further ms))) (unless_refused (kinds_refusal ms) (document_at ms)))
    by_missing (Some key) is = missing ms key found (find_first (λ k. is_none (at_key k ms)) needed_keys key is)
    by_missing None is = by_unknown (find_none (λ k. is_none (at_key k ms)) needed_keys is) is (unknown_in further ms) refl

answered_due : (further : Option (List ℕ)) (bytes : List ℕ) → IsDue further bytes (document_with further bytes)
unfolding document_with
answered_due further bytes = by_table (table_in bytes) refl
  where
    by_table : (o : Option Members) → table_in bytes ≡ o → IsDue further bytes (document_of_found further o)
    by_table None is = no_table is
    by_table (Some ms) is = table_due further bytes ms is

-- ---- what is due is answered

nothing_missing : (ms : Members) → HasNeededKeys ms → missing_in ms ≡ None
unfolding missing_in
nothing_missing ms needed = none_find (λ k. is_none (at_key k ms)) needed_keys needed

keys_right : (further : Option (List ℕ)) (ms : Members) → HasKeys further ms → keys_refusal further ms ≡ None
unfolding keys_refusal unknown_in
keys_right further ms keys =
    ap (λ o. option_or (option_map missing_key o) (option_map unknown_key (unknown_in further ms))) (nothing_missing ms keys.0)
    ∙ ap (option_map unknown_key) (none_find (λ t. not (is_allowed further t)) (keys_in ms) keys.1)

missing_answered : (further : Option (List ℕ)) (ms : Members) (key : Key) → IsFirst (λ k. is_none (at_key k ms)) needed_keys key → document_of_table further ms ≡ Err (missing_key key)
unfolding document_of_table keys_refusal missing_in
missing_answered further ms key first =
    ap (λ o. unless_refused (option_or (option_map missing_key o) (option_map unknown_key (unknown_in further ms))) (unless_refused (kinds_refusal ms) (document_at ms))) (first_find (λ k. is_none (at_key k ms)) needed_keys key first)

unknown_answered : (further : Option (List ℕ)) (bytes : List ℕ) (ms : Members) (text : List ℕ) → table_in bytes ≡ Some ms → HasNeededKeys ms → IsLeast (λ t. not (is_allowed further t)) (keys_in ms) text → document_of_table further ms ≡ Err (unknown_key text)
unfolding document_of_table keys_refusal unknown_in
unknown_answered further bytes ms text found needed least =
    ap (λ o. unless_refused (option_or (option_map missing_key o) (option_map unknown_key (unknown_in further ms))) (unless_refused (kinds_refusal ms) (document_at ms))) (nothing_missing ms needed)
    ∙ ap (λ o. unless_refused (option_map unknown_key o) (unless_refused (kinds_refusal ms) (document_at ms))) (least_is_first (λ t. not (is_allowed further t)) (keys_in ms) text (table_keys_rise bytes ms found) least)

kind_answered : (further : Option (List ℕ)) (ms : Members) (key : Key) → HasKeys further ms → IsFirst (λ k. has_wrong_kind (is_extended ms) k (at_key k ms)) known_keys key → document_of_table further ms ≡ Err (wrong_kind key)
unfolding document_of_table wrong_kind_in
kind_answered further ms key keys first =
    ap (λ o. unless_refused o (unless_refused (kinds_refusal ms) (document_at ms))) (keys_right further ms keys)
    ∙ ap (λ o. unless_refused (option_map wrong_kind o) (document_at ms)) (first_find (λ k. has_wrong_kind (is_extended ms) k (at_key k ms)) known_keys key first)

holds_answered : (further : Option (List ℕ)) (bytes : List ℕ) (given : Given) → HoldsIn further bytes given → document_with further bytes ≡ document_of given
unfolding document_with
holds_answered further bytes given holds =
    let ms = holds.0 in
    let h = holds.2 in
    ap (document_of_found further) holds.1
    ∙ right_kinds further ms given (keys_right further ms h.keys) (sym h.at_modulus) (sym h.at_extension) (sym h.at_rack) (sym h.at_cocycle) (sym h.at_order) (sym h.at_expressions)

field_answered : (further : Option (List ℕ)) (bytes : List ℕ) (given : Given) → HoldsIn further bytes given → (r : Result FieldValue FieldFault) → field_of given.modulus given.extension ≡ r → document_with further bytes ≡ with_field given r
unfolding document_of
field_answered further bytes given holds r is = holds_answered further bytes given holds ∙ ap (with_field given) is

braid_answered : (further : Option (List ℕ)) (bytes : List ℕ) (given : Given) (braid : BraidValue) → GivesBraid further bytes given braid → (r : Result (List ℕ) ℕ) → order_of braid.letters given.order ≡ r → document_with further bytes ≡ with_order braid given.texts r
braid_answered further bytes given braid gives r is = field_answered further bytes given gives.0 (Ok gives.1) gives.2 ∙ ap (with_braid given) gives.3 ∙ ap (with_order braid given.texts) is

fault_answered : (braid : BraidValue) (list : List ℕ) (texts : List (List ℕ)) (number place : ℕ) (cause : Cause) → IsFirstFault braid list texts number place cause
    → values_from braid list 1 texts ≡ Err (expression number place cause)
fault_answered braid list texts number _ _ (faulty before after text fault _ split good counted low at) =
    let few : 1 + length before ≤ suc EXPRESSION_LIMIT = (let h : number ≤ EXPRESSION_LIMIT = low in let e : number ≡ 1 + length before = counted in grind (arith, h, e)) in
    ap (values_from braid list 1) split
    ∙ past_read braid list before (text ∷ after) 1 (expression number fault.place fault.cause) few good
    (ap (λ n. values_from braid list n (text ∷ after)) (sym counted) ∙ refused_text braid list number text after fault low at)
fault_answered braid list texts number _ _ (surplus before after text _ split good counted high) =
    let few : 1 + length before ≤ suc EXPRESSION_LIMIT = (let h : number ≡ suc EXPRESSION_LIMIT = high in let e : number ≡ 1 + length before = counted in grind (arith, h, e)) in
    ap (values_from braid list 1) split
    ∙ past_read braid list before (text ∷ after) 1 _ few good (ap (λ n. values_from braid list n (text ∷ after)) (sym counted) ∙ surplus_text braid list number text after high)

due_answered : (further : Option (List ℕ)) (bytes : List ℕ) (due : Result DocumentValue Refusal) → IsDue further bytes due → document_with further bytes ≡ due
unfolding document_with
due_answered further bytes _ (no_table none) = ap (document_of_found further) none
due_answered further bytes _ (missing ms key found first) = ap (document_of_found further) found ∙ missing_answered further ms key first
due_answered further bytes _ (unknown ms text found needed least) = ap (document_of_found further) found ∙ unknown_answered further bytes ms text found needed least
due_answered further bytes _ (kind ms key found keys first) = ap (document_of_found further) found ∙ kind_answered further ms key keys first
due_answered further bytes _ (no_field given fault holds is) = field_answered further bytes given holds (Err fault) is
due_answered further bytes _ (no_braid given field fault holds listed is) = field_answered further bytes given holds (Ok field) listed ∙ ap (with_braid given) is
due_answered further bytes _ (no_order given braid place gives is) = braid_answered further bytes given braid gives (Err place) is
due_answered further bytes _ (no_expression given braid list number place cause gives is first) =
    braid_answered further bytes given braid gives (Ok list) is ∙ ap (with_values (relabelled list braid) list) (fault_answered (relabelled list braid) list given.texts number place cause first)
due_answered further bytes _ (whole given braid list fs gives is h) =
    let few : 1 + length given.texts ≤ suc EXPRESSION_LIMIT = (let g : length given.texts ≤ EXPRESSION_LIMIT = h.0 in grind (arith, g)) in
    braid_answered further bytes given braid gives (Ok list) is ∙ ap (with_values (relabelled list braid) list) (all_values (relabelled list braid) list given.texts fs 1 few h.1)

due_with : (further : Option (List ℕ)) (bytes : List ℕ) (due : Result DocumentValue Refusal) → (document_with further bytes ≡ due) ↔ IsDue further bytes due
due_with further bytes due = ((λ e. moved e), due_answered further bytes due)
  where
    moved : document_with further bytes ≡ due → IsDue further bytes due
    moved e = subst (IsDue further bytes) e (answered_due further bytes)

pub document_is_due : DocumentIsDue
unfolding document_in
document_is_due bytes due = due_with None bytes due

pub document_with_key_is_due : DocumentWithKeyIsDue
document_with_key_is_due key bytes due = due_with (Some key) bytes due
