use Rattle.std.proofs.Common.{◌≡◌, ℕ, ℤ, List, Option, Some, Err, rules, map, sym, subst}
use Rattle.std.specs.Prelude.{IfSome, option_and_then, option_copied, option_map}
use Rattle.nichols_braid.specs.GivenScalars.{given_scalars}
use Rattle.nichols_input.specs.declared.key.Key.TheVariants.{Modulus, Extension, Rack, Cocycle, Order, Expressions}
use Rattle.nichols_input.specs.Document.{at_key, is_extended, may_be, texts_of, document_of_table}
use Rattle.nichols_input.specs.Refusal.{refusal_of}
use Rattle.nichols_input.specs.Shapes.{as_integers, as_rows, as_pair, as_scalars}
use Rattle.nichols_input.specs.Tables.{AreEntriesIf}
use Rattle.nichols_input.proofs.Entries.{scalars_are, is_some-may_be}
use Rattle.nichols_input.proofs.ReadKinds.{wrong_keys, wrong_cocycle, wrong_order, wrong_expressions, right_kinds}
use Rattle.nichols_input.proofs.document.document_of_table.Goals as goal
use Rattle.toml.specs.Data.{Members, as_integer}
use Rattle.toml.specs.View.{table_view}

pub returns-in_err-check_keys-clause-document : goal.returns-in_err-check_keys-clause-document
returns-in_err-check_keys-clause-document c =
    let ms : Members = table_view c.args.table.now in
    let further : Option (List ℕ) = option_copied c.args.further in
    let refused : IfSome (refusal_of c.in_err-check_keys.field-0.0) (λ refusal. document_of_table further ms ≡ Err refusal) =
    wrong_keys further ms (refusal_of c.in_err-check_keys.field-0.0) c.in_err-check_keys.ensures.keys in
    search (rules, refused)

pub returns-in_default-4-clause-document : goal.returns-in_default-4-clause-document
returns-in_default-4-clause-document c =
    let ms : Members = table_view c.args.table.now in
    let further : Option (List ℕ) = option_copied c.args.further in
    let is_p : Some c.in-Some.modulus ≡ option_and_then as_integer (at_key Modulus ms) = search rules in
    let is_x : Some c.in-Some-2.extension ≡ may_be as_pair (at_key Extension ms) = search rules in
    let is_rows : Some (map (λ row. row.items) c.in-Some-3.rack.items) ≡ option_and_then as_rows (at_key Rack ms) = search rules in
    wrong_cocycle further ms c.in-Some.modulus c.in-Some-2.extension (map (λ row. row.items) c.in-Some-3.rack.items) c.in_ok-check_keys.ensures.keys is_p is_x is_rows (search rules)

pub returns-in_default-5-clause-document : goal.returns-in_default-5-clause-document
returns-in_default-5-clause-document c =
    let ms : Members = table_view c.args.table.now in
    let further : Option (List ℕ) = option_copied c.args.further in
    let is_p : Some c.in-Some.modulus ≡ option_and_then as_integer (at_key Modulus ms) = search rules in
    let is_x : Some c.in-Some-2.extension ≡ may_be as_pair (at_key Extension ms) = search rules in
    let is_rows : Some (map (λ row. row.items) c.in-Some-3.rack.items) ≡ option_and_then as_rows (at_key Rack ms) = search rules in
    let is_scalars : Some (given_scalars c.in-Some-4.scalars) ≡ option_and_then (as_scalars (is_extended ms)) (at_key Cocycle ms) = search rules in
    wrong_order further ms c.in-Some.modulus c.in-Some-2.extension (map (λ row. row.items) c.in-Some-3.rack.items) (given_scalars c.in-Some-4.scalars) c.in_ok-check_keys.ensures.keys is_p is_x is_rows is_scalars (search rules)

pub returns-in_default-6-clause-document : goal.returns-in_default-6-clause-document
returns-in_default-6-clause-document c =
    let ms : Members = table_view c.args.table.now in
    let further : Option (List ℕ) = option_copied c.args.further in
    let is_p : Some c.in-Some.modulus ≡ option_and_then as_integer (at_key Modulus ms) = search rules in
    let is_x : Some c.in-Some-2.extension ≡ may_be as_pair (at_key Extension ms) = search rules in
    let is_rows : Some (map (λ row. row.items) c.in-Some-3.rack.items) ≡ option_and_then as_rows (at_key Rack ms) = search rules in
    let is_scalars : Some (given_scalars c.in-Some-4.scalars) ≡ option_and_then (as_scalars (is_extended ms)) (at_key Cocycle ms) = search rules in
    let is_order : Some (option_map (λ v. v.items) c.in-Some-5.order) ≡ may_be as_integers (at_key Order ms) = search rules in
    wrong_expressions further ms c.in-Some.modulus c.in-Some-2.extension (map (λ row. row.items) c.in-Some-3.rack.items) (given_scalars c.in-Some-4.scalars) (option_map (λ v. v.items) c.in-Some-5.order) c.in_ok-check_keys.ensures.keys is_p is_x is_rows is_scalars
    is_order (search rules)

pub document_of-requires : goal.document_of-requires
document_of-requires c =
    let ms : Members = table_view c.args.table.now in
    let further : Option (List ℕ) = option_copied c.args.further in
    let is_scalars : Some (given_scalars c.in-Some-4.scalars) ≡ option_and_then (as_scalars (is_extended ms)) (at_key Cocycle ms) = search rules in
    let is_x : Some c.in-Some-2.extension ≡ may_be as_pair (at_key Extension ms) = search rules in
    subst (λ b. AreEntriesIf b (given_scalars c.in-Some-4.scalars)) (sym (is_some-may_be as_pair (at_key Extension ms) c.in-Some-2.extension is_x))
    (scalars_are (is_extended ms) (at_key Cocycle ms) (given_scalars c.in-Some-4.scalars) is_scalars)

pub returns-clause-document : goal.returns-clause-document
returns-clause-document c =
    let ms : Members = table_view c.args.table.now in
    let further : Option (List ℕ) = option_copied c.args.further in
    let rows : List (List ℤ) = map (λ row. row.items) c.in-Some-3.rack.items in
    let order : Option (List ℤ) = option_map (λ v. v.items) c.in-Some-5.order in
    let texts : List (List ℕ) = map (λ text. text.now) c.as_slice.result.now in
    let is_p : Some c.in-Some.modulus ≡ option_and_then as_integer (at_key Modulus ms) = search rules in
    let is_x : Some c.in-Some-2.extension ≡ may_be as_pair (at_key Extension ms) = search rules in
    let is_rows : Some rows ≡ option_and_then as_rows (at_key Rack ms) = search rules in
    let is_scalars : Some (given_scalars c.in-Some-4.scalars) ≡ option_and_then (as_scalars (is_extended ms)) (at_key Cocycle ms) = search rules in
    let is_order : Some order ≡ may_be as_integers (at_key Order ms) = search rules in
    let is_texts : Some texts ≡ texts_of (at_key Expressions ms) = search rules in
    rw (right_kinds further ms (record { modulus = c.in-Some.modulus; extension = c.in-Some-2.extension; rows = rows; scalars = given_scalars c.in-Some-4.scalars; order = order; texts = texts }) c.in_ok-check_keys.ensures.keys is_p is_x is_rows is_scalars is_order is_texts) (search rules)
