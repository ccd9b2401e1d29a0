-- A table whose keys are right, by what is read at each of them.
use Rattle.std.proofs.Common.{◌≡◌, ℤ, List, [], ℕ, Bool, cond, Option, None, Some, option_map, Result, Err, refl, ap, ◌∙◌}
use Rattle.std.specs.Prelude.{IfSome, pos, not, is_none, is_some, option_and_then, unwrap_or}
use Rattle.std.specs.Option.{option_or}
use Rattle.nichols_braid.specs.GivenScalars.{GivenScalars, constant}
use Rattle.nichols_braid.specs.declared.entry.Entry.TheVariants.{Whole}
use Rattle.nichols_input.specs.declared.key.Key.{Key}
use Rattle.nichols_input.specs.declared.key.Key.TheVariants.{Modulus, Extension, Rack, Cocycle, Order, Expressions}
use Rattle.nichols_input.specs.Document.{DocumentValue, Given, at_key, missing_in, unknown_in, is_extended, has_wrong_kind, wrong_kind_in, keys_refusal, may_be, texts_of, document_of, unless_refused, document_of_table}
use Rattle.nichols_input.specs.Refusal.{Refusal, missing_key, unknown_key, wrong_kind}
use Rattle.nichols_input.specs.Shapes.{as_integers, as_rows, as_pair, as_scalars}
use Rattle.toml.specs.Data.{Data, Members, as_integer}

-- ---- the searches, by what stands at the keys

abbrev pub missing_of : (m r c : Option Data) → Option Key
missing_of m r c = cond (is_none m) (Some Modulus) (cond (is_none r) (Some Rack) (cond (is_none c) (Some Cocycle) None))

-- the first key whose test is true
abbrev pub first_key : (m x r c o e : Bool) → Option Key
first_key m x r c o e =
    cond m (Some Modulus) (cond x (Some Extension) (cond r (Some Rack) (cond c (Some Cocycle) (cond o (Some Order) (cond e (Some Expressions) None)))))

abbrev pub wrong_kind_of : (m x r c o e : Option Data) → Option Key
wrong_kind_of m x r c o e =
    let b : Bool = is_some x in
    first_key (has_wrong_kind b Modulus m) (has_wrong_kind b Extension x) (has_wrong_kind b Rack r) (has_wrong_kind b Cocycle c) (has_wrong_kind b Order o) (has_wrong_kind b Expressions e)

-- the first that wasn't read
abbrev pub unread : Option ℤ → Option (Option (ℤ × ℤ)) → Option (List (List ℤ)) → Option GivenScalars → Option (Option (List ℤ)) → Option (List (List ℕ)) → Option Key
unread p x rows scalars order texts = first_key (is_none p) (is_none x) (is_none rows) (is_none scalars) (is_none order) (is_none texts)

kept : {X : Type 0} (o : Option X) → not (is_some o) ≡ is_none (option_map (λ x. Some x) o)
kept None = refl
kept (Some x) = refl

extension_test : (b : Bool) (x : Option Data) → has_wrong_kind b Extension x ≡ is_none (may_be as_pair x)
extension_test b None = refl
extension_test b (Some d) = kept (as_pair d)

order_test : (b : Bool) (o : Option Data) → has_wrong_kind b Order o ≡ is_none (may_be as_integers o)
order_test b None = refl
order_test b (Some d) = kept (as_integers d)

texts_test : (b : Bool) (e : Option Data) → has_wrong_kind b Expressions e ≡ is_none (texts_of e)
texts_test b None = refl
texts_test b (Some d) = refl

pub kinds_read : (m x r c o e : Option Data) → missing_of m r c ≡ None
    → wrong_kind_of m x r c o e ≡ unread (option_and_then as_integer m) (may_be as_pair x) (option_and_then as_rows r) (option_and_then (as_scalars (is_some x)) c) (may_be as_integers o) (texts_of e)
kinds_read (Some m) x (Some r) (Some c) o e there =
    let b : Bool = is_some x in
    ap (λ t. first_key (has_wrong_kind b Modulus (Some m)) t (has_wrong_kind b Rack (Some r)) (has_wrong_kind b Cocycle (Some c)) (has_wrong_kind b Order o) (has_wrong_kind b Expressions e)) (extension_test b x)
    ∙ ap (λ t. first_key (has_wrong_kind b Modulus (Some m)) (is_none (may_be as_pair x)) (has_wrong_kind b Rack (Some r)) (has_wrong_kind b Cocycle (Some c)) t (has_wrong_kind b Expressions e)) (order_test b o)
    ∙ ap (λ t. first_key (has_wrong_kind b Modulus (Some m)) (is_none (may_be as_pair x)) (has_wrong_kind b Rack (Some r)) (has_wrong_kind b Cocycle (Some c)) (is_none (may_be as_integers o)) t) (texts_test b e)
kinds_read (Some m) x (Some r) None o e there = absurd cc
kinds_read (Some m) x None c o e there = absurd cc
kinds_read None x r c o e there = absurd cc

-- ---- the table

first_none : (o : Option Key) (q : Option (List ℕ)) → option_or (option_map missing_key o) (option_map unknown_key q) ≡ None → o ≡ None
first_none None q none = refl
first_none (Some key) q none = absurd cc

nothing_missing : (further : Option (List ℕ)) (ms : Members) → keys_refusal further ms ≡ None → missing_of (at_key Modulus ms) (at_key Rack ms) (at_key Cocycle ms) ≡ None
unfolding keys_refusal missing_in
nothing_missing further ms none = first_none (missing_in ms) (unknown_in further ms) none

-- what was read at the keys, as it is given
abbrev pub given_of : Option ℤ → Option (Option (ℤ × ℤ)) → Option (List (List ℤ)) → Option GivenScalars → Option (Option (List ℤ)) → Option (List (List ℕ)) → Given
given_of p x rows scalars order texts = record {
  modulus = unwrap_or p (pos 0);
  extension = unwrap_or x None;
  rows = unwrap_or rows [];
  scalars = unwrap_or scalars (constant (Whole (pos 0)));
  order = unwrap_or order None;
  texts = unwrap_or texts [];
}

-- the document of what was read at the keys
abbrev document_of_read : Option ℤ → Option (Option (ℤ × ℤ)) → Option (List (List ℤ)) → Option GivenScalars → Option (Option (List ℤ)) → Option (List (List ℕ)) → Result DocumentValue Refusal
document_of_read p x rows scalars order texts = unless_refused (option_map wrong_kind (unread p x rows scalars order texts)) (document_of (given_of p x rows scalars order texts))

by_reading : (further : Option (List ℕ)) (ms : Members) → keys_refusal further ms ≡ None
    → document_of_table further ms
    ≡ document_of_read (option_and_then as_integer (at_key Modulus ms)) (may_be as_pair (at_key Extension ms)) (option_and_then as_rows (at_key Rack ms)) (option_and_then (as_scalars (is_extended ms)) (at_key Cocycle ms))
    (may_be as_integers (at_key Order ms)) (texts_of (at_key Expressions ms))
unfolding document_of_table wrong_kind_in
by_reading further ms none =
    let document : Result DocumentValue Refusal =
    document_of
    (given_of (option_and_then as_integer (at_key Modulus ms)) (may_be as_pair (at_key Extension ms)) (option_and_then as_rows (at_key Rack ms)) (option_and_then (as_scalars (is_extended ms)) (at_key Cocycle ms))
    (may_be as_integers (at_key Order ms)) (texts_of (at_key Expressions ms))) in
    ap (λ o. unless_refused o (unless_refused (option_map wrong_kind (wrong_kind_in ms)) document)) none
    ∙ ap (λ o. unless_refused (option_map wrong_kind o) document)
    (kinds_read (at_key Modulus ms) (at_key Extension ms) (at_key Rack ms) (at_key Cocycle ms) (at_key Order ms) (at_key Expressions ms) (nothing_missing further ms none))

read : (further : Option (List ℕ)) (ms : Members) (p : Option ℤ) (x : Option (Option (ℤ × ℤ))) (rows : Option (List (List ℤ))) (scalars : Option GivenScalars) (order : Option (Option (List ℤ))) (texts : Option (List (List ℕ)))
    → keys_refusal further ms ≡ None
    → p ≡ option_and_then as_integer (at_key Modulus ms)
    → x ≡ may_be as_pair (at_key Extension ms)
    → rows ≡ option_and_then as_rows (at_key Rack ms)
    → scalars ≡ option_and_then (as_scalars (is_extended ms)) (at_key Cocycle ms)
    → order ≡ may_be as_integers (at_key Order ms)
    → texts ≡ texts_of (at_key Expressions ms)
    → document_of_table further ms ≡ document_of_read p x rows scalars order texts
read further ms p x rows scalars order texts none is_p is_x is_rows is_scalars is_order is_texts = rw (is_p, is_x, is_rows, is_scalars, is_order, is_texts) (by_reading further ms none)

pub wrong_keys : (further : Option (List ℕ)) (ms : Members) (o : Option Refusal) → IfSome o (λ refusal. keys_refusal further ms ≡ Some refusal) → IfSome o (λ refusal. document_of_table further ms ≡ Err refusal)
unfolding document_of_table
wrong_keys further ms None is = tt
wrong_keys further ms (Some refusal) is = rw is refl

pub wrong_modulus : (further : Option (List ℕ)) (ms : Members) → keys_refusal further ms ≡ None → None ≡ option_and_then as_integer (at_key Modulus ms) → document_of_table further ms ≡ Err (wrong_kind Modulus)
wrong_modulus further ms none is_p = read further ms None _ _ _ _ _ none is_p refl refl refl refl refl

pub wrong_extension : (further : Option (List ℕ)) (ms : Members) (p : ℤ) → keys_refusal further ms ≡ None → Some p ≡ option_and_then as_integer (at_key Modulus ms) → None ≡ may_be as_pair (at_key Extension ms)
    → document_of_table further ms ≡ Err (wrong_kind Extension)
wrong_extension further ms p none is_p is_x = read further ms (Some p) None _ _ _ _ none is_p is_x refl refl refl refl

pub wrong_rack : (further : Option (List ℕ)) (ms : Members) (p : ℤ) (x : Option (ℤ × ℤ)) → keys_refusal further ms ≡ None → Some p ≡ option_and_then as_integer (at_key Modulus ms) → Some x ≡ may_be as_pair (at_key Extension ms)
    → None ≡ option_and_then as_rows (at_key Rack ms) → document_of_table further ms ≡ Err (wrong_kind Rack)
wrong_rack further ms p x none is_p is_x is_rows = read further ms (Some p) (Some x) None _ _ _ none is_p is_x is_rows refl refl refl

pub wrong_cocycle : (further : Option (List ℕ)) (ms : Members) (p : ℤ) (x : Option (ℤ × ℤ)) (rows : List (List ℤ)) → keys_refusal further ms ≡ None → Some p ≡ option_and_then as_integer (at_key Modulus ms)
    → Some x ≡ may_be as_pair (at_key Extension ms) → Some rows ≡ option_and_then as_rows (at_key Rack ms) → None ≡ option_and_then (as_scalars (is_extended ms)) (at_key Cocycle ms)
    → document_of_table further ms ≡ Err (wrong_kind Cocycle)
wrong_cocycle further ms p x rows none is_p is_x is_rows is_scalars = read further ms (Some p) (Some x) (Some rows) None _ _ none is_p is_x is_rows is_scalars refl refl

pub wrong_order : (further : Option (List ℕ)) (ms : Members) (p : ℤ) (x : Option (ℤ × ℤ)) (rows : List (List ℤ)) (scalars : GivenScalars) → keys_refusal further ms ≡ None → Some p ≡ option_and_then as_integer (at_key Modulus ms)
    → Some x ≡ may_be as_pair (at_key Extension ms) → Some rows ≡ option_and_then as_rows (at_key Rack ms) → Some scalars ≡ option_and_then (as_scalars (is_extended ms)) (at_key Cocycle ms)
    → None ≡ may_be as_integers (at_key Order ms) → document_of_table further ms ≡ Err (wrong_kind Order)
wrong_order further ms p x rows scalars none is_p is_x is_rows is_scalars is_order = read further ms (Some p) (Some x) (Some rows) (Some scalars) None _ none is_p is_x is_rows is_scalars is_order refl

pub wrong_expressions : (further : Option (List ℕ)) (ms : Members) (p : ℤ) (x : Option (ℤ × ℤ)) (rows : List (List ℤ)) (scalars : GivenScalars) (order : Option (List ℤ)) → keys_refusal further ms ≡ None
    → Some p ≡ option_and_then as_integer (at_key Modulus ms) → Some x ≡ may_be as_pair (at_key Extension ms) → Some rows ≡ option_and_then as_rows (at_key Rack ms)
    → Some scalars ≡ option_and_then (as_scalars (is_extended ms)) (at_key Cocycle ms) → Some order ≡ may_be as_integers (at_key Order ms) → None ≡ texts_of (at_key Expressions ms)
    → document_of_table further ms ≡ Err (wrong_kind Expressions)
wrong_expressions further ms p x rows scalars order none is_p is_x is_rows is_scalars is_order is_texts =
    read further ms (Some p) (Some x) (Some rows) (Some scalars) (Some order) None none is_p is_x is_rows is_scalars is_order is_texts

pub right_kinds : (further : Option (List ℕ)) (ms : Members) (given : Given) → keys_refusal further ms ≡ None → Some given.modulus ≡ option_and_then as_integer (at_key Modulus ms) → Some given.extension ≡ may_be as_pair (at_key Extension ms)
    → Some given.rows ≡ option_and_then as_rows (at_key Rack ms) → Some given.scalars ≡ option_and_then (as_scalars (is_extended ms)) (at_key Cocycle ms)
    → Some given.order ≡ may_be as_integers (at_key Order ms) → Some given.texts ≡ texts_of (at_key Expressions ms)
    → document_of_table further ms ≡ document_of given
right_kinds further ms given none is_p is_x is_rows is_scalars is_order is_texts =
    read further ms (Some given.modulus) (Some given.extension) (Some given.rows) (Some given.scalars) (Some given.order) (Some given.texts) none is_p is_x is_rows is_scalars is_order is_texts
