-- The field and the order of a document, from the answers of the calls that make them.
use Rattle.std.proofs.Common.{◌≡◌, ℕ, ℤ, List, map, length, Option, None, Some, Result, Ok, Err, sym, ap, ◌∙◌}
use Rattle.std.specs.Prelude.{IsTrue, IfOk}
use Rattle.std.specs.Result.{MatchResult}
use Rattle.nichols_field.specs.Extended.{extended_field}
use Rattle.nichols_field.specs.Field.{FieldValue, is_extended}
use Rattle.nichols_field.specs.declared.FieldFault.{FieldFault}
use Rattle.nichols_field.proofs.Given.{extended_is_field}
use Rattle.nichols_braid.specs.Braid.{BraidValue}
use Rattle.nichols_braid.specs.GivenTables.{letter_of}
use Rattle.nichols_braid.specs.Order.{IsOrder, order_fault, relabelled}
use Rattle.nichols_braid.proofs.Rearranged.{rearranged_length}
use Rattle.nichols_input.specs.Document.{order_of, unless_wrong}

pub extended_if : (P : Type 0) (p a b : ℤ) (r : Result FieldValue FieldFault) → r ≡ extended_field p a b → IfOk r (λ field. P → IsTrue (is_extended field))
extended_if P p a b (Ok field) is = λ some. (extended_is_field p a b field (sym is)).1
extended_if P p a b (Err fault) is = tt

pub sized : (n : ℕ) (r : Result (List ℕ) ℕ) → MatchResult r (λ list. IsOrder n list) (λ place. Unit {0}) → IfOk r (λ list. length list ≡ n)
sized n (Ok list) is = rearranged_length n list is
sized n (Err place) is = tt

pub ordered : (n : ℕ) (given : Option (List ℤ)) (list : List ℤ) (r : Result (List ℕ) ℕ) → given ≡ Some list → MatchResult r (λ order. (order ≡ map letter_of list) × (order_fault n list ≡ None)) (λ place. order_fault n list ≡ Some place) →
    MatchResult r (λ order. order_of n given ≡ Ok order) (λ place. order_of n given ≡ Err place)
ordered n given list (Ok order) is h = ap (order_of n) is ∙ ap (λ o. unless_wrong o (map letter_of list)) h.1 ∙ ap (λ l. Ok l) (sym h.0)
ordered n given list (Err place) is h = ap (order_of n) is ∙ ap (λ o. unless_wrong o (map letter_of list)) h

-- an order has as many letters as the braid on its ranks
pub letters_on_ranks : (list : List ℕ) (braid ranked : BraidValue) (n : ℕ) → ranked ≡ relabelled list braid → n ≡ braid.letters → length list ≡ n → length list ≡ ranked.letters
unfolding relabelled
letters_on_ranks list braid ranked n is counted size = size ∙ counted ∙ ap (λ b. b.letters) (sym is)
