-- Worked expressions, over three letters and the field of 101 elements.
use Rattle.std.proofs.Common.{◌≡◌, ℕ, pos, List, [], ◌∷◌, ◌++◌, Ok, Err, codes, refl, replicate, flat_map, arith}
use Rattle.nichols_tensor.proofs.Terms.{term}
use Rattle.nichols_field.specs.Field.{prime_field}
use Rattle.nichols_braid.specs.Braid.{BraidValue}
use Rattle.nichols_expression.specs.Reader.{Fault, expression_of}
use Rattle.nichols_expression.specs.Faults.{Settles}
use Rattle.nichols_expression.specs.declared.faults.Cause.{Cause}
use Rattle.nichols_expression.specs.declared.faults.Cause.TheVariants.{Early, Byte, Letter, LongNumber, LongWord, Terms}
use Rattle.nichols_expression.proofs.OnLiterals.{reader_on_literals}

-- only the field and the number of letters count
abbrev three : BraidValue
three =
    record { field = prime_field (pos 101); letters = 3; rack = []; cocycle = [] }

abbrev plain : List ℕ
plain = 1 ∷ 2 ∷ 3 ∷ []

abbrev at_place : ℕ → Cause → Fault
at_place n cause = record { place = n; cause = cause }

difference : expression_of three plain (codes "2*1.2 - 1.2") ≡ Ok (term (1 ∷ 2 ∷ []) 1 ∷ [])
unfolding reader_on_literals
difference = refl

zero : expression_of three plain (codes " 0 ") ≡ Ok ([])
unfolding reader_on_literals
zero = refl

empty : expression_of three plain (codes "") ≡ Err (at_place 1 Early)
unfolding reader_on_literals
empty = refl

cut : expression_of three plain (codes "1.") ≡ Err (at_place 3 Early)
unfolding reader_on_literals
cut = refl

outside : expression_of three plain (codes "1.4") ≡ Err (at_place 3 Letter)
unfolding reader_on_literals
outside = refl

comma : expression_of three plain (codes "1,2") ≡ Err (at_place 2 Byte)
unfolding reader_on_literals
comma = refl

long_number : expression_of three plain (codes "1234567890*1") ≡ Err (at_place 1 LongNumber)
unfolding reader_on_literals
long_number = refl

residue : expression_of three plain (codes "102*1") ≡ Ok (term (1 ∷ []) 1 ∷ [])
unfolding reader_on_literals
residue = refl

minus_zero : expression_of three plain (codes "-0") ≡ Err (at_place 2 Letter)
unfolding reader_on_literals
minus_zero = refl

zero_and_more : expression_of three plain (codes "0 + 1") ≡ Err (at_place 1 Letter)
unfolding reader_on_literals
zero_and_more = refl

two_zeros : expression_of three plain (codes "00") ≡ Err (at_place 1 Letter)
unfolding reader_on_literals
two_zeros = refl

zero_times : expression_of three plain (codes "0*1") ≡ Ok ([])
unfolding reader_on_literals
zero_times = refl

eleven_digits : expression_of three plain (codes "12345678901") ≡ Err (at_place 1 Letter)
unfolding reader_on_literals
eleven_digits = refl

cancelled : expression_of three plain (codes "1.2 - 1.2") ≡ Ok ([])
unfolding reader_on_literals
cancelled = refl

sorted : expression_of three plain (codes "  - 5 * 2.1+e -3*1  +  2*e ") ≡ Ok (term [] 3 ∷ term (1 ∷ []) 98 ∷ term (2 ∷ 1 ∷ []) 96 ∷ [])
unfolding reader_on_literals
sorted = refl

two_stars : expression_of three plain (codes "2*3*1") ≡ Err (at_place 4 Byte)
unfolding reader_on_literals
two_stars = refl

star_e : expression_of three plain (codes "e*1") ≡ Err (at_place 2 Byte)
unfolding reader_on_literals
star_e = refl

open_sign : expression_of three plain (codes "1 - ") ≡ Err (at_place 5 Early)
unfolding reader_on_literals
open_sign = refl

after_star : expression_of three plain (codes "7 *  ") ≡ Err (at_place 6 Early)
unfolding reader_on_literals
after_star = refl

leading_zero : expression_of three plain (codes "1.01") ≡ Err (at_place 3 Letter)
unfolding reader_on_literals
leading_zero = refl

dot_letter : expression_of three plain (codes "1.e") ≡ Err (at_place 3 Byte)
unfolding reader_on_literals
dot_letter = refl

parenthesis : expression_of three plain (codes "2*(1)") ≡ Err (at_place 3 Byte)
unfolding reader_on_literals
parenthesis = refl

number_then_byte : expression_of three plain (codes "1234567890  x") ≡ Err (at_place 1 Letter)
unfolding reader_on_literals
number_then_byte = refl

space_in_word : expression_of three plain (codes "1 .2") ≡ Err (at_place 3 Byte)
unfolding reader_on_literals
space_in_word = refl

nine : expression_of three plain (codes "999999999*3") ≡ Ok (term (3 ∷ []) 9 ∷ [])
unfolding reader_on_literals
nine = refl

sixty_one : expression_of three plain (codes "1" ++ flat_map (λ (n : ℕ). codes ".1") (replicate 60 0)) ≡ Err (at_place 121 LongWord)
unfolding reader_on_literals
sixty_one = refl

sixty_one_outside : expression_of three plain (codes "1" ++ flat_map (λ (n : ℕ). codes ".1") (replicate 59 0) ++ codes ".4") ≡ Err (at_place 121 Letter)
unfolding reader_on_literals
sixty_one_outside = refl

many_terms : expression_of three plain (codes "1" ++ flat_map (λ (n : ℕ). codes "+1") (replicate 1000 0)) ≡ Err (at_place 2001 Terms)
unfolding reader_on_literals
many_terms = refl

many_terms_early : expression_of three plain (codes "1" ++ flat_map (λ (n : ℕ). codes "+1") (replicate 999 0) ++ codes "+ ") ≡ Err (at_place 2002 Early)
unfolding reader_on_literals
many_terms_early = refl

-- ---- a run of digits at the end of a text may still become a number

seven : expression_of three plain (codes "7") ≡ Err (at_place 1 Letter)
unfolding reader_on_literals
seven = refl

seven_times : expression_of three plain (codes "7 *1") ≡ Ok (term (1 ∷ []) 7 ∷ [])
unfolding reader_on_literals
seven_times = refl

unsettled : Settles Letter 1 (codes "7 ") → ⊥
unfolding reader_on_literals
unsettled h = absurd (omega (arith, h))

settled : Settles Letter 1 (codes "7 x")
unfolding reader_on_literals
settled = omega arith

-- ten digits are too long a number, or no letter, whatever comes
settled_number : Settles LongNumber 1 (codes "1234567890")
settled_number = omega arith

-- a wrong byte is settled by itself
settled_byte : Settles Byte 2 (codes "1,")
settled_byte = omega arith
