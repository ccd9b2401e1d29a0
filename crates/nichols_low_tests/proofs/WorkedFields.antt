-- Worked rows: the products and the inverses in fields of 4, 9 and 25 elements. The element u + v t is the number u + p v.
--
-- The values are those of matrices: u + v t acts on the pairs (x, y) by the rows (u, b v) and (v, u + a v).
use Rattle.std.proofs.Common.{◌≡◌, ℕ, pos, [], ◌∷◌, map, None, refl}
use Rattle.nichols_field.specs.Field.{FieldValue, prime_field, quadratic_field, root_of, times, elements}
use Rattle.nichols_field.specs.Pairs.{least_root}
use Rattle.nichols_field.proofs.OnNumerals.{field_on_numerals}

-- ---- four elements, t² = t + 1

abbrev four : FieldValue
four = quadratic_field (prime_field (pos 2)) (pos 1) (pos 1)

-- its polynomial has no root
four_root : root_of (prime_field (pos 2)) (pos 1) (pos 1) ≡ None
unfolding field_on_numerals root_of least_root
four_root = refl

-- row e, from 0, has the products of e with 0, 1, ..
four_products : map (λ e. map (times four e) (elements four)) (elements four) ≡
    (0 ∷ 0 ∷ 0 ∷ 0 ∷ []) ∷
    (0 ∷ 1 ∷ 2 ∷ 3 ∷ []) ∷
    (0 ∷ 2 ∷ 3 ∷ 1 ∷ []) ∷
    (0 ∷ 3 ∷ 1 ∷ 2 ∷ []) ∷
    []
unfolding field_on_numerals quadratic_field
four_products = refl

-- the inverses of 1, 2, ..
four_inverses : map (λ (e : ℕ × ℕ). times four e.0 e.1) ((1, 1) ∷ (2, 3) ∷ (3, 2) ∷ []) ≡
    1 ∷ 1 ∷ 1 ∷ []
unfolding field_on_numerals quadratic_field
four_inverses = refl

-- ---- nine elements, t² = 2 t + 1

abbrev nine : FieldValue
nine = quadratic_field (prime_field (pos 3)) (pos 2) (pos 1)

-- its polynomial has no root
nine_root : root_of (prime_field (pos 3)) (pos 2) (pos 1) ≡ None
unfolding field_on_numerals root_of least_root
nine_root = refl

-- row e, from 0, has the products of e with 0, 1, ..
nine_products : map (λ e. map (times nine e) (elements nine)) (elements nine) ≡
    (0 ∷ 0 ∷ 0 ∷ 0 ∷ 0 ∷ 0 ∷ 0 ∷ 0 ∷ 0 ∷ []) ∷
    (0 ∷ 1 ∷ 2 ∷ 3 ∷ 4 ∷ 5 ∷ 6 ∷ 7 ∷ 8 ∷ []) ∷
    (0 ∷ 2 ∷ 1 ∷ 6 ∷ 8 ∷ 7 ∷ 3 ∷ 5 ∷ 4 ∷ []) ∷
    (0 ∷ 3 ∷ 6 ∷ 7 ∷ 1 ∷ 4 ∷ 5 ∷ 8 ∷ 2 ∷ []) ∷
    (0 ∷ 4 ∷ 8 ∷ 1 ∷ 5 ∷ 6 ∷ 2 ∷ 3 ∷ 7 ∷ []) ∷
    (0 ∷ 5 ∷ 7 ∷ 4 ∷ 6 ∷ 2 ∷ 8 ∷ 1 ∷ 3 ∷ []) ∷
    (0 ∷ 6 ∷ 3 ∷ 5 ∷ 2 ∷ 8 ∷ 7 ∷ 4 ∷ 1 ∷ []) ∷
    (0 ∷ 7 ∷ 5 ∷ 8 ∷ 3 ∷ 1 ∷ 4 ∷ 2 ∷ 6 ∷ []) ∷
    (0 ∷ 8 ∷ 4 ∷ 2 ∷ 7 ∷ 3 ∷ 1 ∷ 6 ∷ 5 ∷ []) ∷
    []
unfolding field_on_numerals quadratic_field
nine_products = refl

-- the inverses of 1, 2, ..
nine_inverses : map (λ (e : ℕ × ℕ). times nine e.0 e.1) ((1, 1) ∷ (2, 2) ∷ (3, 4) ∷ (4, 3) ∷ (5, 7) ∷ (6, 8) ∷ (7, 5) ∷ (8, 6) ∷ []) ≡
    1 ∷ 1 ∷ 1 ∷ 1 ∷ 1 ∷ 1 ∷ 1 ∷ 1 ∷ []
unfolding field_on_numerals quadratic_field
nine_inverses = refl

-- ---- nine elements, t² = 2

abbrev of_minus_one : FieldValue
of_minus_one = quadratic_field (prime_field (pos 3)) (pos 0) (pos 2)

-- its polynomial has no root
of_minus_one_root : root_of (prime_field (pos 3)) (pos 0) (pos 2) ≡ None
unfolding field_on_numerals root_of least_root
of_minus_one_root = refl

-- row e, from 0, has the products of e with 0, 1, ..
of_minus_one_products : map (λ e. map (times of_minus_one e) (elements of_minus_one)) (elements of_minus_one) ≡
    (0 ∷ 0 ∷ 0 ∷ 0 ∷ 0 ∷ 0 ∷ 0 ∷ 0 ∷ 0 ∷ []) ∷
    (0 ∷ 1 ∷ 2 ∷ 3 ∷ 4 ∷ 5 ∷ 6 ∷ 7 ∷ 8 ∷ []) ∷
    (0 ∷ 2 ∷ 1 ∷ 6 ∷ 8 ∷ 7 ∷ 3 ∷ 5 ∷ 4 ∷ []) ∷
    (0 ∷ 3 ∷ 6 ∷ 2 ∷ 5 ∷ 8 ∷ 1 ∷ 4 ∷ 7 ∷ []) ∷
    (0 ∷ 4 ∷ 8 ∷ 5 ∷ 6 ∷ 1 ∷ 7 ∷ 2 ∷ 3 ∷ []) ∷
    (0 ∷ 5 ∷ 7 ∷ 8 ∷ 1 ∷ 3 ∷ 4 ∷ 6 ∷ 2 ∷ []) ∷
    (0 ∷ 6 ∷ 3 ∷ 1 ∷ 7 ∷ 4 ∷ 2 ∷ 8 ∷ 5 ∷ []) ∷
    (0 ∷ 7 ∷ 5 ∷ 4 ∷ 2 ∷ 6 ∷ 8 ∷ 3 ∷ 1 ∷ []) ∷
    (0 ∷ 8 ∷ 4 ∷ 7 ∷ 3 ∷ 2 ∷ 5 ∷ 1 ∷ 6 ∷ []) ∷
    []
unfolding field_on_numerals quadratic_field
of_minus_one_products = refl

-- the inverses of 1, 2, ..
of_minus_one_inverses : map (λ (e : ℕ × ℕ). times of_minus_one e.0 e.1) ((1, 1) ∷ (2, 2) ∷ (3, 6) ∷ (4, 5) ∷ (5, 4) ∷ (6, 3) ∷ (7, 8) ∷ (8, 7) ∷ []) ≡
    1 ∷ 1 ∷ 1 ∷ 1 ∷ 1 ∷ 1 ∷ 1 ∷ 1 ∷ []
unfolding field_on_numerals quadratic_field
of_minus_one_inverses = refl

-- ---- twenty-five elements, t² = t + 3

abbrev twenty_five : FieldValue
twenty_five = quadratic_field (prime_field (pos 5)) (pos 1) (pos 3)

-- its polynomial has no root
twenty_five_root : root_of (prime_field (pos 5)) (pos 1) (pos 3) ≡ None
unfolding field_on_numerals root_of least_root
twenty_five_root = refl

-- row e, from 0, has the products of e with 0, 1, ..
twenty_five_products : map (λ e. map (times twenty_five e) (elements twenty_five)) (elements twenty_five) ≡
    (0 ∷ 0 ∷ 0 ∷ 0 ∷ 0 ∷ 0 ∷ 0 ∷ 0 ∷ 0 ∷ 0 ∷ 0 ∷ 0 ∷ 0 ∷ 0 ∷ 0 ∷ 0 ∷ 0 ∷ 0 ∷ 0 ∷ 0 ∷ 0 ∷ 0 ∷ 0 ∷ 0 ∷ 0 ∷ []) ∷
    (0 ∷ 1 ∷ 2 ∷ 3 ∷ 4 ∷ 5 ∷ 6 ∷ 7 ∷ 8 ∷ 9 ∷ 10 ∷ 11 ∷ 12 ∷ 13 ∷ 14 ∷ 15 ∷ 16 ∷ 17 ∷ 18 ∷ 19 ∷ 20 ∷ 21 ∷ 22 ∷ 23 ∷ 24 ∷ []) ∷
    (0 ∷ 2 ∷ 4 ∷ 1 ∷ 3 ∷ 10 ∷ 12 ∷ 14 ∷ 11 ∷ 13 ∷ 20 ∷ 22 ∷ 24 ∷ 21 ∷ 23 ∷ 5 ∷ 7 ∷ 9 ∷ 6 ∷ 8 ∷ 15 ∷ 17 ∷ 19 ∷ 16 ∷ 18 ∷ []) ∷
    (0 ∷ 3 ∷ 1 ∷ 4 ∷ 2 ∷ 15 ∷ 18 ∷ 16 ∷ 19 ∷ 17 ∷ 5 ∷ 8 ∷ 6 ∷ 9 ∷ 7 ∷ 20 ∷ 23 ∷ 21 ∷ 24 ∷ 22 ∷ 10 ∷ 13 ∷ 11 ∷ 14 ∷ 12 ∷ []) ∷
    (0 ∷ 4 ∷ 3 ∷ 2 ∷ 1 ∷ 20 ∷ 24 ∷ 23 ∷ 22 ∷ 21 ∷ 15 ∷ 19 ∷ 18 ∷ 17 ∷ 16 ∷ 10 ∷ 14 ∷ 13 ∷ 12 ∷ 11 ∷ 5 ∷ 9 ∷ 8 ∷ 7 ∷ 6 ∷ []) ∷
    (0 ∷ 5 ∷ 10 ∷ 15 ∷ 20 ∷ 8 ∷ 13 ∷ 18 ∷ 23 ∷ 3 ∷ 11 ∷ 16 ∷ 21 ∷ 1 ∷ 6 ∷ 19 ∷ 24 ∷ 4 ∷ 9 ∷ 14 ∷ 22 ∷ 2 ∷ 7 ∷ 12 ∷ 17 ∷ []) ∷
    (0 ∷ 6 ∷ 12 ∷ 18 ∷ 24 ∷ 13 ∷ 19 ∷ 20 ∷ 1 ∷ 7 ∷ 21 ∷ 2 ∷ 8 ∷ 14 ∷ 15 ∷ 9 ∷ 10 ∷ 16 ∷ 22 ∷ 3 ∷ 17 ∷ 23 ∷ 4 ∷ 5 ∷ 11 ∷ []) ∷
    (0 ∷ 7 ∷ 14 ∷ 16 ∷ 23 ∷ 18 ∷ 20 ∷ 2 ∷ 9 ∷ 11 ∷ 6 ∷ 13 ∷ 15 ∷ 22 ∷ 4 ∷ 24 ∷ 1 ∷ 8 ∷ 10 ∷ 17 ∷ 12 ∷ 19 ∷ 21 ∷ 3 ∷ 5 ∷ []) ∷
    (0 ∷ 8 ∷ 11 ∷ 19 ∷ 22 ∷ 23 ∷ 1 ∷ 9 ∷ 12 ∷ 15 ∷ 16 ∷ 24 ∷ 2 ∷ 5 ∷ 13 ∷ 14 ∷ 17 ∷ 20 ∷ 3 ∷ 6 ∷ 7 ∷ 10 ∷ 18 ∷ 21 ∷ 4 ∷ []) ∷
    (0 ∷ 9 ∷ 13 ∷ 17 ∷ 21 ∷ 3 ∷ 7 ∷ 11 ∷ 15 ∷ 24 ∷ 1 ∷ 5 ∷ 14 ∷ 18 ∷ 22 ∷ 4 ∷ 8 ∷ 12 ∷ 16 ∷ 20 ∷ 2 ∷ 6 ∷ 10 ∷ 19 ∷ 23 ∷ []) ∷
    (0 ∷ 10 ∷ 20 ∷ 5 ∷ 15 ∷ 11 ∷ 21 ∷ 6 ∷ 16 ∷ 1 ∷ 22 ∷ 7 ∷ 17 ∷ 2 ∷ 12 ∷ 8 ∷ 18 ∷ 3 ∷ 13 ∷ 23 ∷ 19 ∷ 4 ∷ 14 ∷ 24 ∷ 9 ∷ []) ∷
    (0 ∷ 11 ∷ 22 ∷ 8 ∷ 19 ∷ 16 ∷ 2 ∷ 13 ∷ 24 ∷ 5 ∷ 7 ∷ 18 ∷ 4 ∷ 10 ∷ 21 ∷ 23 ∷ 9 ∷ 15 ∷ 1 ∷ 12 ∷ 14 ∷ 20 ∷ 6 ∷ 17 ∷ 3 ∷ []) ∷
    (0 ∷ 12 ∷ 24 ∷ 6 ∷ 18 ∷ 21 ∷ 8 ∷ 15 ∷ 2 ∷ 14 ∷ 17 ∷ 4 ∷ 11 ∷ 23 ∷ 5 ∷ 13 ∷ 20 ∷ 7 ∷ 19 ∷ 1 ∷ 9 ∷ 16 ∷ 3 ∷ 10 ∷ 22 ∷ []) ∷
    (0 ∷ 13 ∷ 21 ∷ 9 ∷ 17 ∷ 1 ∷ 14 ∷ 22 ∷ 5 ∷ 18 ∷ 2 ∷ 10 ∷ 23 ∷ 6 ∷ 19 ∷ 3 ∷ 11 ∷ 24 ∷ 7 ∷ 15 ∷ 4 ∷ 12 ∷ 20 ∷ 8 ∷ 16 ∷ []) ∷
    (0 ∷ 14 ∷ 23 ∷ 7 ∷ 16 ∷ 6 ∷ 15 ∷ 4 ∷ 13 ∷ 22 ∷ 12 ∷ 21 ∷ 5 ∷ 19 ∷ 3 ∷ 18 ∷ 2 ∷ 11 ∷ 20 ∷ 9 ∷ 24 ∷ 8 ∷ 17 ∷ 1 ∷ 10 ∷ []) ∷
    (0 ∷ 15 ∷ 5 ∷ 20 ∷ 10 ∷ 19 ∷ 9 ∷ 24 ∷ 14 ∷ 4 ∷ 8 ∷ 23 ∷ 13 ∷ 3 ∷ 18 ∷ 22 ∷ 12 ∷ 2 ∷ 17 ∷ 7 ∷ 11 ∷ 1 ∷ 16 ∷ 6 ∷ 21 ∷ []) ∷
    (0 ∷ 16 ∷ 7 ∷ 23 ∷ 14 ∷ 24 ∷ 10 ∷ 1 ∷ 17 ∷ 8 ∷ 18 ∷ 9 ∷ 20 ∷ 11 ∷ 2 ∷ 12 ∷ 3 ∷ 19 ∷ 5 ∷ 21 ∷ 6 ∷ 22 ∷ 13 ∷ 4 ∷ 15 ∷ []) ∷
    (0 ∷ 17 ∷ 9 ∷ 21 ∷ 13 ∷ 4 ∷ 16 ∷ 8 ∷ 20 ∷ 12 ∷ 3 ∷ 15 ∷ 7 ∷ 24 ∷ 11 ∷ 2 ∷ 19 ∷ 6 ∷ 23 ∷ 10 ∷ 1 ∷ 18 ∷ 5 ∷ 22 ∷ 14 ∷ []) ∷
    (0 ∷ 18 ∷ 6 ∷ 24 ∷ 12 ∷ 9 ∷ 22 ∷ 10 ∷ 3 ∷ 16 ∷ 13 ∷ 1 ∷ 19 ∷ 7 ∷ 20 ∷ 17 ∷ 5 ∷ 23 ∷ 11 ∷ 4 ∷ 21 ∷ 14 ∷ 2 ∷ 15 ∷ 8 ∷ []) ∷
    (0 ∷ 19 ∷ 8 ∷ 22 ∷ 11 ∷ 14 ∷ 3 ∷ 17 ∷ 6 ∷ 20 ∷ 23 ∷ 12 ∷ 1 ∷ 15 ∷ 9 ∷ 7 ∷ 21 ∷ 10 ∷ 4 ∷ 18 ∷ 16 ∷ 5 ∷ 24 ∷ 13 ∷ 2 ∷ []) ∷
    (0 ∷ 20 ∷ 15 ∷ 10 ∷ 5 ∷ 22 ∷ 17 ∷ 12 ∷ 7 ∷ 2 ∷ 19 ∷ 14 ∷ 9 ∷ 4 ∷ 24 ∷ 11 ∷ 6 ∷ 1 ∷ 21 ∷ 16 ∷ 8 ∷ 3 ∷ 23 ∷ 18 ∷ 13 ∷ []) ∷
    (0 ∷ 21 ∷ 17 ∷ 13 ∷ 9 ∷ 2 ∷ 23 ∷ 19 ∷ 10 ∷ 6 ∷ 4 ∷ 20 ∷ 16 ∷ 12 ∷ 8 ∷ 1 ∷ 22 ∷ 18 ∷ 14 ∷ 5 ∷ 3 ∷ 24 ∷ 15 ∷ 11 ∷ 7 ∷ []) ∷
    (0 ∷ 22 ∷ 19 ∷ 11 ∷ 8 ∷ 7 ∷ 4 ∷ 21 ∷ 18 ∷ 10 ∷ 14 ∷ 6 ∷ 3 ∷ 20 ∷ 17 ∷ 16 ∷ 13 ∷ 5 ∷ 2 ∷ 24 ∷ 23 ∷ 15 ∷ 12 ∷ 9 ∷ 1 ∷ []) ∷
    (0 ∷ 23 ∷ 16 ∷ 14 ∷ 7 ∷ 12 ∷ 5 ∷ 3 ∷ 21 ∷ 19 ∷ 24 ∷ 17 ∷ 10 ∷ 8 ∷ 1 ∷ 6 ∷ 4 ∷ 22 ∷ 15 ∷ 13 ∷ 18 ∷ 11 ∷ 9 ∷ 2 ∷ 20 ∷ []) ∷
    (0 ∷ 24 ∷ 18 ∷ 12 ∷ 6 ∷ 17 ∷ 11 ∷ 5 ∷ 4 ∷ 23 ∷ 9 ∷ 3 ∷ 22 ∷ 16 ∷ 10 ∷ 21 ∷ 15 ∷ 14 ∷ 8 ∷ 2 ∷ 13 ∷ 7 ∷ 1 ∷ 20 ∷ 19 ∷ []) ∷
    []
unfolding field_on_numerals quadratic_field
twenty_five_products = refl

-- the inverses of 1, 2, ..
twenty_five_inverses : map (λ (e : ℕ × ℕ). times twenty_five e.0 e.1) ((1, 1) ∷ (2, 3) ∷ (3, 2) ∷ (4, 4) ∷ (5, 13) ∷ (6, 8) ∷ (7, 16) ∷ (8, 6) ∷ (9, 10) ∷ (10, 9) ∷ (11, 18) ∷ (12, 19) ∷ (13, 5) ∷ (14, 23) ∷ (15, 21) ∷ (16, 7) ∷ (17, 20) ∷ (18, 11) ∷ (19, 12) ∷ (20, 17) ∷ (21, 15) ∷ (22, 24) ∷ (23, 14) ∷ (24, 22) ∷ []) ≡
    1 ∷ 1 ∷ 1 ∷ 1 ∷ 1 ∷ 1 ∷ 1 ∷ 1 ∷ 1 ∷ 1 ∷ 1 ∷ 1 ∷ 1 ∷ 1 ∷ 1 ∷ 1 ∷ 1 ∷ 1 ∷ 1 ∷ 1 ∷ 1 ∷ 1 ∷ 1 ∷ 1 ∷ []
unfolding field_on_numerals quadratic_field
twenty_five_inverses = refl
