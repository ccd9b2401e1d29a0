-- The first fault of rows, by what is found on the way to their table.
use Rattle.std.proofs.Common.{◌≡◌, ℕ, ◌<◌, ◌≤◌, Bool, true, false, cond, ◌&&◌, List, [], ◌∷◌, map, length, refl, sym, ◌∙◌, ap, ap₂, subst, arith, Some, None, nat_le}
use Rattle.std.specs.Prelude.{Option, ℤ}
use Rattle.std.specs.List.{flat_map}
use Rattle.std.specs.Option.{option_map, option_or}
use Rattle.std.proofs.lemmas.Bool.Decides.{nat_tests}
use Rattle.std.proofs.lemmas.Bool.{and_from}
use Rattle.nichols_tensor.specs.declared.TheConstants.{LETTER_LIMIT}
use Rattle.nichols_braid.specs.Faults.{TableFault, letters, rack_shape, first_fault, letters_fault, wrong_row, rack_shape_fault, rack_entry_fault, rows_fault}
use Rattle.nichols_braid.specs.Tables.{RackEntries, IsRackTable}
use Rattle.nichols_braid.specs.GivenTables.{letter_of, given_rack}
use Rattle.nichols_braid.proofs.FirstFault.{no_fault_of_rows}
use Rattle.nichols_braid.proofs.GivenRows.{faultless, rack_is_table}

by_count : (rows : List (List ℤ)) → (b : Bool) → (nat_le 1 (length rows) && nat_le (length rows) LETTER_LIMIT) ≡ b → letters_fault rows ≡ cond b None (Some (letters (length rows)))
unfolding letters_fault
by_count rows b e = ap (λ t. cond t None (Some (letters (length rows)))) e

wrong_count : (rows : List (List ℤ)) → (nat_le 1 (length rows) && nat_le (length rows) LETTER_LIMIT) ≡ false → rows_fault rows ≡ Some (letters (length rows))
wrong_count rows e = ap (λ o. option_or o (first_fault (rack_shape_fault rows ∷ rack_entry_fault rows ∷ []))) (by_count rows false e)

pub no_rows : (rows : List (List ℤ)) → length rows ≡ 0 → rows_fault rows ≡ Some (letters 0)
no_rows rows e = wrong_count rows (at (nat_le 1 (length rows)) (nat_le (length rows) LETTER_LIMIT) (let h : nat_le 1 (length rows) ≡ false = grind (arith, nat_tests, e) in h)) ∙ ap (λ n. Some (letters n)) e
  where
    at : (b c : Bool) → b ≡ false → (b && c) ≡ false
    at true c h = cc
    at false c h = refl

pub many_rows : (rows : List (List ℤ)) (n : ℕ) → n ≡ length rows → LETTER_LIMIT < n → rows_fault rows ≡ Some (letters n)
many_rows rows n e more =
    wrong_count rows (at (nat_le 1 (length rows)) (nat_le (length rows) LETTER_LIMIT) (let less : LETTER_LIMIT < length rows = omega arith in let h : nat_le (length rows) LETTER_LIMIT ≡ false = grind (arith, nat_tests, less) in h)) ∙ ap (λ n. Some (letters n)) (sym e)
  where
    at : (b c : Bool) → c ≡ false → (b && c) ≡ false
    at true c h = h
    at false c h = refl

-- 1 to `LETTER_LIMIT` rows
right_count : (rows : List (List ℤ)) (n : ℕ) → n ≡ length rows → 1 ≤ n → n ≤ LETTER_LIMIT → letters_fault rows ≡ None
right_count rows n e least most =
    by_count rows true (and_from (nat_le 1 (length rows)) (nat_le (length rows) LETTER_LIMIT)
    (let h : 1 ≤ length rows = omega arith in let t : nat_le 1 (length rows) ≡ true = grind (arith, nat_tests, h) in t)
    (let h : length rows ≤ LETTER_LIMIT = omega arith in let t : nat_le (length rows) LETTER_LIMIT ≡ true = grind (arith, nat_tests, h) in t))

shape_by : (rows : List (List ℤ)) (n : ℕ) (o : Option ℕ) → n ≡ length rows → o ≡ wrong_row n rows → rack_shape_fault rows ≡ option_map rack_shape o
unfolding rack_shape_fault
shape_by rows n o e found = ap (λ m. option_map rack_shape (wrong_row m rows)) (sym e) ∙ ap (option_map rack_shape) (sym found)

pub wrong_shape : (rows : List (List ℤ)) (n r : ℕ) → n ≡ length rows → 1 ≤ n → n ≤ LETTER_LIMIT → Some r ≡ wrong_row n rows → rows_fault rows ≡ Some (rack_shape r)
wrong_shape rows n r e least most found =
    ap₂ (λ o p. option_or o (option_or p (option_or (rack_entry_fault rows) None))) (right_count rows n e least most) (shape_by rows n (Some r) e found)

after_shape : (rows : List (List ℤ)) (n : ℕ) → n ≡ length rows → 1 ≤ n → n ≤ LETTER_LIMIT → None ≡ wrong_row n rows → rows_fault rows ≡ option_or (rack_entry_fault rows) None
after_shape rows n e least most found =
    ap₂ (λ o p. option_or o (option_or p (option_or (rack_entry_fault rows) None))) (right_count rows n e least most) (shape_by rows n None e found)

pub wrong_entry : (rows : List (List ℤ)) (n : ℕ) (fault : TableFault) → n ≡ length rows → 1 ≤ n → n ≤ LETTER_LIMIT → None ≡ wrong_row n rows → rack_entry_fault rows ≡ Some fault → rows_fault rows ≡ Some fault
wrong_entry rows n fault e least most found wrong = after_shape rows n e least most found ∙ ap (λ o. option_or o None) wrong

pub right_rows : (rows : List (List ℤ)) (n : ℕ) → n ≡ length rows → 1 ≤ n → n ≤ LETTER_LIMIT → None ≡ wrong_row n rows → rack_entry_fault rows ≡ None → rows_fault rows ≡ None
right_rows rows n e least most found right = after_shape rows n e least most found ∙ ap (λ o. option_or o None) right

pub right_table : (rows : List (List ℤ)) → rows_fault rows ≡ None → IsRackTable (given_rack rows)
right_table rows e = let (count, shape, entries) = no_fault_of_rows rows e in rack_is_table rows (faultless rows count shape entries)

-- the table as it is kept
pub kept_table : (rows : List (List ℤ)) (n : ℕ) (xs : List ℕ) → n ≡ length rows → xs ≡ flat_map (map letter_of) rows → rows_fault rows ≡ None → IsRackTable (record { letters = n; entries = xs })
kept_table rows n xs e same none = subst IsRackTable (kept (length rows) n (flat_map (map letter_of) rows) xs (sym e) (sym same)) (right_table rows none)
  where
    kept : (n m : ℕ) (xs ys : List ℕ) → n ≡ m → xs ≡ ys → ◌≡◌ {A = RackEntries} (record { letters = n; entries = xs }) (record { letters = m; entries = ys })
    kept n m xs ys p q = cc
