-- An order of the letters, the ranks of letters in it, and the braid on ranks.
use Rattle.std.specs.Prelude.{ℕ, suc, ◌+◌, ◌-◌, ◌&&◌, Bool, not, List, [], ◌∷◌, map, take, length, Option, None, Some, ℤ, nat_eq, nat_le, nat_lt, slice_index, if◌then◌else◌}
use Rattle.std.specs.List.{flat_map, list_any}
use Rattle.std.specs.Ordering.{int_eq}
use Rattle.nichols_tensor.specs.Words.{up_to}
use Rattle.nichols_braid.specs.Faults.{first_answer, is_letter}
use Rattle.nichols_braid.specs.GivenTables.{integer_in}
use Rattle.std.specs.declared.cmp.Ordering.{Ordering}
use Rattle.nichols_tensor.specs.Combination.{Combination}
use Rattle.nichols_tensor.specs.WordOrder.{word_cmp}
use Rattle.nichols_braid.specs.Braid.{BraidValue, act, scalar}
use Rattle.nichols_braid.specs.Rearrangement.{IsRearrangement}

-- an order of n letters: the list of all of them, each once, from the least to the greatest
abbrev pub IsOrder : ℕ → List ℕ → Type 0
IsOrder n order = IsRearrangement n order

-- how many entries stand before the first that is a
unfoldable pub entries_before : List ℕ → ℕ → ℕ
entries_before [] a = 0
entries_before (b ∷ bs) a = if nat_eq b a then 0 else suc (entries_before bs a)

-- the rank of a letter: its place in the order, from 1
abbrev pub rank_of : List ℕ → ℕ → ℕ
rank_of order a = entries_before order a + 1

-- the letter of a rank
abbrev pub letter_at : List ℕ → ℕ → ℕ
letter_at order r = slice_index order (r - 1)

-- a word, and a combination, with each letter sent to another
abbrev pub renamed_word : (ℕ → ℕ) → List ℕ → List ℕ
renamed_word φ w = map φ w

abbrev pub renamed : (ℕ → ℕ) → Combination → Combination
renamed φ f = map (λ t. record { word = renamed_word φ t.word; coefficient = t.coefficient }) f

-- the same in ranks, and back in letters
abbrev pub in_ranks : List ℕ → Combination → Combination
in_ranks order f = renamed (rank_of order) f

abbrev pub in_letters : List ℕ → Combination → Combination
in_letters order f = renamed (letter_at order) f

-- the word order: by length, and then by the ranks of the letters from the left
abbrev pub word_cmp_by : List ℕ → List ℕ → List ℕ → Ordering
word_cmp_by order v w = word_cmp (renamed_word (rank_of order) v) (renamed_word (rank_of order) w)

-- a table whose rows and columns stand in the order of ranks
abbrev pub table_by : List ℕ → (ℕ → ℕ → ℕ) → List ℕ
table_by order f = flat_map (λ i. map (f i) order) order

-- the braid on ranks
unfoldable pub relabelled : List ℕ → BraidValue → BraidValue
relabelled order braid = record {
  field = braid.field;
  letters = braid.letters;
  rack = table_by order (λ i j. rank_of order (act braid i j));
  cocycle = table_by order (scalar braid);
}

-- a product of ranks as one of letters: conjugated by the order
abbrev pub product_in_letters : List ℕ → List ℕ → List ℕ
product_in_letters order g = map (λ a. letter_at order (slice_index g (rank_of order a - 1))) (up_to (length order))

-- whether place k of a list, from 1, is as in an order of n letters: up to n an entry that is a letter and no earlier entry, and
-- none at n + 1
abbrev pub fits_at : ℕ → List ℤ → ℕ → Bool
fits_at n list k =
    if nat_le k n then nat_le k (length list) && is_letter n (integer_in list k) && not (list_any (λ v. int_eq v (integer_in list k)) (take (k - 1) list))
    else nat_lt (length list) k

-- the least wrong place, up to n + 1
unfoldable pub order_fault : ℕ → List ℤ → Option ℕ
order_fault n list = first_answer (λ k. if fits_at n list k then None else Some k) (up_to (suc n))
