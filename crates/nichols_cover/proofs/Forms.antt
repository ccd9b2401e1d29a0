-- The forms of candidates, from the places of their own rows.
use Rattle.std.proofs.Common.{◌≡◌, ◌<◌, ◌≤◌, ◌+◌, ◌-◌, ℕ, zero, suc, Bool, true, false, cond, nat_lt, List, [], ◌∷◌, ◌++◌, map, filter, length, take, get_or, refl, sym, ◌∙◌, ap, ap₂, arith}
use Rattle.std.specs.Prelude.{slice_index}
use Rattle.std.specs.List.{range_with_len}
use Rattle.std.proofs.lemmas.List.{append-nil, get_or_default, take_more}
use Rattle.std.proofs.lemmas.List.FromFn.{get_or-map-range_with_len, map-range_with_len_more}
use Rattle.std.proofs.lemmas.List.Filters.{length-filter_more}
use Rattle.nichols_echelon.specs.Cells.{AllBelow, Cell}
use Rattle.nichols_echelon.specs.declared.rows.Place.{Place}
use Rattle.nichols_echelon.specs.declared.rows.Place.TheVariants.{Independent, Depends}
use Rattle.nichols_rows.specs.Places.{IsInside}
use Rattle.nichols_cover.specs.Rows.{form_at, form_cells, forms_of, is_independent, number_at, numbered}
use Rattle.nichols_cover.specs.Units.{behind}
use Rattle.nichols_cover.proofs.Units.{behind_below}

-- ---- cells behind others

behind-append : (g : ℕ) (xs ys : List Cell) → behind g (xs ++ ys) ≡ behind g xs ++ behind g ys
behind-append g [] ys = refl
behind-append g (c ∷ xs) ys = at (nat_lt c.column g) (behind-append g xs ys)
  where
    at : (b : Bool) → behind g (xs ++ ys) ≡ behind g xs ++ behind g ys →
        cond b (behind g (xs ++ ys)) (record { column = c.column - g; coefficient = c.coefficient } ∷ behind g (xs ++ ys))
        ≡ cond b (behind g xs) (record { column = c.column - g; coefficient = c.coefficient } ∷ behind g xs) ++ behind g ys
    at true e = e
    at false e = ap (λ cells. record { column = c.column - g; coefficient = c.coefficient } ∷ cells) e

numbered-append : (number : ℕ → ℕ) (xs ys : List Cell) → numbered number (xs ++ ys) ≡ numbered number xs ++ numbered number ys
numbered-append number [] ys = refl
numbered-append number (c ∷ xs) ys = ap (λ cells. record { column = number c.column; coefficient = c.coefficient } ∷ cells) (numbered-append number xs ys)

behind_push : (g : ℕ) (cells : List Cell) (i : ℕ) (c : Cell) → i < length cells → c ≡ get_or cells i c → behind g (take (i + 1) cells) ≡ behind g (take i cells) ++ behind g (c ∷ [])
behind_push g cells i c less item = ap (behind g) (take_more cells i c less ∙ ap (λ (d : Cell). take i cells ++ d ∷ []) (sym item)) ∙ behind-append g (take i cells) (c ∷ [])

-- a cell behind the others is taken with the number of its column
pub behind_more : (g : ℕ) (numbers : List ℕ) (cells : List Cell) (i : ℕ) (c : Cell) (old : List Cell) → i < length cells → c ≡ get_or cells i c → nat_lt c.column g ≡ false → old ≡ numbered (slice_index numbers) (behind g (take i cells)) →
    old ++ record { column = slice_index numbers (c.column - g); coefficient = c.coefficient } ∷ [] ≡ numbered (slice_index numbers) (behind g (take (i + 1) cells))
behind_more g numbers cells i c old less item high is =
    ap (λ xs. xs ++ record { column = slice_index numbers (c.column - g); coefficient = c.coefficient } ∷ []) is
    ∙ sym (ap (numbered (slice_index numbers)) (behind_push g cells i c less item ∙ ap (λ (xs : List Cell). behind g (take i cells) ++ xs) (ap (λ b. cond b [] (record { column = c.column - g; coefficient = c.coefficient } ∷ [])) high))
    ∙ numbered-append (slice_index numbers) (behind g (take i cells)) (record { column = c.column - g; coefficient = c.coefficient } ∷ []))

-- and any other is left out
pub behind_skipped : (g : ℕ) (numbers : List ℕ) (cells : List Cell) (i : ℕ) (c : Cell) (old : List Cell) → i < length cells → c ≡ get_or cells i c → nat_lt c.column g ≡ true → old ≡ numbered (slice_index numbers) (behind g (take i cells)) →
    old ≡ numbered (slice_index numbers) (behind g (take (i + 1) cells))
behind_skipped g numbers cells i c old less item low is =
    is ∙ sym (ap (numbered (slice_index numbers)) (behind_push g cells i c less item ∙ ap (λ (xs : List Cell). behind g (take i cells) ++ xs) (ap (λ b. cond b [] (record { column = c.column - g; coefficient = c.coefficient } ∷ [])) low) ∙ append-nil (behind g (take i cells))))

-- ---- numbers

pub number_few : (places : List Place) (k : ℕ) → number_at places k ≤ k
unfolding number_at
number_few places zero = omega arith
number_few [] (suc k) = omega arith
number_few (p ∷ places) (suc k) = let rest : length (filter is_independent (take k places)) ≤ k = number_few places k in at (is_independent p) rest
  where
    at : (b : Bool) → length (filter is_independent (take k places)) ≤ k → length (cond b (p ∷ filter is_independent (take k places)) (filter is_independent (take k places))) ≤ suc k
    at true l = omega arith
    at false l = omega arith

pub number_none : (places : List Place) → number_at places 0 ≡ 0
unfolding number_at
number_none places = refl

pub number_more : (places : List Place) (i : ℕ) (p : Place) → i < length places → p ≡ get_or places i p → number_at places (i + 1) ≡ number_at places i + cond (is_independent p) 1 0
unfolding number_at
number_more places i p less item = length-filter_more is_independent places i p less ∙ ap (λ q. length (filter is_independent (take i places)) + cond (is_independent q) 1 0) (sym item)

-- the form of a candidate needs the numbers of earlier candidates alone
same_numbers : (φ ψ : ℕ → ℕ) (bound : ℕ) → ((c : ℕ) → c < bound → φ c ≡ ψ c) → (cells : List Cell) → AllBelow bound cells → numbered φ cells ≡ numbered ψ cells
same_numbers φ ψ bound same [] below = refl
same_numbers φ ψ bound same (c ∷ cells) below = ap₂ (λ (m : ℕ) (xs : List Cell). record { column = m; coefficient = c.coefficient } ∷ xs) (same c.column below.0) (same_numbers φ ψ bound same cells below.1)

pub form_is : (others : ℕ) (places : List Place) (i own : ℕ) (numbers : List ℕ) (p : Place) → i < length places → p ≡ get_or places i p → IsInside (others + i) p → numbers ≡ map (number_at places) (range_with_len 0 i) → own ≡ number_at places i →
    form_cells (slice_index numbers) others own p ≡ form_at others places i
form_is others places i own numbers p less item inside are own_is = at p inside ∙ ap₂ (form_cells (number_at places) others) own_is (item ∙ get_or_default places i p Independent less)
  where
    same : (c : ℕ) → c < i → slice_index numbers c ≡ number_at places c
    same c low = ap (λ xs. slice_index xs c) are ∙ get_or-map-range_with_len (number_at places) 0 i c c 0 low (let e : 0 + c ≡ c = omega arith in e)

    at : (p : Place) → IsInside (others + i) p → form_cells (slice_index numbers) others own p ≡ form_cells (number_at places) others own p
    at Independent h = refl
    at (Depends cells) h = same_numbers (slice_index numbers) (number_at places) i same (behind others cells) (behind_below others i cells h)

pub numbers_longer : (places : List Place) (i own : ℕ) (numbers : List ℕ) → numbers ≡ map (number_at places) (range_with_len 0 i) → own ≡ number_at places i → numbers ++ own ∷ [] ≡ map (number_at places) (range_with_len 0 (i + 1))
numbers_longer places i own numbers are is = ap₂ (λ (xs : List ℕ) (m : ℕ). xs ++ m ∷ []) are is ∙ sym (map-range_with_len_more (number_at places) 0 i i (let e : 0 + i ≡ i = omega arith in e))

pub forms_longer : (others : ℕ) (places : List Place) (i : ℕ) (rows : List (List Cell)) (cells : List Cell) → rows ≡ map (form_at others places) (range_with_len 0 i) → cells ≡ form_at others places i → rows ++ cells ∷ [] ≡ map (form_at others places) (range_with_len 0 (i + 1))
forms_longer others places i rows cells are is = ap₂ (λ (xs : List (List Cell)) (c : List Cell). xs ++ c ∷ []) are is ∙ sym (map-range_with_len_more (form_at others places) 0 i i (let e : 0 + i ≡ i = omega arith in e))

pub whole_forms : (others : ℕ) (places : List Place) (i : ℕ) (rows : List (List Cell)) → rows ≡ map (form_at others places) (range_with_len 0 i) → i ≡ length places → rows ≡ forms_of others places
unfolding forms_of
whole_forms others places i rows are end = are ∙ ap (λ n. map (form_at others places) (range_with_len 0 n)) end
