-- Sums to which products of least words with letters and with generators are added.
use Rattle.std.proofs.Common.{◌≡◌, ◌≢◌, ℕ, suc, ◌+◌, ◌-◌, ◌*◌, ◌<◌, ◌≤◌, List, [], ◌∷◌, ◌++◌, length, take, get_or, refl, sym, ◌∙◌, ap, ap₂, subst, arith, inl, inr, append_assoc}
use Rattle.std.specs.List.{AllByRecursion}
use Rattle.std.proofs.Math.Nat.{mul-le-mul}
use Rattle.std.proofs.lemmas.Bool.{cases_eq}
use Rattle.std.proofs.lemmas.List.{take_more, map-append}
use Rattle.nichols_field.specs.Field.{FieldValue, IsField, IsElement, plus, times, negative}
use Rattle.nichols_field.proofs.FieldLaws.{plus_assoc, plus_zero, times_plus, times_zero, times_is_element}
use Rattle.nichols_field.proofs.Sums.{sum-push, sum_is_element as total_is_element}
use Rattle.nichols_tensor.specs.Combination.{Combination, Term, minus, scalar_multiple, single}
use Rattle.nichols_tensor.specs.Relation.{PlainRelation}
use Rattle.nichols_tensor.specs.Words.{IsLetterOf}
use Rattle.nichols_echelon.specs.Cells.{AllBelow, Cell, cell_value, entry}
use Rattle.nichols_echelon.specs.Sums.{sum_at}
use Rattle.nichols_echelon.proofs.Entries.{cell_here, cell_elsewhere, entry-nil, entry-push}
use Rattle.nichols_echelon.proofs.Shapes.{all_read}
use Rattle.nichols_echelon.proofs.Summing.{sum_is_element}
use Rattle.nichols_cover.specs.Rows.{cells_followed, cells_of_word, product_entry}

-- ---- a letter behind

-- the sums have grown by a multiple of cells with a letter behind
pub record AreFollowed (k : FieldValue) (n y by : ℕ) (cells : List Cell) (initial values : List ℕ) : Type 0 where
  pub value : (place : ℕ) → sum_at k values place ≡ plus k (sum_at k initial place) (times k by (entry k (cells_followed n y cells) place))

pub followed_start : (k : FieldValue) → IsField k → (n y by : ℕ) (values : List ℕ) → AreFollowed k n y by [] values values
followed_start k is n y by values = record {
  value = λ place.
      let v : ℕ = sum_at k values place in
      sym (ap (λ m. plus k v (times k by m)) (entry-nil k place) ∙ ap (plus k v) (times_zero k by is) ∙ plus_zero k v (sum_is_element k is values place));
}

-- an element was added at a place
put_value : (k : FieldValue) → IsField k → (old new : List ℕ) (c : Cell) → sum_at k new c.column ≡ plus k (sum_at k old c.column) c.coefficient → ((other : ℕ) → other ≢ c.column → sum_at k new other ≡ sum_at k old other) → (place : ℕ) →
    sum_at k new place ≡ plus k (sum_at k old place) (cell_value c place)
put_value k is old new c here elsewhere place =
    elim (cases_eq c.column place) [
      | inl e ↦ subst (λ p. sum_at k new p ≡ plus k (sum_at k old p) (cell_value c p)) e (here ∙ ap (plus k (sum_at k old c.column)) (sym (cell_here c c.column refl)))
      | inr other ↦
          elsewhere place (λ e. other (sym e)) ∙ sym (ap (plus k (sum_at k old place)) (cell_elsewhere c place other) ∙ plus_zero k (sum_at k old place) (sum_is_element k is old place))
    ]

pub followed_more : (k : FieldValue) → IsField k → (n y by : ℕ) (cells : List Cell) (i : ℕ) (c : Cell) (initial old new : List ℕ) (at coefficient : ℕ) → i < length cells → c ≡ get_or cells i c → at ≡ c.column * n + (y - 1) → coefficient ≡ times k by c.coefficient →
    sum_at k new at ≡ plus k (sum_at k old at) coefficient → ((other : ℕ) → other ≢ at → sum_at k new other ≡ sum_at k old other) → AreFollowed k n y by (take i cells) initial old → AreFollowed k n y by (take (i + 1) cells) initial new
followed_more k is n y by cells i c initial old new at coefficient less item same scaled here elsewhere before = record {
  value = λ place.
      let v : ℕ = sum_at k initial place in
      let done : List Cell = cells_followed n y (take i cells) in
      let moved : Cell = record { column = c.column * n + (y - 1); coefficient = c.coefficient } in
      let put : Cell = record { column = at; coefficient = coefficient } in
      let one : cell_value (record { column = at; coefficient = coefficient }) place ≡ times k by (cell_value (record { column = c.column * n + (y - 1); coefficient = c.coefficient }) place) = scaled_cell place in
      put_value k is old new put here elsewhere place ∙ ap₂ (plus k) (before.value place) one ∙ plus_assoc k v (times k by (entry k done place)) (times k by (cell_value moved place))
      ∙ ap (plus k v)
      (sym (times_plus k by (entry k done place) (cell_value moved place))
      ∙ ap (times k by) (sym (ap (λ cs. entry k cs place) longer ∙ entry-push k is done moved place)));
}
  where
    scaled_cell : (place : ℕ) → cell_value (record { column = at; coefficient = coefficient }) place ≡ times k by (cell_value (record { column = c.column * n + (y - 1); coefficient = c.coefficient }) place)
    scaled_cell place =
        let put : Cell = record { column = at; coefficient = coefficient } in
        let moved : Cell = record { column = c.column * n + (y - 1); coefficient = c.coefficient } in
        elim (cases_eq at place) [
          | inl e ↦ cell_here put place e ∙ scaled ∙ ap (times k by) (sym (cell_here moved place (sym same ∙ e)))
          | inr other ↦ cell_elsewhere put place other ∙ sym (ap (times k by) (cell_elsewhere moved place (λ e. other (same ∙ e))) ∙ times_zero k by is)
        ]

    longer : cells_followed n y (take (i + 1) cells) ≡ cells_followed n y (take i cells) ++ record { column = c.column * n + (y - 1); coefficient = c.coefficient } ∷ []
    longer =
        ap (cells_followed n y) (take_more cells i c less ∙ ap (λ (d : Cell). take i cells ++ d ∷ []) (sym item))
        ∙ map-append (λ (d : Cell). record { column = d.column * n + (y - 1); coefficient = d.coefficient }) (take i cells) (c ∷ [])

-- ---- a generator

-- the sums have grown by the product with the candidate of a relation minus some terms
pub record IsBegun (k : FieldValue) (n : ℕ) (forms : List (List Cell)) (i : ℕ) (r : PlainRelation) (terms : Combination) (initial values : List ℕ) : Type 0 where
  pub value : (place : ℕ) → sum_at k values place ≡ plus k (sum_at k initial place) (product_entry k n forms i (minus k (single r.candidate) terms) place)

pub begun_start : (k : FieldValue) → IsField k → (n : ℕ) (forms : List (List Cell)) (i : ℕ) (r : PlainRelation) (initial values : List ℕ) →
    ((place : ℕ) → sum_at k values place ≡ plus k (sum_at k initial place) (times k 1 (entry k (cells_of_word n forms i r.candidate) place))) → IsBegun k n forms i r [] initial values
unfolding product_entry
begun_start k is n forms i r initial values added = record {
  value = λ place.
      let one : ℕ = times k 1 (entry k (cells_of_word n forms i r.candidate) place) in
      added place ∙ ap (plus k (sum_at k initial place)) (sym (plus_zero k one (times_is_element k 1 (entry k (cells_of_word n forms i r.candidate) place) is)));
}

pub begun_more : (k : FieldValue) → IsField k → (n : ℕ) (forms : List (List Cell)) (i : ℕ) (r : PlainRelation) (j : ℕ) (t : Term) (by : ℕ) (initial old new : List ℕ) → j < length r.form → t ≡ get_or r.form j t → by ≡ times k (negative k 1) t.coefficient →
    ((place : ℕ) → sum_at k new place ≡ plus k (sum_at k old place) (times k by (entry k (cells_of_word n forms i t.word) place))) →
    IsBegun k n forms i r (take j r.form) initial old → IsBegun k n forms i r (take (j + 1) r.form) initial new
unfolding product_entry
begun_more k is n forms i r j t by initial old new less item scaled added before = record {
  value = λ place.
      let v : ℕ = sum_at k initial place in
      let gives : Term → ℕ = λ u. times k u.coefficient (entry k (cells_of_word n forms i u.word) place) in
      let done : Combination = minus k (single r.candidate) (take j r.form) in
      let last : Term = record { word = t.word; coefficient = times k (negative k 1) t.coefficient } in
      added place ∙ ap₂ (plus k) (before.value place) (ap (λ m. times k m (entry k (cells_of_word n forms i t.word) place)) scaled)
      ∙ plus_assoc k v (product_entry k n forms i done place) (gives last)
      ∙ ap (plus k v) (sym (sum-push k is gives done last) ∙ ap (λ (f : Combination). product_entry k n forms i f place) (sym longer));
}
  where
    longer : minus k (single r.candidate) (take (j + 1) r.form) ≡ minus k (single r.candidate) (take j r.form) ++ record { word = t.word; coefficient = times k (negative k 1) t.coefficient } ∷ []
    longer =
        ap (minus k (single r.candidate)) (take_more r.form j t less ∙ ap (λ (u : Term). take j r.form ++ u ∷ []) (sym item))
        ∙ ap (λ (f : Combination). single r.candidate ++ f) (map-append (λ (u : Term). record { word = u.word; coefficient = times k (negative k 1) u.coefficient }) (take j r.form) (t ∷ []))
        ∙ sym (append_assoc (single r.candidate) (scalar_multiple k (negative k 1) (take j r.form)) (record { word = t.word; coefficient = times k (negative k 1) t.coefficient } ∷ []))

pub product_entry_is_element : (k : FieldValue) → IsField k → (n : ℕ) (forms : List (List Cell)) (i : ℕ) (r : Combination) (place : ℕ) → IsElement k (product_entry k n forms i r place)
unfolding product_entry
product_entry_is_element k is n forms i r place = total_is_element k is (λ (u : Term). times k u.coefficient (entry k (cells_of_word n forms i u.word) place)) r

-- ---- columns

pub place_is : (a y : ℕ) → 1 ≤ y → a + y - 1 ≡ a + (y - 1)
place_is a y some = omega arith

-- the candidates behind a word with a number below a bound
pub number_fits : (i bound n x : ℕ) → i < bound → x ≤ n → i * n + x ≤ bound * n
number_fits i bound n x less within =
    let whole : suc i * n ≤ bound * n = mul-le-mul less (omega arith) in
    let more : i * n + n ≡ suc i * n = omega arith in
    omega (arith, whole, more, within)

pub followed_fits : (n y count width : ℕ) (cells : List Cell) → IsLetterOf n y → count * n ≤ width → AllBelow count cells → AllBelow width (cells_followed n y cells)
followed_fits n y count width [] letter wide below = tt
followed_fits n y count width (c ∷ cells) letter wide below =
    let most : c.column * n + y ≤ count * n = number_fits c.column count n y below.0 letter.1 in
    let some : 1 ≤ y = letter.0 in
    (omega (arith, most, some, wide), followed_fits n y count width cells letter wide below.1)

pub followed_below : (n y bound : ℕ) (cells : List Cell) (i : ℕ) (c : Cell) → AllBelow bound (cells_followed n y cells) → i < length cells → c ≡ get_or cells i c → c.column * n + (y - 1) < bound
followed_below n y bound cells i c below less item = all_read (λ (d : Cell). d.column * n + (y - 1) < bound) cells i c c (each cells below) less item
  where
    each : (xs : List Cell) → AllBelow bound (cells_followed n y xs) → AllByRecursion (λ (d : Cell). d.column * n + (y - 1) < bound) xs
    each [] h = tt
    each (x ∷ xs) h = (h.0, each xs h.1)
