-- Rows without a fault are square, and their table has their integers at its places.
use Rattle.std.proofs.Common.{◌≡◌, ℕ, zero, suc, ◌+◌, ◌-◌, ◌*◌, ◌<◌, ◌≤◌, Bool, true, false, cond, ◌&&◌, List, [], ◌∷◌, ◌++◌, map, length, replicate, refl, ◌∙◌, ap, subst, arith, Some, None, inl, inr, nat_eq, nat_le, nat_lt, length-append}
use Rattle.std.specs.Prelude.{Option, ℤ, pos, negsuc, slice_index, slice_index_or}
use Rattle.std.specs.List.{AllByRecursion, flat_map}
use Rattle.std.specs.Option.{option_map}
use Rattle.std.proofs.Math.Nat.{suc-mul}
use Rattle.std.proofs.lemmas.Bool.{cases_lt, and_from}
use Rattle.std.proofs.lemmas.Bool.Decides.{nat_tests, Decides-eqb}
use Rattle.std.proofs.lemmas.List.Elements.{All-from_recursion}
use Rattle.std.proofs.lemmas.List.{length-map, length-replicate, get_or-map, get_or_append_left, get_or-append_right}
use Rattle.nichols_field.specs.Field.{FieldValue, IsField, IsElement}
use Rattle.nichols_field.proofs.FieldLaws.{residue_is_element}
use Rattle.nichols_field.proofs.Parts.{joined_is_element}
use Rattle.nichols_tensor.specs.Words.{IsLetterOf}
use Rattle.nichols_tensor.proofs.Over.{all-append}
use Rattle.nichols_tensor.specs.declared.TheConstants.{LETTER_LIMIT}
use Rattle.nichols_braid.specs.Braid.{entry}
use Rattle.nichols_braid.specs.Faults.{letters, rack_shape, cocycle_shape, row_fits, wrong_row, letters_fault, rack_shape_fault, is_letter, entry_fault_at, rack_entry_fault, cocycle_shape_fault}
use Rattle.nichols_braid.specs.TableLaws.{IsSquare, HasPlaces}
use Rattle.nichols_braid.specs.Tables.{IsRackTable, IsCocycleTable}
use Rattle.nichols_braid.specs.GivenEntries.{IsEntryOf, given_element}
use Rattle.nichols_braid.specs.declared.entry.Entry.{Entry}
use Rattle.nichols_braid.specs.declared.entry.Entry.TheVariants.{Whole, Pair}
use Rattle.nichols_braid.specs.GivenScalars.{GivenScalars, AreEntriesOf, constant, table}
use Rattle.nichols_braid.specs.GivenTables.{row_at, integer_at, no_entry, letter_of, given_rack, given_cocycle}
use Rattle.nichols_braid.proofs.FirstPlaces.{no_letter_answers, no_pair_answers, no_letter}

-- ---- tests that find nothing

pub passes : {X : Type 0} (b : Bool) (x : X) → cond b None (Some x) ≡ None → b ≡ true
passes true x e = refl
passes false x e = cc

pub none_before_map : {X Y : Type 0} (f : X → Y) (o : Option X) → option_map f o ≡ None → o ≡ None
none_before_map f None e = refl
none_before_map f (Some x) e = cc

-- ---- rows of one length

pub row_there : {X : Type 0} (n : ℕ) (rows : List (List X)) (r : ℕ) → row_fits n rows r ≡ true → r ≤ n → (r ≤ length rows) × (length (row_at rows r) ≡ n)
row_there n rows r fits most = at (nat_le r n) (nat_le r (length rows)) (nat_eq (length (row_at rows r)) n) (let h : nat_le r n ≡ true = grind (arith, nat_tests) in h) refl refl fits
  where
    at : (a b c : Bool) → a ≡ true → nat_le r (length rows) ≡ b → nat_eq (length (row_at rows r)) n ≡ c → cond a (b && c) (nat_lt (length rows) r) ≡ true → (r ≤ length rows) × (length (row_at rows r) ≡ n)
    at true true true p q s e = (grind (arith, nat_tests, q), (Decides-eqb _ _).0 s)
    at true true false p q s e = cc
    at true false c p q s e = cc
    at false b c p q s e = cc

pub no_row_above : {X : Type 0} (n : ℕ) (rows : List (List X)) (r : ℕ) → row_fits n rows r ≡ true → n < r → length rows < r
no_row_above n rows r fits more = at (nat_le r n) (nat_lt (length rows) r) (let h : nat_le r n ≡ false = grind (arith, nat_tests) in h) refl fits
  where
    at : (a b : Bool) → a ≡ false → nat_lt (length rows) r ≡ b → cond a (nat_le r (length rows) && nat_eq (length (row_at rows r)) n) b ≡ true → length rows < r
    at false true p q e = grind (arith, nat_tests, q)
    at false false p q e = cc
    at true b p q e = cc

all_rows : {X : Type 0} (n : ℕ) (rows : List (List X)) → ((i : ℕ) → i < length rows → length (slice_index_or rows i []) ≡ n) → AllByRecursion (λ row. length row ≡ n) rows
all_rows n [] h = tt
all_rows n (row ∷ rows) h = (h 0 (omega arith), all_rows n rows (λ i less. h (suc i) (omega arith)))

row_long : {X : Type 0} (n : ℕ) (rows : List (List X)) → AllByRecursion (λ row. length row ≡ n) rows → (i : ℕ) → i < length rows → length (slice_index_or rows i []) ≡ n
row_long n [] all i less = absurd (omega arith)
row_long n (row ∷ rows) all zero less = all.0
row_long n (row ∷ rows) all (suc i) less = row_long n rows all.1 i (omega arith)

pub row_length : {X : Type 0} (n : ℕ) (rows : List (List X)) → IsSquare n rows → (i : ℕ) → IsLetterOf n i → length (row_at rows i) ≡ n
row_length n rows square i l = row_long n rows square.1 (i - 1) (let e : length rows ≡ n = square.0 in let h : (1 ≤ i) × (i ≤ n) = l in omega arith)

pub is_square : {X : Type 0} (n : ℕ) (rows : List (List X)) → wrong_row n rows ≡ None → IsSquare n rows
unfolding wrong_row
is_square n rows none =
    let fits : (r : ℕ) → IsLetterOf (suc n) r → row_fits n rows r ≡ true = λ r l. passes (row_fits n rows r) r (no_letter_answers (suc n) (λ r. cond (row_fits n rows r) None (Some r)) none r l) in
    let most : length rows < suc n = no_row_above n rows (suc n) (fits (suc n) (omega arith, omega arith)) (omega arith) in
    let size : length rows ≡ n =
    elim (cases_lt (length rows) n) [
      | inl less ↦ let there : (n ≤ length rows) × (length (row_at rows n) ≡ n) = row_there n rows n (fits n (omega arith, omega arith)) (omega arith) in omega arith
      | inr more ↦ omega arith
    ] in (
      size,
      all_rows n rows (λ i less.
          ap (λ k. length (slice_index_or rows k [])) (let e : i ≡ suc i - 1 = omega arith in e) ∙ (row_there n rows (suc i) (fits (suc i) (omega arith, omega arith)) (omega arith)).1),
    )

pub square_fits : {X : Type 0} (n : ℕ) (rows : List (List X)) → IsSquare n rows → wrong_row n rows ≡ None
unfolding wrong_row
square_fits n rows square = no_letter (suc n) (λ r. cond (row_fits n rows r) None (Some r)) (λ r l. ap (λ b. cond b None (Some r)) (fits r l))
  where
    at : (r : ℕ) (a b c d : Bool) → nat_le r n ≡ a → (a ≡ true → b ≡ true) → (a ≡ true → c ≡ true) → (a ≡ false → d ≡ true) → cond a (b && c) d ≡ true
    at r true true true d p f g h = refl
    at r true false c d p f g h = f refl
    at r true true false d p f g h = g refl
    at r false b c d p f g h = h refl

    size : length rows ≡ n
    size = square.0

    fits : (r : ℕ) → IsLetterOf (suc n) r → row_fits n rows r ≡ true
    fits r l =
        at r (nat_le r n) (nat_le r (length rows)) (nat_eq (length (row_at rows r)) n) (nat_lt (length rows) r) refl
        (λ p. let less : r ≤ n = grind (arith, nat_tests, p) in let h : r ≤ length rows = omega (arith, size) in grind (arith, nat_tests, h))
        (λ p. let less : r ≤ n = grind (arith, nat_tests, p) in (Decides-eqb _ _).1 (row_length n rows square r (l.0, less)))
        (λ p. let more : n < r = grind (arith, nat_tests, p) in let h : length rows < r = omega (arith, size) in grind (arith, nat_tests, h))

-- ---- a table of rows, one after the other

-- a row with n entries in front of m rows
row_more : (n m k : ℕ) → k ≡ m * n → n + k ≡ suc m * n
row_more n m k e = omega (arith, suc-mul m n)

flat_length : {X : Type 0} (g : X → ℕ) (n : ℕ) (rows : List (List X)) → AllByRecursion (λ row. length row ≡ n) rows → length (flat_map (map g) rows) ≡ length rows * n
flat_length g n [] all = omega arith
flat_length g n (row ∷ rows) all =
    length-append (map g row) (flat_map (map g) rows) ∙ ap (λ m. m + length (flat_map (map g) rows)) (length-map row g ∙ all.0)
    ∙ row_more n (length rows) (length (flat_map (map g) rows)) (flat_length g n rows all.1)

table_length : {X : Type 0} (g : X → ℕ) (n : ℕ) (rows : List (List X)) → IsSquare n rows → length (flat_map (map g) rows) ≡ n * n
table_length g n rows square = flat_length g n rows square.1 ∙ ap (λ m. m * n) square.0

flat_at : {X : Type 0} (none : X) (g : X → ℕ) (n : ℕ) (rows : List (List X)) → AllByRecursion (λ row. length row ≡ n) rows → (i j : ℕ) → i < length rows → j < n →
    slice_index (flat_map (map g) rows) (i * n + j) ≡ g (slice_index_or (slice_index_or rows i []) j none)
flat_at none g n [] all i j less below = absurd (omega arith)
flat_at none g n (row ∷ rows) all zero j less below =
    let size : length row ≡ n = all.0 in
    let long : length (map g row) ≡ n = length-map row g ∙ size in
    ap (slice_index (map g row ++ flat_map (map g) rows)) (let e : 0 * n + j ≡ j = omega arith in e)
    ∙ get_or_append_left (map g row) (flat_map (map g) rows) 0 j (omega arith)
    ∙ get_or-map g row j none 0 (omega arith)
flat_at none g n (row ∷ rows) all (suc i) j less below =
    let long : length (map g row) ≡ n = length-map row g ∙ all.0 in
    let more : suc i * n ≡ i * n + n = suc-mul i n in
    get_or-append_right (map g row) (flat_map (map g) rows) n (suc i * n + j) 0 long (omega arith)
    ∙ ap (slice_index (flat_map (map g) rows)) (let e : suc i * n + j - n ≡ i * n + j = omega arith in e)
    ∙ flat_at none g n rows all.1 i j (omega arith) below

pub entry_at : {X : Type 0} (none : X) (g : X → ℕ) (n : ℕ) (rows : List (List X)) → IsSquare n rows → (i j : ℕ) → IsLetterOf n i → IsLetterOf n j → entry n (flat_map (map g) rows) i j ≡ g (slice_index_or (row_at rows i) (j - 1) none)
unfolding entry
entry_at none g n rows square i j li lj =
    let size : length rows ≡ n = square.0 in
    flat_at none g n rows square.1 (i - 1) (j - 1) (let h : (1 ≤ i) × (i ≤ n) = li in omega arith) (let h : (1 ≤ j) × (j ≤ n) = lj in omega arith)

-- what holds of each integer of a row, or of rows, in a table
all_in_row : {X : Type 0} (P : ℕ → Type 0) (none : X) (g : X → ℕ) (row : List X) → ((j : ℕ) → j < length row → P (g (slice_index_or row j none))) → AllByRecursion P (map g row)
all_in_row P none g [] h = tt
all_in_row P none g (v ∷ row) h = (h 0 (omega arith), all_in_row P none g row (λ j less. h (suc j) (omega arith)))

all_in_rows : {X : Type 0} (P : ℕ → Type 0) (none : X) (g : X → ℕ) (n : ℕ) (rows : List (List X)) → AllByRecursion (λ row. length row ≡ n) rows →
    ((i j : ℕ) → i < length rows → j < n → P (g (slice_index_or (slice_index_or rows i []) j none))) → AllByRecursion P (flat_map (map g) rows)
all_in_rows P none g n [] all h = tt
all_in_rows P none g n (row ∷ rows) all h =
    let size : length row ≡ n = all.0 in
    all-append P (map g row) (flat_map (map g) rows) (all_in_row P none g row (λ j less. h 0 j (omega arith) (omega arith))) (all_in_rows P none g n rows all.1 (λ i j less below. h (suc i) j (omega arith) below))

-- ---- letters

pub letter_is : (n : ℕ) (v : ℤ) → is_letter n v ≡ true → IsLetterOf n (letter_of v) × (pos (letter_of v) ≡ v)
letter_is n (pos v) e = at (nat_le 1 v) (nat_le v n) refl refl e
  where
    at : (b c : Bool) → nat_le 1 v ≡ b → nat_le v n ≡ c → (b && c) ≡ true → IsLetterOf n v × (pos v ≡ pos v)
    at true true p q e = ((grind (arith, nat_tests, p), grind (arith, nat_tests, q)), refl)
    at true false p q e = cc
    at false c p q e = cc
letter_is n (negsuc v) e = cc

pub letter_passes : (n a : ℕ) → IsLetterOf n a → is_letter n (pos a) ≡ true
letter_passes n a l = and_from (nat_le 1 a) (nat_le a n) (let h : 1 ≤ a = l.0 in grind (arith, nat_tests, h)) (let h : a ≤ n = l.1 in grind (arith, nat_tests, h))

-- ---- rows and scalars without a fault

-- 1 to `LETTER_LIMIT` rows with a letter in each column
pub record IsFaultless (rows : List (List ℤ)) : Type 0 where
  pub least : 1 ≤ length rows
  pub most : length rows ≤ LETTER_LIMIT
  pub square : IsSquare (length rows) rows
  pub entries : (i j : ℕ) → IsLetterOf (length rows) i → IsLetterOf (length rows) j → is_letter (length rows) (integer_at rows i j) ≡ true

pub count_fits : (rows : List (List ℤ)) → letters_fault rows ≡ None → (1 ≤ length rows) × (length rows ≤ LETTER_LIMIT)
unfolding letters_fault
count_fits rows e = at (nat_le 1 (length rows)) (nat_le (length rows) LETTER_LIMIT) refl refl e
  where
    at : (b c : Bool) → nat_le 1 (length rows) ≡ b → nat_le (length rows) LETTER_LIMIT ≡ c → cond (b && c) None (Some (letters (length rows))) ≡ None → (1 ≤ length rows) × (length rows ≤ LETTER_LIMIT)
    at true true p q e = (grind (arith, nat_tests, p), grind (arith, nat_tests, q))
    at true false p q e = cc
    at false c p q e = cc

rack_square : (rows : List (List ℤ)) → rack_shape_fault rows ≡ None → IsSquare (length rows) rows
unfolding rack_shape_fault
rack_square rows e = is_square (length rows) rows (none_before_map rack_shape (wrong_row (length rows) rows) e)

entries_fit : (rows : List (List ℤ)) → rack_entry_fault rows ≡ None → (i j : ℕ) → IsLetterOf (length rows) i → IsLetterOf (length rows) j → is_letter (length rows) (integer_at rows i j) ≡ true
unfolding rack_entry_fault
entries_fit rows e i j li lj = passes (is_letter (length rows) (integer_at rows i j)) _ (no_pair_answers (length rows) (λ i. entry_fault_at (length rows) (row_at rows i) i) e i j li lj)

pub faultless : (rows : List (List ℤ)) → letters_fault rows ≡ None → rack_shape_fault rows ≡ None → rack_entry_fault rows ≡ None → IsFaultless rows
faultless rows count shape entry =
    let (least, most) = count_fits rows count in
    record { least = least; most = most; square = rack_square rows shape; entries = entries_fit rows entry }

pub rack_is_table : (rows : List (List ℤ)) → IsFaultless rows → IsRackTable (given_rack rows)
rack_is_table rows h =
    let n : ℕ = length rows in
    record {
      least = h.least;
      most = h.most;
      size = table_length letter_of n rows h.square;
      entries = all_in_rows (IsLetterOf n) (pos 0) letter_of n rows h.square.1 (λ i j less below.
          subst (λ v. IsLetterOf n (letter_of v)) (place i j) (letter_is n (integer_at rows (suc i) (suc j)) (h.entries (suc i) (suc j) (omega arith, omega arith) (omega arith, omega arith))).0);
    }
  where
    place : (i j : ℕ) → integer_at rows (suc i) (suc j) ≡ slice_index_or (slice_index_or rows i []) j (pos 0)
    place i j =
        ap (λ k. slice_index_or (slice_index_or rows k []) (suc j - 1) (pos 0)) (let e : suc i - 1 ≡ i = omega arith in e)
        ∙ ap (λ k. slice_index_or (slice_index_or rows i []) k (pos 0)) (let e : suc j - 1 ≡ j = omega arith in e)

pub has_places : (n : ℕ) (given : GivenScalars) → cocycle_shape_fault n given ≡ None → HasPlaces n given
unfolding cocycle_shape_fault
has_places n (constant v) e = tt
has_places n (table rows) e = is_square n rows (none_before_map cocycle_shape (wrong_row n rows) e)

all_same : (k : FieldValue) (n a : ℕ) → IsElement k a → AllByRecursion (IsElement k) (replicate n a)
all_same k zero a h = tt
all_same k (suc n) a h = (h, all_same k n a h)

entry_is_element : (k : FieldValue) → IsField k → (e : Entry) → IsEntryOf k e → IsElement k (given_element k e)
unfolding given_element
entry_is_element k is (Whole v) of = residue_is_element k v is
entry_is_element k is (Pair u v) of = joined_is_element k u v is of

pub cocycle_size : (k : FieldValue) (n : ℕ) (given : GivenScalars) → HasPlaces n given → length (given_cocycle k n given) ≡ n * n
cocycle_size k n (constant e) places = length-replicate (n * n) (given_element k e)
cocycle_size k n (table rows) places = table_length (given_element k) n rows places

-- what holds of each entry of rows holds of the one at a place
at_place : (P : Entry → Type 0) (rows : List (List Entry)) (i j : ℕ) → AllByRecursion (AllByRecursion P) rows → i < length rows → j < length (slice_index_or rows i []) → P (slice_index_or (slice_index_or rows i []) j no_entry)
at_place P rows i j all less below = All-from_recursion P (slice_index_or rows i []) (All-from_recursion (AllByRecursion P) rows all i [] less) j no_entry below

pub cocycle_is_table : (k : FieldValue) → IsField k → (n : ℕ) (given : GivenScalars) → AreEntriesOf k given → HasPlaces n given → IsCocycleTable k n (given_cocycle k n given)
cocycle_is_table k is n given of places = record { size = cocycle_size k n given places; elements = at given of places }
  where
    at : (given : GivenScalars) → AreEntriesOf k given → HasPlaces n given → AllByRecursion (IsElement k) (given_cocycle k n given)
    at (constant e) of places = all_same k (n * n) (given_element k e) (entry_is_element k is e of)
    at (table rows) of places = all_in_rows (IsElement k) no_entry (given_element k) n rows places.1 (λ i j less below.
        entry_is_element k is (slice_index_or (slice_index_or rows i []) j no_entry)
        (at_place (IsEntryOf k) rows i j of less (let size : length (slice_index_or rows i []) ≡ n = row_long n rows places.1 i less in omega arith)))
