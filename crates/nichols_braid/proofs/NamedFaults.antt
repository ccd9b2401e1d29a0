-- The fault that is named is so, and no fault of an earlier kind or place is.
use Rattle.std.proofs.Common.{◌≡◌, ◌≢◌, ℕ, suc, ◌<◌, ◌≤◌, ◌⊎◌, Bool, true, false, cond, ◌&&◌, List, [], ◌∷◌, length, refl, sym, ◌∙◌, ap, subst, arith, Some, None, inl, inr, nat_eq, nat_lt, nat_le, Err}
use Rattle.std.specs.Prelude.{Option, ℤ, pos}
use Rattle.std.specs.Option.{option_map}
use Rattle.std.specs.Cmp.{first_so, second_so}
use Rattle.std.specs.Ordering.{nat_cmp, ordering_then}
use Rattle.std.specs.Cmp.Lexicographic.{slice_cmp}
use Rattle.std.specs.declared.cmp.Ordering.TheVariants.{Less, Equal, Greater}
use Rattle.std.proofs.lemmas.Bool.{cases_lt, eqb-false}
use Rattle.std.proofs.lemmas.Bool.Decides.{nat_tests, Decides-eqb}
use Rattle.nichols_field.specs.Field.{FieldValue, times, element_of, parts_of}
use Rattle.nichols_field.specs.Pairs.{Pair}
use Rattle.nichols_field.proofs.Parts.{element_of_parts}
use Rattle.nichols_tensor.specs.Words.{IsLetterOf}
use Rattle.nichols_braid.specs.Braid.{BraidValue, act, scalar}
use Rattle.nichols_braid.specs.FaultLaws.{IsFirstTriple}
use Rattle.nichols_braid.specs.Faults.{TableFault, letters, rack_shape, rack_entry, not_bijective, not_distributive, cocycle_shape, cocycle_zero, not_cocycle, first_fault, letters_fault, row_fits, wrong_row, rack_shape_fault, is_letter, entry_fault_at, rack_entry_fault, bijection_fault_at, bijection_fault, distributivity_fault_at, distributivity_fault, cocycle_shape_fault, zero_fault_at, zero_fault, cocycle_fault_at, cocycle_fault, table_fault, unless_fault, braid_of}
use Rattle.nichols_braid.specs.TableLaws.{IsWrongRow, Holds, kind_of, place_of, IsEarlier, FirstFaultsAreNamed}
use Rattle.nichols_braid.specs.Tables.{image}
use Rattle.nichols_braid.specs.GivenScalars.{GivenScalars, constant, table}
use Rattle.nichols_braid.specs.GivenTables.{row_at, integer_at, letter_of, given_rack, given_tables}
use Rattle.nichols_braid.proofs.TestedTables.{differ, nonzero_at}
use Rattle.nichols_braid.proofs.FirstAnswers.{no_triple_answers, first_letter, first_triples_are_least}
use Rattle.nichols_braid.proofs.FirstPlaces.{no_letter_answers, no_pair_answers, IsFirstPair, pair_is}
use Rattle.nichols_braid.proofs.GivenRows.{passes, none_before_map, row_there, no_row_above, count_fits, letter_is, letter_passes}
use Rattle.std.proofs.lemmas.Option.{cond_some}
use Rattle.nichols_tensor.specs.declared.TheConstants.{LETTER_LIMIT}

-- ---- the order of places

less_parts : (x y : ℕ) (xs ys : List ℕ) → slice_cmp nat_cmp (x ∷ xs) (y ∷ ys) ≡ Less → (x < y) ⊎ ((x ≡ y) × (slice_cmp nat_cmp xs ys ≡ Less))
less_parts x y xs ys e = at (nat_lt x y) (nat_eq x y) refl refl e
  where
    at : (a b : Bool) → nat_lt x y ≡ a → nat_eq x y ≡ b → ordering_then (cond a Less (cond b Equal Greater)) (slice_cmp nat_cmp xs ys) ≡ Less → (x < y) ⊎ ((x ≡ y) × (slice_cmp nat_cmp xs ys ≡ Less))
    at true b p q e = inl (grind (arith, nat_tests, p))
    at false true p q e = inr ((Decides-eqb x y).0 q, e)
    at false false p q e = cc

before_nothing : (xs : List ℕ) → slice_cmp nat_cmp xs [] ≡ Less → ⊥
before_nothing [] e = cc
before_nothing (x ∷ xs) e = cc

less_one : (a i : ℕ) → slice_cmp nat_cmp (a ∷ []) (i ∷ []) ≡ Less → a < i
less_one a i e = elim (less_parts a i [] [] e) [ inl less ↦ less | inr same ↦ absurd (before_nothing [] same.1) ]

less_pair : (a b i j : ℕ) → slice_cmp nat_cmp (a ∷ b ∷ []) (i ∷ j ∷ []) ≡ Less → (a < i) ⊎ ((a ≡ i) × (b < j))
less_pair a b i j e = elim (less_parts a i (b ∷ []) (j ∷ []) e) [ inl less ↦ inl less | inr same ↦ inr (same.0, less_one b j same.1) ]

less_triple : (a b c i j k : ℕ) → slice_cmp nat_cmp (a ∷ b ∷ c ∷ []) (i ∷ j ∷ k ∷ []) ≡ Less → (a < i) ⊎ ((a ≡ i) × ((b < j) ⊎ ((b ≡ j) × (c < k))))
less_triple a b c i j k e = elim (less_parts a i (b ∷ c ∷ []) (j ∷ k ∷ []) e) [ inl less ↦ inl less | inr same ↦ inr (same.0, less_pair b c j k same.1) ]

-- ---- what the search of a kind finds

-- the fault is of the kind and so, and no fault of the kind that is so has an earlier place
record IsFound (k : FieldValue) (rows : List (List ℤ)) (given : GivenScalars) (kind : ℕ) (fault : TableFault) : Type 0 where
  holds : Holds k rows given fault
  same : kind_of fault ≡ kind
  least : (other : TableFault) → kind_of other ≡ kind → Holds k rows given other → slice_cmp nat_cmp (place_of other) (place_of fault) ≡ Less → ⊥

record IsSearch (k : FieldValue) (rows : List (List ℤ)) (given : GivenScalars) (kind : ℕ) (answer : Option TableFault) : Type 0 where
  found : (fault : TableFault) → answer ≡ Some fault → IsFound k rows given kind fault
  missed : answer ≡ None → (other : TableFault) → kind_of other ≡ kind → Holds k rows given other → ⊥

-- searches of one kind after the other
abbrev AreSearches : FieldValue → List (List ℤ) → GivenScalars → ℕ → List (Option TableFault) → Type 0
AreSearches k rows given kind [] = Unit {0}
AreSearches k rows given kind (answer ∷ answers) = IsSearch k rows given kind answer × AreSearches k rows given (suc kind) answers

record IsFirst (k : FieldValue) (rows : List (List ℤ)) (given : GivenScalars) (kind : ℕ) (fault : TableFault) : Type 0 where
  holds : Holds k rows given fault
  from : kind ≤ kind_of fault
  first : (other : TableFault) → kind ≤ kind_of other → Holds k rows given other → IsEarlier other fault → ⊥

first_is_named : (k : FieldValue) (rows : List (List ℤ)) (given : GivenScalars) (kind : ℕ) (answers : List (Option TableFault)) → AreSearches k rows given kind answers → (fault : TableFault) → first_fault answers ≡ Some fault → IsFirst k rows given kind fault
first_is_named k rows given kind [] all fault e = cc
first_is_named k rows given kind (Some x ∷ answers) all fault e =
    let here : IsFound k rows given kind fault = all.0.found fault e in
    let same : kind_of fault ≡ kind = here.same in
    record {
      holds = here.holds;
      from = omega arith;
      first = λ other more h earlier. elim (less_parts (kind_of other) (kind_of fault) (place_of other) (place_of fault) earlier) [
        | inl less ↦ absurd (omega arith)
        | inr equal ↦ here.least other (equal.0 ∙ same) h equal.1
      ];
    }
first_is_named k rows given kind (None ∷ answers) all fault e =
    let later : IsFirst k rows given (suc kind) fault = first_is_named k rows given (suc kind) answers all.1 fault e in
    let from : suc kind ≤ kind_of fault = later.from in
    record {
      holds = later.holds;
      from = omega arith;
      first = λ other more h earlier. elim (cases_lt kind (kind_of other)) [
        | inl less ↦ later.first other (omega arith) h earlier
        | inr level ↦ all.0.missed refl other (omega arith) h
      ];
    }

kind_positive : (fault : TableFault) → 1 ≤ kind_of fault
kind_positive (letters n) = omega arith
kind_positive (rack_shape r) = omega arith
kind_positive (rack_entry i j v) = omega arith
kind_positive (not_bijective i j k v) = omega arith
kind_positive (not_distributive i j k left right) = omega arith
kind_positive (cocycle_shape r) = omega arith
kind_positive (cocycle_zero i j) = omega arith
kind_positive (not_cocycle i j k left right) = omega arith

-- ---- tests with an answer

pub wrong_by_test : {X : Type 0} (b : Bool) (x y : X) → cond b None (Some x) ≡ Some y → (b ≡ false) × (x ≡ y)
wrong_by_test true x y e = cc
wrong_by_test false x y e = (refl, cc)

some_before_map : {X Y : Type 0} (f : X → Y) (o : Option X) (y : Y) → option_map f o ≡ Some y → (x : X) × (o ≡ Some x) × (f x ≡ y)
some_before_map f None y e = cc
some_before_map f (Some x) y e = (x, refl, cc)

-- ---- the number of rows

count_wrong : (rows : List (List ℤ)) (b c : Bool) → nat_le 1 (length rows) ≡ b → nat_le (length rows) LETTER_LIMIT ≡ c → (b && c) ≡ false → (length rows ≡ 0) ⊎ (LETTER_LIMIT < length rows)
count_wrong rows true true p q e = cc
count_wrong rows true false p q e = inr (grind (arith, nat_tests, q))
count_wrong rows false c p q e = inl (let less : length rows < 1 = grind (arith, nat_tests, p) in omega arith)

search_count : (k : FieldValue) (rows : List (List ℤ)) (given : GivenScalars) → IsSearch k rows given 1 (letters_fault rows)
unfolding letters_fault
search_count k rows given = record { found = found; missed = missed }
  where
    found : (fault : TableFault) → letters_fault rows ≡ Some fault → IsFound k rows given 1 fault
    found fault e =
        let (wrong, same) = wrong_by_test (nat_le 1 (length rows) && nat_le (length rows) LETTER_LIMIT) (letters (length rows)) fault e in
        subst (IsFound k rows given 1) same (record {
          holds = (refl, count_wrong rows _ _ refl refl wrong);
          same = refl;
          least = λ other of_kind h earlier. before_nothing (place_of other) earlier;
        })

    missed : letters_fault rows ≡ None → (other : TableFault) → kind_of other ≡ 1 → Holds k rows given other → ⊥
    missed fits (letters n) of_kind h =
        let (least, most) = count_fits rows fits in
        elim h.1 [ inl none ↦ omega (arith, h.0) | inr many ↦ omega (arith, h.0) ]
    missed none other of_kind h = absurd (omega arith)

-- ---- rows of one length

record IsFirstWrongRow {X : Type 0} (n : ℕ) (rows : List (List X)) (r : ℕ) : Type 0 where
  wrong : IsWrongRow n rows r
  before : (a : ℕ) → 1 ≤ a → a < r → row_fits n rows a ≡ true

wrong_where_unfit : {X : Type 0} (n : ℕ) (rows : List (List X)) (r : ℕ) → IsLetterOf (suc n) r → row_fits n rows r ≡ false → IsWrongRow n rows r
wrong_where_unfit n rows r l e = at (nat_le r n) (nat_le r (length rows)) (nat_eq (length (row_at rows r)) n) (nat_lt (length rows) r) refl refl refl refl e
  where
    at : (a b c d : Bool) → nat_le r n ≡ a → nat_le r (length rows) ≡ b → nat_eq (length (row_at rows r)) n ≡ c → nat_lt (length rows) r ≡ d → cond a (b && c) d ≡ false → IsWrongRow n rows r
    at true true true d p q s t e = cc
    at true true false d p q s t e = inl ((l.0, grind (arith, nat_tests, p)), inr (eqb-false _ _ s))
    at true false c d p q s t e = inl ((l.0, grind (arith, nat_tests, p)), inl (grind (arith, nat_tests, q)))
    at false b c true p q s t e = cc
    at false b c false p q s t e =
        let more : n < r = grind (arith, nat_tests, p) in
        let there : r ≤ length rows = grind (arith, nat_tests, t) in
        let last : r ≤ suc n = l.1 in
        inr (omega arith, omega arith)

fits_not_wrong : {X : Type 0} (n : ℕ) (rows : List (List X)) (r : ℕ) → row_fits n rows r ≡ true → IsWrongRow n rows r → ⊥
fits_not_wrong n rows r fits (inl (l, inl less)) = let there : (r ≤ length rows) × (length (row_at rows r) ≡ n) = row_there n rows r fits l.1 in omega arith
fits_not_wrong n rows r fits (inl (l, inr other)) = other (row_there n rows r fits l.1).1
fits_not_wrong n rows r fits (inr (last, more)) = let less : length rows < r = no_row_above n rows r fits (omega arith) in omega arith

first_wrong_row : {X : Type 0} (n : ℕ) (rows : List (List X)) (r : ℕ) → wrong_row n rows ≡ Some r → IsFirstWrongRow n rows r
unfolding wrong_row
first_wrong_row n rows r e =
    let (i, letter, answers, none) = first_letter (suc n) (λ r. cond (row_fits n rows r) None (Some r)) r e in
    let (wrong, same) = wrong_by_test (row_fits n rows i) i r answers in
    subst (IsFirstWrongRow n rows) same
    (record { wrong = wrong_where_unfit n rows i letter wrong; before = λ a least less. let l : (1 ≤ i) × (i ≤ suc n) = letter in passes (row_fits n rows a) a (none a (least, omega arith) less) })

no_wrong_row : {X : Type 0} (n : ℕ) (rows : List (List X)) (r : ℕ) → wrong_row n rows ≡ None → IsWrongRow n rows r → ⊥
unfolding wrong_row
no_wrong_row n rows r none wrong = fits_not_wrong n rows r (passes (row_fits n rows r) r (no_letter_answers (suc n) (λ r. cond (row_fits n rows r) None (Some r)) none r (inside wrong))) wrong
  where
    inside : IsWrongRow n rows r → IsLetterOf (suc n) r
    inside (inl (l, h)) = (l.0, omega (arith, l.1))
    inside (inr (last, more)) = (omega arith, omega arith)

wrong_row_positive : {X : Type 0} (n : ℕ) (rows : List (List X)) (r : ℕ) → IsWrongRow n rows r → 1 ≤ r
wrong_row_positive n rows r (inl (l, h)) = l.0
wrong_row_positive n rows r (inr (last, more)) = omega arith

-- of as many rows as entries none is missing or surplus
of_another_length : (rows : List (List ℤ)) (r : ℕ) → IsWrongRow (length rows) rows r → IsLetterOf (length rows) r × (length (row_at rows r) ≢ length rows)
of_another_length rows r (inl (l, inl less)) = absurd (omega (arith, l.1))
of_another_length rows r (inl (l, inr other)) = (l, other)
of_another_length rows r (inr (last, more)) = absurd (omega arith)

search_shape : (k : FieldValue) (rows : List (List ℤ)) (given : GivenScalars) → IsSearch k rows given 2 (rack_shape_fault rows)
unfolding rack_shape_fault
search_shape k rows given = record { found = found; missed = missed }
  where
    least : (r : ℕ) → IsFirstWrongRow (length rows) rows r → (other : TableFault) → kind_of other ≡ 2 → Holds k rows given other → slice_cmp nat_cmp (place_of other) (r ∷ []) ≡ Less → ⊥
    least r first (rack_shape s) of_kind h earlier = fits_not_wrong (length rows) rows s (first.before s h.0.0 (less_one s r earlier)) (inl (h.0, inr h.1))
    least r first other of_kind h earlier = absurd (omega arith)

    found : (fault : TableFault) → rack_shape_fault rows ≡ Some fault → IsFound k rows given 2 fault
    found fault e =
        let (r, some, same) = some_before_map rack_shape (wrong_row (length rows) rows) fault e in
        let first : IsFirstWrongRow (length rows) rows r = first_wrong_row (length rows) rows r some in
        subst (IsFound k rows given 2) same (record { holds = of_another_length rows r first.wrong; same = refl; least = least r first })

    missed : rack_shape_fault rows ≡ None → (other : TableFault) → kind_of other ≡ 2 → Holds k rows given other → ⊥
    missed none (rack_shape r) of_kind h = no_wrong_row (length rows) rows r (none_before_map rack_shape (wrong_row (length rows) rows) none) (inl (h.0, inr h.1))
    missed none other of_kind h = absurd (omega arith)

search_places : (k : FieldValue) (rows : List (List ℤ)) (given : GivenScalars) → IsSearch k rows given 6 (cocycle_shape_fault (length rows) given)
unfolding cocycle_shape_fault
search_places k rows (constant v) = record { found = found; missed = missed }
  where
    found : (fault : TableFault) → cocycle_shape_fault (length rows) (constant v) ≡ Some fault → IsFound k rows (constant v) 6 fault
    found fault e = cc

    missed : cocycle_shape_fault (length rows) (constant v) ≡ None → (other : TableFault) → kind_of other ≡ 6 → Holds k rows (constant v) other → ⊥
    missed none (cocycle_shape r) of_kind h = h
    missed none other of_kind h = absurd (omega arith)
search_places k rows (table scalars) = record { found = found; missed = missed }
  where
    least : (r : ℕ) → IsFirstWrongRow (length rows) scalars r → (other : TableFault) → kind_of other ≡ 6 → Holds k rows (table scalars) other → slice_cmp nat_cmp (place_of other) (r ∷ []) ≡ Less → ⊥
    least r first (cocycle_shape s) of_kind h earlier = fits_not_wrong (length rows) scalars s (first.before s (wrong_row_positive (length rows) scalars s h) (less_one s r earlier)) h
    least r first other of_kind h earlier = absurd (omega arith)

    found : (fault : TableFault) → cocycle_shape_fault (length rows) (table scalars) ≡ Some fault → IsFound k rows (table scalars) 6 fault
    found fault e =
        let (r, some, same) = some_before_map cocycle_shape (wrong_row (length rows) scalars) fault e in
        let first : IsFirstWrongRow (length rows) scalars r = first_wrong_row (length rows) scalars r some in
        subst (IsFound k rows (table scalars) 6) same (record { holds = first.wrong; same = refl; least = least r first })

    missed : cocycle_shape_fault (length rows) (table scalars) ≡ None → (other : TableFault) → kind_of other ≡ 6 → Holds k rows (table scalars) other → ⊥
    missed none (cocycle_shape r) of_kind h = no_wrong_row (length rows) scalars r (none_before_map cocycle_shape (wrong_row (length rows) scalars) none) h
    missed none other of_kind h = absurd (omega arith)

-- ---- entries

no_letter : (n : ℕ) (v : ℤ) → is_letter n v ≡ false → (a : ℕ) → IsLetterOf n a → pos a ≢ v
no_letter n v e a l same = let d : true ≡ false = sym (letter_passes n a l) ∙ ap (is_letter n) same ∙ e in cc

a_letter : (n : ℕ) (v : ℤ) → is_letter n v ≡ true → ((a : ℕ) → IsLetterOf n a → pos a ≢ v) → ⊥
a_letter n v e none = let (l, same) = letter_is n v e in none (letter_of v) l same

search_entries : (k : FieldValue) (rows : List (List ℤ)) (given : GivenScalars) → IsSearch k rows given 3 (rack_entry_fault rows)
unfolding rack_entry_fault
search_entries k rows given = record { found = found; missed = missed }
  where
    right : (i j : ℕ) (v : ℤ) → entry_fault_at (length rows) (row_at rows i) i j ≡ None → Holds k rows given (rack_entry i j v) → ⊥
    right i j v none (li, lj, same, outside) = a_letter (length rows) v (ap (is_letter (length rows)) (sym same) ∙ passes (is_letter (length rows) (integer_at rows i j)) _ none) outside

    least : (fault : TableFault) (p : IsFirstPair (length rows) (λ i. entry_fault_at (length rows) (row_at rows i) i) fault) → (other : TableFault) → kind_of other ≡ 3 → Holds k rows given other → slice_cmp nat_cmp (place_of other) (p.i ∷ p.j ∷ []) ≡ Less → ⊥
    least fault p (rack_entry a b w) of_kind h earlier = right a b w (p.none a b h.0 h.1 (less_pair a b p.i p.j earlier)) h
    least fault p other of_kind h earlier = absurd (omega arith)

    found : (fault : TableFault) → rack_entry_fault rows ≡ Some fault → IsFound k rows given 3 fault
    found fault e =
        let p : IsFirstPair (length rows) (λ i. entry_fault_at (length rows) (row_at rows i) i) fault = pair_is (length rows) (λ i. entry_fault_at (length rows) (row_at rows i) i) fault e in
        let (wrong, same) = wrong_by_test (is_letter (length rows) (integer_at rows p.i p.j)) (rack_entry p.i p.j (integer_at rows p.i p.j)) fault p.answers in
        subst (IsFound k rows given 3) same (record { holds = (p.first, p.second, refl, no_letter (length rows) (integer_at rows p.i p.j) wrong); same = refl; least = least fault p })

    missed : rack_entry_fault rows ≡ None → (other : TableFault) → kind_of other ≡ 3 → Holds k rows given other → ⊥
    missed none (rack_entry i j v) of_kind h = right i j v (no_pair_answers (length rows) (λ i. entry_fault_at (length rows) (row_at rows i) i) none i j h.0 h.1) h
    missed none other of_kind h = absurd (omega arith)

-- ---- the rack

search_bijection : (k : FieldValue) (rows : List (List ℤ)) (given : GivenScalars) → IsSearch k rows given 4 (bijection_fault (given_rack rows))
unfolding bijection_fault
search_bijection k rows given = record { found = found; missed = missed }
  where
    right : (i j l v : ℕ) → bijection_fault_at (given_rack rows) i j l ≡ None → Holds k rows given (not_bijective i j l v) → ⊥
    right i j l v none (li, lj, ll, less, first, second) = differ (given_rack rows) i j l none less (first ∙ sym second)

    least : (fault : TableFault) (p : IsFirstTriple (length rows) (bijection_fault_at (given_rack rows)) fault) → (other : TableFault) → kind_of other ≡ 4 → Holds k rows given other → slice_cmp nat_cmp (place_of other) (p.i ∷ p.j ∷ p.k ∷ []) ≡ Less → ⊥
    least fault p (not_bijective a b c w) of_kind h earlier = right a b c w (p.none a b c h.0 h.1 h.2 (less_triple a b c p.i p.j p.k earlier)) h
    least fault p other of_kind h earlier = absurd (omega arith)

    found : (fault : TableFault) → bijection_fault (given_rack rows) ≡ Some fault → IsFound k rows given 4 fault
    found fault e =
        let p : IsFirstTriple (length rows) (bijection_fault_at (given_rack rows)) fault = ((first_triples_are_least TableFault (length rows) (bijection_fault_at (given_rack rows))).0 fault).0 e in
        let (wrong, same) = cond_some (nat_lt p.j p.k && nat_eq (image (given_rack rows) p.i p.j) (image (given_rack rows) p.i p.k)) (not_bijective p.i p.j p.k (image (given_rack rows) p.i p.j)) fault p.answers in
        let less : nat_lt p.j p.k ≡ true = first_so (nat_lt p.j p.k) _ wrong in
        let equal : nat_eq (image (given_rack rows) p.i p.j) (image (given_rack rows) p.i p.k) ≡ true = second_so (nat_lt p.j p.k) _ wrong in
        subst (IsFound k rows given 4) same (record {
          holds = (p.first, p.second, p.third, (let h : p.j < p.k = grind (arith, nat_tests, less) in h), refl, sym ((Decides-eqb _ _).0 equal));
          same = refl;
          least = least fault p;
        })

    missed : bijection_fault (given_rack rows) ≡ None → (other : TableFault) → kind_of other ≡ 4 → Holds k rows given other → ⊥
    missed none (not_bijective i j l v) of_kind h = right i j l v (no_triple_answers (length rows) (bijection_fault_at (given_rack rows)) none i j l h.0 h.1 h.2) h
    missed none other of_kind h = absurd (omega arith)

-- two sides that are one are no fault
one_side : (x y left right : ℕ) → nat_eq x y ≡ true → x ≡ left → y ≡ right → left ≢ right → ⊥
one_side x y left right test first second other = other (sym first ∙ (Decides-eqb x y).0 test ∙ second)

search_distributivity : (k : FieldValue) (rows : List (List ℤ)) (given : GivenScalars) → IsSearch k rows given 5 (distributivity_fault (given_rack rows))
unfolding distributivity_fault
search_distributivity k rows given = record { found = found; missed = missed }
  where
    right : (i j l u v : ℕ) → distributivity_fault_at (given_rack rows) i j l ≡ None → Holds k rows given (not_distributive i j l u v) → ⊥
    right i j l u v none (li, lj, ll, first, second, other) = one_side _ _ u v (passes (nat_eq (image (given_rack rows) i (image (given_rack rows) j l)) (image (given_rack rows) (image (given_rack rows) i j) (image (given_rack rows) i l))) _ none) first second other

    least : (fault : TableFault) (p : IsFirstTriple (length rows) (distributivity_fault_at (given_rack rows)) fault) → (other : TableFault) → kind_of other ≡ 5 → Holds k rows given other → slice_cmp nat_cmp (place_of other) (p.i ∷ p.j ∷ p.k ∷ []) ≡ Less → ⊥
    least fault p (not_distributive a b c u v) of_kind h earlier = right a b c u v (p.none a b c h.0 h.1 h.2 (less_triple a b c p.i p.j p.k earlier)) h
    least fault p other of_kind h earlier = absurd (omega arith)

    found : (fault : TableFault) → distributivity_fault (given_rack rows) ≡ Some fault → IsFound k rows given 5 fault
    found fault e =
        let p : IsFirstTriple (length rows) (distributivity_fault_at (given_rack rows)) fault = ((first_triples_are_least TableFault (length rows) (distributivity_fault_at (given_rack rows))).0 fault).0 e in
        let u : ℕ = image (given_rack rows) p.i (image (given_rack rows) p.j p.k) in
        let v : ℕ = image (given_rack rows) (image (given_rack rows) p.i p.j) (image (given_rack rows) p.i p.k) in
        let (wrong, same) = wrong_by_test (nat_eq u v) (not_distributive p.i p.j p.k u v) fault p.answers in
        subst (IsFound k rows given 5) same (record { holds = (p.first, p.second, p.third, refl, refl, eqb-false u v wrong); same = refl; least = least fault p })

    missed : distributivity_fault (given_rack rows) ≡ None → (other : TableFault) → kind_of other ≡ 5 → Holds k rows given other → ⊥
    missed none (not_distributive i j l u v) of_kind h = right i j l u v (no_triple_answers (length rows) (distributivity_fault_at (given_rack rows)) none i j l h.0 h.1 h.2) h
    missed none other of_kind h = absurd (omega arith)

-- ---- the scalars

search_zero : (k : FieldValue) (rows : List (List ℤ)) (given : GivenScalars) → IsSearch k rows given 7 (zero_fault (given_tables k rows given))
unfolding zero_fault
search_zero k rows given = record { found = found; missed = missed }
  where
    right : (i j : ℕ) → zero_fault_at (given_tables k rows given) i j ≡ None → Holds k rows given (cocycle_zero i j) → ⊥
    right i j none (li, lj, same) = nonzero_at i j (scalar (given_tables k rows given) i j) none same

    least : (fault : TableFault) (p : IsFirstPair (length rows) (zero_fault_at (given_tables k rows given)) fault) → (other : TableFault) → kind_of other ≡ 7 → Holds k rows given other → slice_cmp nat_cmp (place_of other) (p.i ∷ p.j ∷ []) ≡ Less → ⊥
    least fault p (cocycle_zero a b) of_kind h earlier = right a b (p.none a b h.0 h.1 (less_pair a b p.i p.j earlier)) h
    least fault p other of_kind h earlier = absurd (omega arith)

    found : (fault : TableFault) → zero_fault (given_tables k rows given) ≡ Some fault → IsFound k rows given 7 fault
    found fault e =
        let p : IsFirstPair (length rows) (zero_fault_at (given_tables k rows given)) fault = pair_is (length rows) (zero_fault_at (given_tables k rows given)) fault e in
        let (wrong, same) = cond_some (nat_eq (scalar (given_tables k rows given) p.i p.j) 0) (cocycle_zero p.i p.j) fault p.answers in
        subst (IsFound k rows given 7) same (record { holds = (p.first, p.second, (Decides-eqb _ _).0 wrong); same = refl; least = least fault p })

    missed : zero_fault (given_tables k rows given) ≡ None → (other : TableFault) → kind_of other ≡ 7 → Holds k rows given other → ⊥
    missed none (cocycle_zero i j) of_kind h = right i j (no_pair_answers (length rows) (zero_fault_at (given_tables k rows given)) none i j h.0 h.1) h
    missed none other of_kind h = absurd (omega arith)

search_cocycle : (k : FieldValue) (rows : List (List ℤ)) (given : GivenScalars) → IsSearch k rows given 8 (cocycle_fault (given_tables k rows given))
unfolding cocycle_fault
search_cocycle k rows given = record { found = found; missed = missed }
  where
    right : (i j l : ℕ) (u v : Pair) → cocycle_fault_at (given_tables k rows given) i j l ≡ None → Holds k rows given (not_cocycle i j l u v) → ⊥
    right i j l u v none (li, lj, ll, first, second, other) = other (sym first ∙ ap (parts_of k) ((Decides-eqb _ _).0 (passes (nat_eq _ _) _ none)) ∙ second)

    least : (fault : TableFault) (p : IsFirstTriple (length rows) (cocycle_fault_at (given_tables k rows given)) fault) → (other : TableFault) → kind_of other ≡ 8 → Holds k rows given other → slice_cmp nat_cmp (place_of other) (p.i ∷ p.j ∷ p.k ∷ []) ≡ Less → ⊥
    least fault p (not_cocycle a b c u v) of_kind h earlier = right a b c u v (p.none a b c h.0 h.1 h.2 (less_triple a b c p.i p.j p.k earlier)) h
    least fault p other of_kind h earlier = absurd (omega arith)

    found : (fault : TableFault) → cocycle_fault (given_tables k rows given) ≡ Some fault → IsFound k rows given 8 fault
    found fault e =
        let p : IsFirstTriple (length rows) (cocycle_fault_at (given_tables k rows given)) fault = ((first_triples_are_least TableFault (length rows) (cocycle_fault_at (given_tables k rows given))).0 fault).0 e in
        let b : BraidValue = given_tables k rows given in
        let u : ℕ = times k (scalar b p.i (act b p.j p.k)) (scalar b p.j p.k) in
        let v : ℕ = times k (scalar b (act b p.i p.j) (act b p.i p.k)) (scalar b p.i p.k) in
        let (wrong, same) = wrong_by_test (nat_eq u v) (not_cocycle p.i p.j p.k (parts_of k u) (parts_of k v)) fault p.answers in
        subst (IsFound k rows given 8) same (record { holds = (p.first, p.second, p.third, refl, refl, λ e. eqb-false u v wrong (sym (element_of_parts k u) ∙ ap (element_of k) e ∙ element_of_parts k v)); same = refl; least = least fault p })

    missed : cocycle_fault (given_tables k rows given) ≡ None → (other : TableFault) → kind_of other ≡ 8 → Holds k rows given other → ⊥
    missed none (not_cocycle i j l u v) of_kind h = right i j l u v (no_triple_answers (length rows) (cocycle_fault_at (given_tables k rows given)) none i j l h.0 h.1 h.2) h
    missed none other of_kind h = absurd (omega arith)

first_faults : (k : FieldValue) (rows : List (List ℤ)) (given : GivenScalars) (fault : TableFault) → table_fault k rows given ≡ Some fault → IsFirst k rows given 1 fault
unfolding table_fault
first_faults k rows given fault e =
    first_is_named k rows given 1
    (letters_fault rows
    ∷ rack_shape_fault rows
    ∷ rack_entry_fault rows
    ∷ bijection_fault (given_rack rows)
    ∷ distributivity_fault (given_rack rows)
    ∷ cocycle_shape_fault (length rows) given
    ∷ zero_fault (given_tables k rows given)
    ∷ cocycle_fault (given_tables k rows given)
    ∷ [])
    (search_count k rows given, (search_shape k rows given, (search_entries k rows given, (search_bijection k rows given, (search_distributivity k rows given, (search_places k rows given, (search_zero k rows given, (search_cocycle k rows given, tt))))))))
    fault e

refusal : (k : FieldValue) (rows : List (List ℤ)) (given : GivenScalars) (fault : TableFault) → braid_of k rows given ≡ Err fault → table_fault k rows given ≡ Some fault
unfolding braid_of
refusal k rows given fault e = at (table_fault k rows given) e
  where
    at : (o : Option TableFault) → unless_fault o (given_tables k rows given) ≡ Err fault → o ≡ Some fault
    at None e = cc
    at (Some x) e = cc

pub first_faults_are_named : FirstFaultsAreNamed
first_faults_are_named k rows given fault e =
    let first : IsFirst k rows given 1 fault = first_faults k rows given fault (refusal k rows given fault e) in
    (first.holds, (λ other h earlier. first.first other (kind_positive other) h earlier))
