-- Each braid is what the rows and scalars that give it are made to.
use Rattle.std.proofs.Common.{◌≡◌, ◌≢◌, ℕ, zero, suc, ◌+◌, ◌-◌, ◌*◌, ◌<◌, ◌≤◌, Bool, true, false, cond, ◌&&◌, List, [], ◌∷◌, ◌++◌, map, length, take, refl, sym, ◌∙◌, ap, ap₂, subst, arith, Some, None, nat_eq, nat_lt, append-nil}
use Rattle.std.specs.Prelude.{Ok, ℤ, pos, slice_index}
use Rattle.std.specs.List.{flat_map}
use Rattle.std.specs.Option.{option_map, option_or}
use Rattle.std.proofs.Math.Nat.{suc-mul}
use Rattle.std.proofs.lemmas.List.{take_all}
use Rattle.std.proofs.lemmas.Grind.{flat_map-append}
use Rattle.std.proofs.lemmas.Bool.Decides.{nat_tests, Decides-eqb}
use Rattle.nichols_field.specs.Field.{FieldValue, IsField, times, parts_of}
use Rattle.nichols_tensor.specs.Words.{up_to, IsLetterOf}
use Rattle.nichols_tensor.specs.declared.TheConstants.{LETTER_LIMIT}
use Rattle.nichols_braid.specs.Braid.{BraidValue, entry, act, scalar, IsBraid, IsRack}
use Rattle.nichols_braid.specs.Faults.{letters, rack_shape, rack_entry, not_bijective, not_distributive, cocycle_shape, cocycle_zero, not_cocycle, letters_fault, rack_shape_fault, is_letter, entry_fault_at, rack_entry_fault, rows_fault, bijection_fault_at, bijection_fault, distributivity_fault_at, distributivity_fault, cocycle_shape_fault, zero_fault_at, zero_fault, cocycle_fault_at, cocycle_fault}
use Rattle.nichols_braid.specs.TableLaws.{IsSquare, HasPlaces, IsAsGiven, BraidsAreAccepted}
use Rattle.nichols_braid.specs.Tables.{RackEntries, image, with_scalars}
use Rattle.nichols_braid.specs.GivenScalars.{GivenScalars, constant, table}
use Rattle.nichols_braid.specs.GivenTables.{row_at, integer_at, given_rack, given_cocycle, given_tables}
use Rattle.nichols_braid.proofs.AtLetters.{row_taken, same_row}
use Rattle.nichols_braid.proofs.AsGiven.{letter_at, scalar_at}
use Rattle.nichols_braid.proofs.FirstFault.{is_accepted}
use Rattle.nichols_braid.proofs.FirstAnswers.{no_triple}
use Rattle.nichols_braid.proofs.FirstPlaces.{no_pair}
use Rattle.nichols_braid.proofs.GivenRows.{IsFaultless, square_fits, letter_passes, rack_is_table, cocycle_size}

-- ---- a table is its rows, one after the other

rows_taken : (n : ℕ) (xs : List ℕ) (m : ℕ) → m * n ≤ length xs → flat_map (λ i. map (entry n xs i) (up_to n)) (up_to m) ≡ take (m * n) xs
unfolding entry
rows_taken n xs zero h = ap (λ k. take k xs) (let e : 0 ≡ 0 * n = omega arith in e)
rows_taken n xs (suc m) h =
    let row : ℕ → List ℕ = λ i. map (entry n xs i) (up_to n) in
    let more : suc m * n ≡ m * n + n = suc-mul m n in
    flat_map-append row (up_to m) (suc m ∷ [])
    ∙ ap (λ ys. ys ++ (row (suc m) ++ [])) (rows_taken n xs m (omega arith))
    ∙ ap (λ ys. take (m * n) xs ++ ys) (append-nil (row (suc m)))
    ∙ ap (λ b. take (m * n) xs ++ map (λ j. slice_index xs (b * n + (j - 1))) (up_to n)) (let e : suc m - 1 ≡ m = omega arith in e)
    ∙ row_taken xs (m * n) n (omega arith)
    ∙ ap (λ k. take k xs) (sym more)

-- the table is its entries at all letters
pub is_flat : (n : ℕ) (xs : List ℕ) → length xs ≡ n * n → flat_map (λ i. map (entry n xs i) (up_to n)) (up_to n) ≡ xs
is_flat n xs size = rows_taken n xs n (omega arith) ∙ take_all (n * n) xs (omega arith)

pub same_rows : (f g : ℕ → List ℕ) (n : ℕ) → ((i : ℕ) → IsLetterOf n i → f i ≡ g i) → flat_map f (up_to n) ≡ flat_map g (up_to n)
same_rows f g zero h = refl
same_rows f g (suc n) h =
    flat_map-append f (up_to n) (suc n ∷ [])
    ∙ ap₂ (λ xs ys. xs ++ (ys ++ [])) (same_rows f g n (λ i l. h i (l.0, omega (arith, l.1)))) (h (suc n) (omega arith, omega arith))
    ∙ sym (flat_map-append g (up_to n) (suc n ∷ []))

-- two tables with equal entries at all letters are one
same_tables : (n : ℕ) (xs ys : List ℕ) → length xs ≡ n * n → length ys ≡ n * n → ((i j : ℕ) → IsLetterOf n i → IsLetterOf n j → entry n xs i j ≡ entry n ys i j) → xs ≡ ys
same_tables n xs ys long size h =
    sym (is_flat n xs long)
    ∙ same_rows (λ i. map (entry n xs i) (up_to n)) (λ i. map (entry n ys i) (up_to n)) n (λ i li. same_row (entry n xs i) (entry n ys i) n (λ j lj. h i j li lj))
    ∙ is_flat n ys size

-- ---- rows and scalars that give a braid

rows_are_faultless : (k : FieldValue) (rows : List (List ℤ)) (given : GivenScalars) (braid : BraidValue) → IsAsGiven k rows given braid → IsFaultless rows
rows_are_faultless k rows given braid h =
    let long : length rows ≡ braid.letters = h.letters.0 in
    record {
      least = subst (λ m. 1 ≤ m) (sym long) h.lawful.least;
      most = subst (λ m. m ≤ LETTER_LIMIT) (sym long) h.lawful.most;
      square = subst (λ m. IsSquare m rows) (sym long) h.letters;
      entries = subst (λ m. (i j : ℕ) → IsLetterOf m i → IsLetterOf m j → is_letter m (integer_at rows i j) ≡ true) (sym long)
          (λ i j li lj. subst (λ v. is_letter braid.letters v ≡ true) (h.rack i j li lj) (letter_passes braid.letters (act braid i j) (h.lawful.rack.closed i j li lj)));
    }

pos_same : (a b : ℕ) → pos a ≡ pos b → a ≡ b
pos_same a b e = cc

same_rack : (k : FieldValue) (rows : List (List ℤ)) (given : GivenScalars) (braid : BraidValue) → IsAsGiven k rows given braid → (given_rack rows).entries ≡ braid.rack
same_rack k rows given braid h =
    let n : ℕ = length rows in
    let right : IsFaultless rows = rows_are_faultless k rows given braid h in
    let long : n ≡ braid.letters = h.letters.0 in
    let size : length braid.rack ≡ n * n = subst (λ m. length braid.rack ≡ m * m) (sym long) h.lawful.rack_size in
    let given_letters : (i j : ℕ) → IsLetterOf n i → IsLetterOf n j → pos (entry n braid.rack i j) ≡ integer_at rows i j =
    subst (λ m. (i j : ℕ) → IsLetterOf m i → IsLetterOf m j → pos (entry m braid.rack i j) ≡ integer_at rows i j) (sym long) h.rack in
    same_tables n (given_rack rows).entries braid.rack (rack_is_table rows right).size size
    (λ i j li lj. pos_same _ _ (letter_at rows right i j li lj ∙ sym (given_letters i j li lj)))

same_cocycle : (k : FieldValue) → IsField k → (rows : List (List ℤ)) (given : GivenScalars) (braid : BraidValue) → IsAsGiven k rows given braid → given_cocycle k (length rows) given ≡ braid.cocycle
same_cocycle k is rows given braid h =
    let n : ℕ = braid.letters in
    ap (λ m. given_cocycle k m given) h.letters.0
    ∙ same_tables n (given_cocycle k n given) braid.cocycle (cocycle_size k n given h.scalars) h.lawful.cocycle_size
    (λ i j li lj. scalar_at k n given h.scalars i j li lj ∙ sym (h.cocycle i j li lj))

same_parts : (k l : FieldValue) (n m : ℕ) (xs ys us vs : List ℕ) → k ≡ l → n ≡ m → xs ≡ ys → us ≡ vs → with_scalars k (record { letters = n; entries = xs }) us ≡ with_scalars l (record { letters = m; entries = ys }) vs
same_parts k l n m xs ys us vs a b c d = cc

same_braid : (k : FieldValue) → IsField k → (rows : List (List ℤ)) (given : GivenScalars) (braid : BraidValue) → IsAsGiven k rows given braid → given_tables k rows given ≡ braid
same_braid k is rows given braid h =
    same_parts k braid.field (length rows) braid.letters (given_rack rows).entries braid.rack (given_cocycle k (length rows) given) braid.cocycle
    (sym h.over) h.letters.0 (same_rack k rows given braid h) (same_cocycle k is rows given braid h)

-- ---- a braid has no fault

no_row_fault : (rows : List (List ℤ)) → IsFaultless rows → rows_fault rows ≡ None
unfolding letters_fault rack_shape_fault rack_entry_fault
no_row_fault rows h =
    let n : ℕ = length rows in
    ap₂ option_or (ap (λ b. cond b None (Some (letters n))) (letter_passes LETTER_LIMIT n (h.least, h.most)))
    (ap₂ option_or (ap (option_map rack_shape) (square_fits n rows h.square))
    (ap (λ o. option_or o None) (no_pair n (λ i. entry_fault_at n (row_at rows i) i) (λ i j li lj. ap (λ b. cond b None (Some (rack_entry i j (integer_at rows i j)))) (h.entries i j li lj)))))

abbrev rack_of : BraidValue → RackEntries
rack_of braid = record { letters = braid.letters; entries = braid.rack }

bijective_at : (rack : RackEntries) (i j k : ℕ) → (image rack i j ≡ image rack i k → j ≡ k) → bijection_fault_at rack i j k ≡ None
bijective_at rack i j k injective = at (nat_lt j k) (nat_eq (image rack i j) (image rack i k)) refl refl
  where
    at : (b c : Bool) → nat_lt j k ≡ b → nat_eq (image rack i j) (image rack i k) ≡ c → cond (b && c) (Some (not_bijective i j k (image rack i j))) None ≡ None
    at false c p q = refl
    at true false p q = refl
    at true true p q = absurd (let same : j ≡ k = injective ((Decides-eqb _ _).0 q) in let less : j < k = grind (arith, nat_tests, p) in omega arith)

is_bijective : (braid : BraidValue) → IsRack braid → bijection_fault (rack_of braid) ≡ None
unfolding bijection_fault
is_bijective braid is = no_triple braid.letters (bijection_fault_at (rack_of braid)) (λ i j k li lj lk. bijective_at (rack_of braid) i j k (is.injective i j k li lj lk))

is_distributive : (braid : BraidValue) → IsRack braid → distributivity_fault (rack_of braid) ≡ None
unfolding distributivity_fault
is_distributive braid is = no_triple braid.letters (distributivity_fault_at (rack_of braid)) (λ i j k li lj lk.
    ap (λ b. cond b None (Some (not_distributive i j k (act braid i (act braid j k)) (act braid (act braid i j) (act braid i k))))) ((Decides-eqb _ _).1 (is.distributive i j k li lj lk)))

no_places_fault : (n : ℕ) (given : GivenScalars) → HasPlaces n given → cocycle_shape_fault n given ≡ None
unfolding cocycle_shape_fault
no_places_fault n (constant v) places = refl
no_places_fault n (table rows) places = ap (option_map cocycle_shape) (square_fits n rows places)

nonzero_at : (i j q : ℕ) → q ≢ 0 → cond (nat_eq q 0) (Some (cocycle_zero i j)) None ≡ None
nonzero_at i j q h = at (nat_eq q 0) refl
  where
    at : (b : Bool) → nat_eq q 0 ≡ b → cond b (Some (cocycle_zero i j)) None ≡ None
    at true e = absurd (h ((Decides-eqb _ _).0 e))
    at false e = refl

is_nonzero : (braid : BraidValue) → IsBraid braid → zero_fault braid ≡ None
unfolding zero_fault
is_nonzero braid is = no_pair braid.letters (zero_fault_at braid) (λ i j li lj. nonzero_at i j (scalar braid i j) (is.cocycle.nonzero i j li lj))

is_lawful : (braid : BraidValue) → IsBraid braid → cocycle_fault braid ≡ None
unfolding cocycle_fault
is_lawful braid is = no_triple braid.letters (cocycle_fault_at braid) (λ i j k li lj lk.
    let left : ℕ = times braid.field (scalar braid i (act braid j k)) (scalar braid j k) in
    let right : ℕ = times braid.field (scalar braid (act braid i j) (act braid i k)) (scalar braid i k) in
    ap (λ b. cond b None (Some (not_cocycle i j k (parts_of braid.field left) (parts_of braid.field right)))) ((Decides-eqb left right).1 (is.cocycle.law i j k li lj lk)))

-- ---- the braid

pub braids_are_accepted : BraidsAreAccepted
braids_are_accepted k is rows given braid h =
    let same : given_tables k rows given ≡ braid = same_braid k is rows given braid h in
    let lawful : IsBraid braid = h.lawful in
    is_accepted k rows given
    (record {
      rows_fit = no_row_fault rows (rows_are_faultless k rows given braid h);
      bijective = ap (λ b. bijection_fault (rack_of b)) same ∙ is_bijective braid lawful.rack;
      distributive = ap (λ b. distributivity_fault (rack_of b)) same ∙ is_distributive braid lawful.rack;
    })
    (ap (λ m. cocycle_shape_fault m given) h.letters.0 ∙ no_places_fault braid.letters given h.scalars)
    (ap zero_fault same ∙ is_nonzero braid lawful)
    (ap cocycle_fault same ∙ is_lawful braid lawful)
    ∙ ap Ok same
