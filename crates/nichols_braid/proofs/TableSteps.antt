-- Tables as they are read, row by row and entry by entry.
use Rattle.std.proofs.Common.{◌≡◌, ◌≢◌, ℕ, suc, ◌+◌, ◌-◌, ◌<◌, Bool, true, false, cond, List, [], ◌∷◌, ◌++◌, map, take, length, get_or, refl, sym, ◌∙◌, ap, ap₂, arith, Some, None, nat_eq, append_assoc, append-nil, subst}
use Rattle.std.specs.Prelude.{Option, ℤ, pos, is_some, slice_index_or, IfSome}
use Rattle.std.specs.List.{flat_map, AllByRecursion}
use Rattle.std.proofs.Math.Seq.{take-suc}
use Rattle.std.proofs.lemmas.List.Elements.{All-from_recursion}
use Rattle.std.proofs.lemmas.List.{length-map, get_or-map, map-append}
use Rattle.std.proofs.lemmas.Grind.{flat_map-append}
use Rattle.std.proofs.lemmas.Bool.Decides.{Decides-eqb}
use Rattle.nichols_tensor.specs.Words.{up_to}
use Rattle.nichols_braid.specs.Braid.{BraidValue, scalar}
use Rattle.nichols_braid.specs.FaultAnswers.{table_fault_in, IsFaultOrMemory}
use Rattle.nichols_braid.specs.Faults.{TableFault, rack_entry, cocycle_zero, first_answer, row_fits, wrong_row, is_letter, entry_fault_at, rack_entry_fault, zero_fault_at}
use Rattle.nichols_braid.specs.GivenTables.{row_at, integer_in}
use Rattle.nichols_braid.specs.declared.faults.BraidFault.{BraidFault}
use Rattle.nichols_braid.proofs.GivenRows.{is_square, row_length}
use Rattle.nichols_braid.proofs.Search.{first_answer-more, first_answer-found}

-- ---- faults that are handed on

if_some : (t o p : Option TableFault) → ((fault : TableFault) → o ≡ Some fault → p ≡ Some fault) → IfSome t (λ fault. o ≡ Some fault) → IfSome t (λ fault. p ≡ Some fault)
if_some None o p h k = k
if_some (Some fault) o p h k = h fault k

pub fault_handed_on : (e : BraidFault) (o p : Option TableFault) → ((fault : TableFault) → o ≡ Some fault → p ≡ Some fault) → IsFaultOrMemory e o → IsFaultOrMemory e p
fault_handed_on e o p h k = if_some (table_fault_in e) o p h k

-- ---- rows of the right length

pub row_found : {X : Type 0} (n : ℕ) (rows : List (List X)) (r : ℕ) (b : Bool) → r < n + 1 → first_answer (λ r. cond (row_fits n rows r) None (Some r)) (up_to r) ≡ None → b ≡ row_fits n rows (r + 1) → b ≡ false → Some (r + 1) ≡ wrong_row n rows
unfolding wrong_row
row_found n rows r b less before same e =
    let here : cond (row_fits n rows (r + 1)) None (Some (r + 1)) ≡ Some (r + 1) = ap (λ t. cond t None (Some (r + 1))) (sym same ∙ e) in
    sym (first_answer-found (λ r. cond (row_fits n rows r) None (Some r)) r (suc n) (omega arith) before (ap is_some here) ∙ here)

pub row_passed : {X : Type 0} (n : ℕ) (rows : List (List X)) (r : ℕ) (b : Bool) → first_answer (λ r. cond (row_fits n rows r) None (Some r)) (up_to r) ≡ None → b ≡ row_fits n rows (r + 1) → b ≡ true →
    first_answer (λ r. cond (row_fits n rows r) None (Some r)) (up_to (r + 1)) ≡ None
row_passed n rows r b before same e = first_answer-more (λ r. cond (row_fits n rows r) None (Some r)) r before (ap (λ t. cond t None (Some (r + 1))) (sym same ∙ e))

-- ---- a row of a slice

-- row i + 1 of the rows is what was read at i
pub row_is : {X Y : Type 0} (vs : List X) (g : X → List Y) (v : X) (row : List Y) (i : ℕ) → i < length vs → v ≡ get_or vs i v → row ≡ g v → row_at (map g vs) (i + 1) ≡ row
row_is vs g v row i less same e =
    ap (λ k. slice_index_or (map g vs) k []) (let h : i + 1 - 1 ≡ i = omega arith in h)
    ∙ get_or-map g vs i v [] less ∙ ap g (sym same) ∙ sym e

pub row_has_letters : {X : Type 0} (n : ℕ) (rows : List (List X)) (row : List X) (i : ℕ) → i < n → wrong_row n rows ≡ None → row_at rows (i + 1) ≡ row → length row ≡ n
row_has_letters n rows row i less none e = ap length (sym e) ∙ row_length n rows (is_square n rows none) (i + 1) (omega arith, omega arith)

pub rows_step : {X Y : Type 0} (f : Y → ℕ) (vs : List X) (g : X → List Y) (v : X) (row : List Y) (i : ℕ) (out new : List ℕ) → i < length vs → v ≡ get_or vs i v → row ≡ g v →
    out ≡ flat_map (map f) (take i (map g vs)) → new ≡ out ++ map f row → new ≡ flat_map (map f) (take (i + 1) (map g vs))
rows_step {Y = Y} f vs g v row i out new less same e before here =
    let rows : List (List Y) = map g vs in
    let inside : i < length rows = omega (arith, length-map vs g) in
    let there : get_or rows i [] ≡ row = get_or-map g vs i v [] less ∙ ap g (sym same) ∙ sym e in
    here
    ∙ ap₂ (λ xs r. xs ++ map f r) before (sym there)
    ∙ ap (λ ys. flat_map (map f) (take i rows) ++ ys) (sym (append-nil (map f (get_or rows i []))))
    ∙ sym (flat_map-append (map f) (take i rows) (get_or rows i [] ∷ []))
    ∙ ap (flat_map (map f)) (sym (take-suc rows i [] inside))
    ∙ ap (λ k. flat_map (map f) (take k rows)) (let h : suc i ≡ i + 1 = omega arith in h)

pub row_step : {X : Type 0} (none : X) (f : X → ℕ) (row : List X) (j : ℕ) (start out new : List ℕ) (a : ℕ) → j < length row → out ≡ start ++ map f (take j row) → new ≡ out ++ a ∷ [] → a ≡ f (slice_index_or row j none) →
    new ≡ start ++ map f (take (j + 1) row)
row_step none f row j start out new a less before here e =
    here
    ∙ ap₂ (λ xs x. xs ++ x ∷ []) before e
    ∙ append_assoc start (map f (take j row)) (f (slice_index_or row j none) ∷ [])
    ∙ ap (λ ys. start ++ ys) (sym (map-append f (take j row) (slice_index_or row j none ∷ [])))
    ∙ ap (λ ys. start ++ map f ys) (sym (take-suc row j none less))
    ∙ ap (λ k. start ++ map f (take k row)) (let h : suc j ≡ j + 1 = omega arith in h)

-- ---- entries

-- column j + 1 is what was read at j
column : (row : List ℤ) (j : ℕ) → integer_in row (j + 1) ≡ slice_index_or row j (pos 0)
column row j = ap (λ k. slice_index_or row k (pos 0)) (let h : j + 1 - 1 ≡ j = omega arith in h)

entry_by : (n i j : ℕ) (row : List ℤ) (v : ℤ) → slice_index_or row j (pos 0) ≡ v → entry_fault_at n row i (j + 1) ≡ cond (is_letter n v) None (Some (rack_entry i (j + 1) v))
entry_by n i j row v e = ap (λ w. cond (is_letter n w) None (Some (rack_entry i (j + 1) w))) (column row j ∙ e)

pub entry_found : (n i j : ℕ) (row : List ℤ) (v : ℤ) → j < n → slice_index_or row j (pos 0) ≡ v → first_answer (entry_fault_at n row i) (up_to j) ≡ None → is_letter n v ≡ false → first_answer (entry_fault_at n row i) (up_to n) ≡ Some (rack_entry i (j + 1) v)
entry_found n i j row v less e before wrong =
    let here : entry_fault_at n row i (j + 1) ≡ Some (rack_entry i (j + 1) v) = entry_by n i j row v e ∙ ap (λ b. cond b None (Some (rack_entry i (j + 1) v))) wrong in
    first_answer-found (entry_fault_at n row i) j n less before (ap is_some here) ∙ here

pub entry_passed : (n i j : ℕ) (row : List ℤ) (v : ℤ) → slice_index_or row j (pos 0) ≡ v → first_answer (entry_fault_at n row i) (up_to j) ≡ None → is_letter n v ≡ true → first_answer (entry_fault_at n row i) (up_to (j + 1)) ≡ None
entry_passed n i j row v e before right = first_answer-more (entry_fault_at n row i) j before (entry_by n i j row v e ∙ ap (λ b. cond b None (Some (rack_entry i (j + 1) v))) right)

-- the search along the entries of each row
abbrev pub row_search : ℕ → List (List ℤ) → ℕ → Option TableFault
row_search n rows i = first_answer (entry_fault_at n (row_at rows i) i) (up_to n)

pub row_wrong : (n : ℕ) (rows : List (List ℤ)) (row : List ℤ) (i : ℕ) (fault : TableFault) → length rows ≡ n → i < n → row_at rows (i + 1) ≡ row → first_answer (row_search n rows) (up_to i) ≡ None →
    first_answer (entry_fault_at n row (i + 1)) (up_to n) ≡ Some fault → rack_entry_fault rows ≡ Some fault
unfolding rack_entry_fault
row_wrong n rows row i fault size less e before wrong =
    let here : row_search n rows (i + 1) ≡ Some fault = ap (λ r. first_answer (entry_fault_at n r (i + 1)) (up_to n)) e ∙ wrong in
    ap (λ m. first_answer (row_search m rows) (up_to m)) size ∙ first_answer-found (row_search n rows) i n less before (ap is_some here) ∙ here

pub row_right : (n : ℕ) (rows : List (List ℤ)) (row : List ℤ) (i : ℕ) → row_at rows (i + 1) ≡ row → first_answer (row_search n rows) (up_to i) ≡ None → first_answer (entry_fault_at n row (i + 1)) (up_to n) ≡ None →
    first_answer (row_search n rows) (up_to (i + 1)) ≡ None
row_right n rows row i e before right = first_answer-more (row_search n rows) i before (ap (λ r. first_answer (entry_fault_at n r (i + 1)) (up_to n)) e ∙ right)

pub all_right : (n : ℕ) (rows : List (List ℤ)) (i : ℕ) → length rows ≡ n → i ≡ n → first_answer (row_search n rows) (up_to i) ≡ None → rack_entry_fault rows ≡ None
unfolding rack_entry_fault
all_right n rows i size end none = ap (λ m. first_answer (row_search m rows) (up_to m)) size ∙ ap (λ m. first_answer (row_search n rows) (up_to m)) (sym end) ∙ none

-- ---- scalars

pub zero_told : (braid : BraidValue) (i j q : ℕ) → q ≡ scalar braid i j → q ≡ 0 → zero_fault_at braid i j ≡ Some (cocycle_zero i j)
zero_told braid i j q same e = ap (λ b. cond b (Some (cocycle_zero i j)) None) ((Decides-eqb (scalar braid i j) 0).1 (sym same ∙ e))

pub zero_passed : (braid : BraidValue) (i j q : ℕ) → q ≡ scalar braid i j → q ≢ 0 → zero_fault_at braid i j ≡ None
zero_passed braid i j q same nonzero = at (nat_eq (scalar braid i j) 0) refl
  where
    at : (b : Bool) → nat_eq (scalar braid i j) 0 ≡ b → cond b (Some (cocycle_zero i j)) None ≡ None
    at true e = absurd (nonzero (same ∙ (Decides-eqb (scalar braid i j) 0).0 e))
    at false e = refl

-- what holds of each row holds of the row that was read at i
pub row_of_all : {X Y : Type 0} (P : List Y → Type 0) (vs : List X) (g : X → List Y) (v : X) (row : List Y) (i : ℕ) → AllByRecursion P (map g vs) → i < length vs → v ≡ get_or vs i v → row ≡ g v → P row
row_of_all P vs g v row i all less same e =
    subst P (get_or-map g vs i v [] less ∙ ap g (sym same) ∙ sym e) (All-from_recursion P (map g vs) all i [] (omega (arith, less, length-map vs g)))
