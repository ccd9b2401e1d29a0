-- What `Braid::new` answers, along each of its paths.
use Rattle.std.proofs.Common.{◌≡◌, ℕ, List, length, refl, sym, ◌∙◌, ap, ap₂, subst, Some, None, Ok, Err}
use Rattle.std.specs.Prelude.{Option, ℤ, IfSome}
use Rattle.nichols_field.specs.Field.{FieldValue, IsField}
use Rattle.nichols_braid.specs.Braid.{IsBraid}
use Rattle.nichols_braid.specs.FaultAnswers.{table_fault_in, IsFaultOrMemory, IsFault}
use Rattle.nichols_braid.specs.Faults.{TableFault, rows_fault, bijection_fault, distributivity_fault, cocycle_shape_fault, zero_fault, cocycle_fault, braid_of}
use Rattle.nichols_braid.specs.RackLaws.{law_fault}
use Rattle.nichols_braid.specs.Tables.{RackEntries, with_scalars, IsCocycleTable}
use Rattle.nichols_braid.specs.GivenScalars.{GivenScalars, AreEntriesOf}
use Rattle.nichols_braid.specs.GivenTables.{given_rack, given_cocycle, given_tables}
use Rattle.nichols_braid.specs.declared.faults.BraidFault.{BraidFault}
use Rattle.nichols_braid.specs.declared.rack_laws.RackLaw.TheVariants.{Bijective, Distributive}
use Rattle.nichols_braid.proofs.TestedTables.{faultless_is_braid}
use Rattle.nichols_braid.proofs.FirstFault.{IsRackGiven, wrong_rows, wrong_bijection, wrong_distributivity, wrong_places, wrong_scalar, wrong_law, is_accepted}
use Rattle.nichols_braid.proofs.GivenRows.{has_places, cocycle_is_table}
use Rattle.nichols_braid.proofs.RowFaults.{right_table}

-- ---- answers

-- the answer names the fault, if it isn't want of memory
abbrev pub Names : FieldValue → List (List ℤ) → GivenScalars → BraidFault → Type 0
Names k rows given e = IfSome (table_fault_in e) (λ fault. braid_of k rows given ≡ Err fault)

if_some_named : (k : FieldValue) (rows : List (List ℤ)) (given : GivenScalars) (t o : Option TableFault) → ((fault : TableFault) → o ≡ Some fault → braid_of k rows given ≡ Err fault) → IfSome t (λ fault. o ≡ Some fault) →
    IfSome t (λ fault. braid_of k rows given ≡ Err fault)
if_some_named k rows given None o refused h = tt
if_some_named k rows given (Some fault) o refused h = refused fault h

names_or_memory : (k : FieldValue) (rows : List (List ℤ)) (given : GivenScalars) (e : BraidFault) (o : Option TableFault) → ((fault : TableFault) → o ≡ Some fault → braid_of k rows given ≡ Err fault) → IsFaultOrMemory e o → Names k rows given e
names_or_memory k rows given e o refused h = if_some_named k rows given (table_fault_in e) o refused h

names_fault : (k : FieldValue) (rows : List (List ℤ)) (given : GivenScalars) (e : BraidFault) (o : Option TableFault) → ((fault : TableFault) → o ≡ Some fault → braid_of k rows given ≡ Err fault) → IsFault (Some e) o → Names k rows given e
names_fault k rows given e None refused h = cc
names_fault k rows given e (Some fault) refused h =
    let same : table_fault_in e ≡ Some fault = cc in
    subst (λ t. IfSome t (λ fault. braid_of k rows given ≡ Err fault)) (sym same) (refused fault refl)

none_of : (answer : Option BraidFault) (o : Option TableFault) → IsFault answer o → answer ≡ None → o ≡ None
none_of answer None h e = refl
none_of None (Some fault) h e = cc
none_of (Some x) (Some fault) h e = cc

-- ---- the rack

law_is_bijection : (t : RackEntries) → law_fault t Bijective ≡ bijection_fault t
unfolding law_fault bijection_fault
law_is_bijection t = refl

law_is_distributivity : (t : RackEntries) → law_fault t Distributive ≡ distributivity_fault t
unfolding law_fault distributivity_fault
law_is_distributivity t = refl

pub names_rows : (k : FieldValue) (rows : List (List ℤ)) (given : GivenScalars) (e : BraidFault) → IsFaultOrMemory e (rows_fault rows) → Names k rows given e
names_rows k rows given e h = names_or_memory k rows given e (rows_fault rows) (wrong_rows k rows given) h

-- the table that was read
pub record IsRead (rows : List (List ℤ)) (t : RackEntries) : Type 0 where
  pub value : t ≡ given_rack rows
  pub fault : rows_fault rows ≡ None

by_bijection : (rows : List (List ℤ)) (t : RackEntries) → t ≡ given_rack rows → law_fault t Bijective ≡ bijection_fault (given_rack rows)
by_bijection rows t e = law_is_bijection t ∙ ap bijection_fault e

by_distributivity : (rows : List (List ℤ)) (t : RackEntries) → t ≡ given_rack rows → law_fault t Distributive ≡ distributivity_fault (given_rack rows)
by_distributivity rows t e = law_is_distributivity t ∙ ap distributivity_fault e

pub names_bijection : (k : FieldValue) (rows : List (List ℤ)) (given : GivenScalars) (t : RackEntries) (e : BraidFault) → IsRead rows t → IsFault (Some e) (law_fault t Bijective) → Names k rows given e
names_bijection k rows given t e read h =
    names_fault k rows given e (law_fault t Bijective) (λ fault some. wrong_bijection k rows given fault read.fault (sym (by_bijection rows t read.value) ∙ some)) h

pub names_distributivity : (k : FieldValue) (rows : List (List ℤ)) (given : GivenScalars) (t : RackEntries) (answer : Option BraidFault) (e : BraidFault) → IsRead rows t → IsFault answer (law_fault t Bijective) → answer ≡ None →
    IsFault (Some e) (law_fault t Distributive) → Names k rows given e
names_distributivity k rows given t answer e read first none h =
    names_fault k rows given e (law_fault t Distributive)
    (λ fault some. wrong_distributivity k rows given fault read.fault (sym (by_bijection rows t read.value) ∙ none_of answer _ first none) (sym (by_distributivity rows t read.value) ∙ some)) h

pub is_rack : (rows : List (List ℤ)) (t : RackEntries) (first second : Option BraidFault) → IsRead rows t → IsFault first (law_fault t Bijective) → first ≡ None → IsFault second (law_fault t Distributive) → second ≡ None → IsRackGiven rows
is_rack rows t first second read b none d still =
    record {
      rows_fit = read.fault;
      bijective = sym (by_bijection rows t read.value) ∙ none_of first _ b none;
      distributive = sym (by_distributivity rows t read.value) ∙ none_of second _ d still;
    }

-- ---- the scalars

-- the fields of the table
pub count_is : (rows : List (List ℤ)) (n : ℕ) (xs : List ℕ) (t : RackEntries) → ◌≡◌ {A = RackEntries} (record { letters = n; entries = xs }) t → t ≡ given_rack rows → n ≡ length rows
count_is rows n xs t e f = ap (λ u. u.letters) (e ∙ f)

pub names_places : (k : FieldValue) (rows : List (List ℤ)) (given : GivenScalars) (n : ℕ) (e : BraidFault) → IsRackGiven rows → n ≡ length rows → IsFaultOrMemory e (cocycle_shape_fault n given) → Names k rows given e
names_places k rows given n e rack count h =
    names_or_memory k rows given e (cocycle_shape_fault n given) (λ fault some. wrong_places k rows given fault rack (ap (λ m. cocycle_shape_fault m given) (sym count) ∙ some)) h

-- the tables that were read, of n letters
pub record AreRead (k : FieldValue) (rows : List (List ℤ)) (given : GivenScalars) (t : RackEntries) (n : ℕ) (qs : List ℕ) : Type 0 where
  pub rack : IsRackGiven rows
  pub value : t ≡ given_rack rows
  pub count : n ≡ length rows
  pub scalars : qs ≡ given_cocycle k n given
  pub places : cocycle_shape_fault n given ≡ None
  pub entries : AreEntriesOf k given

pub are_read : (k : FieldValue) (rows : List (List ℤ)) (given : GivenScalars) (t : RackEntries) (n : ℕ) (xs qs : List ℕ) (first second : Option BraidFault) → IsRead rows t → ◌≡◌ {A = RackEntries} (record { letters = n; entries = xs }) t →
    IsFault first (law_fault t Bijective) → first ≡ None → IsFault second (law_fault t Distributive) → second ≡ None → qs ≡ given_cocycle k n given → cocycle_shape_fault n given ≡ None → AreEntriesOf k given → AreRead k rows given t n qs
are_read k rows given t n xs qs first second read e b none d still scalars places entries =
    record { rack = is_rack rows t first second read b none d still; value = read.value; count = count_is rows n xs t e read.value; scalars = scalars; places = places; entries = entries }

no_places : (k : FieldValue) (rows : List (List ℤ)) (given : GivenScalars) (t : RackEntries) (n : ℕ) (qs : List ℕ) → AreRead k rows given t n qs → cocycle_shape_fault (length rows) given ≡ None
no_places k rows given t n qs read = ap (λ m. cocycle_shape_fault m given) (sym read.count) ∙ read.places

tables_are : (k : FieldValue) (rows : List (List ℤ)) (given : GivenScalars) (t : RackEntries) (n : ℕ) (qs : List ℕ) → AreRead k rows given t n qs → with_scalars k t qs ≡ given_tables k rows given
tables_are k rows given t n qs read = ap₂ (with_scalars k) read.value (read.scalars ∙ ap (λ m. given_cocycle k m given) read.count)

given_is_table : (k : FieldValue) → IsField k → (rows : List (List ℤ)) (given : GivenScalars) (t : RackEntries) (n : ℕ) (qs : List ℕ) → AreRead k rows given t n qs → IsCocycleTable k (length rows) (given_cocycle k (length rows) given)
given_is_table k is rows given t n qs read = cocycle_is_table k is (length rows) given read.entries (has_places (length rows) given (no_places k rows given t n qs read))

pub scalars_are_table : (k : FieldValue) → IsField k → (rows : List (List ℤ)) (given : GivenScalars) (t : RackEntries) (n : ℕ) (qs : List ℕ) → AreRead k rows given t n qs → IsCocycleTable k t.letters qs
scalars_are_table k is rows given t n qs read =
    subst (λ b. IsCocycleTable k b.letters b.cocycle) (sym (tables_are k rows given t n qs read)) (given_is_table k is rows given t n qs read)

pub names_zero : (k : FieldValue) (rows : List (List ℤ)) (given : GivenScalars) (t : RackEntries) (n : ℕ) (qs : List ℕ) (e : BraidFault) → AreRead k rows given t n qs → IsFault (Some e) (zero_fault (with_scalars k t qs)) → Names k rows given e
names_zero k rows given t n qs e read h =
    names_fault k rows given e (zero_fault (with_scalars k t qs))
    (λ fault some. wrong_scalar k rows given fault read.rack (no_places k rows given t n qs read) (ap zero_fault (sym (tables_are k rows given t n qs read)) ∙ some)) h

pub names_law : (k : FieldValue) (rows : List (List ℤ)) (given : GivenScalars) (t : RackEntries) (n : ℕ) (qs : List ℕ) (answer : Option BraidFault) (e : BraidFault) → AreRead k rows given t n qs →
    IsFault answer (zero_fault (with_scalars k t qs)) → answer ≡ None → IsFault (Some e) (cocycle_fault (with_scalars k t qs)) → Names k rows given e
names_law k rows given t n qs answer e read first none h =
    names_fault k rows given e (cocycle_fault (with_scalars k t qs))
    (λ fault some. wrong_law k rows given fault read.rack (no_places k rows given t n qs read) (ap zero_fault (sym (tables_are k rows given t n qs read)) ∙ none_of answer _ first none) (ap cocycle_fault (sym (tables_are k rows given t n qs read)) ∙ some)) h

-- ---- the braid

-- no fault was found
pub record HasPassed (k : FieldValue) (t : RackEntries) (qs : List ℕ) : Type 0 where
  pub first : Option BraidFault
  pub second : Option BraidFault
  pub zero : IsFault first (zero_fault (with_scalars k t qs))
  pub none : first ≡ None
  pub law : IsFault second (cocycle_fault (with_scalars k t qs))
  pub still : second ≡ None

none_is_zero : (k : FieldValue) (rows : List (List ℤ)) (given : GivenScalars) (t : RackEntries) (n : ℕ) (qs : List ℕ) → AreRead k rows given t n qs → HasPassed k t qs → zero_fault (given_tables k rows given) ≡ None
none_is_zero k rows given t n qs read p = ap zero_fault (sym (tables_are k rows given t n qs read)) ∙ none_of p.first _ p.zero p.none

law_holds : (k : FieldValue) (rows : List (List ℤ)) (given : GivenScalars) (t : RackEntries) (n : ℕ) (qs : List ℕ) → AreRead k rows given t n qs → HasPassed k t qs → cocycle_fault (given_tables k rows given) ≡ None
law_holds k rows given t n qs read p = ap cocycle_fault (sym (tables_are k rows given t n qs read)) ∙ none_of p.second _ p.law p.still

kept_tables : (k : FieldValue) (rows : List (List ℤ)) (given : GivenScalars) (t : RackEntries) (n : ℕ) (xs qs : List ℕ) → AreRead k rows given t n qs → ◌≡◌ {A = RackEntries} (record { letters = n; entries = xs }) t →
    given_tables k rows given ≡ with_scalars k (record { letters = n; entries = xs }) qs
kept_tables k rows given t n xs qs read e = sym (tables_are k rows given t n qs read) ∙ ap (λ u. with_scalars k u qs) (sym e)

pub is_braid : (k : FieldValue) → IsField k → (rows : List (List ℤ)) (given : GivenScalars) (t : RackEntries) (n : ℕ) (xs qs : List ℕ) → AreRead k rows given t n qs → ◌≡◌ {A = RackEntries} (record { letters = n; entries = xs }) t → HasPassed k t qs →
    IsBraid (with_scalars k (record { letters = n; entries = xs }) qs)
is_braid k is rows given t n xs qs read e p =
    subst IsBraid (kept_tables k rows given t n xs qs read e)
    (faultless_is_braid k is (given_rack rows) (given_cocycle k (length rows) given) (right_table rows read.rack.rows_fit) read.rack.bijective read.rack.distributive (given_is_table k is rows given t n qs read) (none_is_zero k rows given t n qs read p) (law_holds k rows given t n qs read p))

pub is_made : (k : FieldValue) (rows : List (List ℤ)) (given : GivenScalars) (t : RackEntries) (n : ℕ) (xs qs : List ℕ) → AreRead k rows given t n qs → ◌≡◌ {A = RackEntries} (record { letters = n; entries = xs }) t → HasPassed k t qs →
    braid_of k rows given ≡ Ok (with_scalars k (record { letters = n; entries = xs }) qs)
is_made k rows given t n xs qs read e p =
    is_accepted k rows given read.rack (no_places k rows given t n qs read) (none_is_zero k rows given t n qs read p) (law_holds k rows given t n qs read p) ∙ ap Ok (kept_tables k rows given t n xs qs read e)
