-- The first fault of rows and scalars, by the faults of each kind.
use Rattle.std.proofs.Common.{◌≡◌, List, [], ◌∷◌, ◌++◌, length, refl, ◌∙◌, ap, Some, None, Ok, Err}
use Rattle.std.specs.Prelude.{Option, ℤ}
use Rattle.std.specs.Option.{option_or}
use Rattle.nichols_field.specs.Field.{FieldValue}
use Rattle.nichols_braid.specs.Faults.{TableFault, first_fault, letters_fault, rack_shape_fault, rack_entry_fault, rows_fault, bijection_fault, distributivity_fault, cocycle_shape_fault, zero_fault, cocycle_fault, table_fault, unless_fault, braid_of}
use Rattle.nichols_braid.specs.GivenScalars.{GivenScalars}
use Rattle.nichols_braid.specs.GivenTables.{given_rack, given_tables}
use Rattle.nichols_braid.proofs.FirstPlaces.{none_of_both}

-- none of the eight faults
pub record HasNoFault (k : FieldValue) (rows : List (List ℤ)) (given : GivenScalars) : Type 0 where
  pub count : letters_fault rows ≡ None
  pub shape : rack_shape_fault rows ≡ None
  pub entries : rack_entry_fault rows ≡ None
  pub bijective : bijection_fault (given_rack rows) ≡ None
  pub distributive : distributivity_fault (given_rack rows) ≡ None
  pub places : cocycle_shape_fault (length rows) given ≡ None
  pub nonzero : zero_fault (given_tables k rows given) ≡ None
  pub lawful : cocycle_fault (given_tables k rows given) ≡ None

pub no_fault_of_rows : (rows : List (List ℤ)) → rows_fault rows ≡ None → (letters_fault rows ≡ None) × (rack_shape_fault rows ≡ None) × (rack_entry_fault rows ≡ None)
no_fault_of_rows rows e =
    let (count, rest) = none_of_both (letters_fault rows) _ e in
    let (shape, last) = none_of_both (rack_shape_fault rows) _ rest in
    let (entries, end) = none_of_both (rack_entry_fault rows) _ last in
    (count, shape, entries)

pub no_fault : (k : FieldValue) (rows : List (List ℤ)) (given : GivenScalars) → table_fault k rows given ≡ None → HasNoFault k rows given
unfolding table_fault
no_fault k rows given e =
    let (count, a) = none_of_both (letters_fault rows) _ e in
    let (shape, b) = none_of_both (rack_shape_fault rows) _ a in
    let (entries, c) = none_of_both (rack_entry_fault rows) _ b in
    let (bijective, d) = none_of_both (bijection_fault (given_rack rows)) _ c in
    let (distributive, f) = none_of_both (distributivity_fault (given_rack rows)) _ d in
    let (places, g) = none_of_both (cocycle_shape_fault (length rows) given) _ f in
    let (nonzero, h) = none_of_both (zero_fault (given_tables k rows given)) _ g in
    let (lawful, end) = none_of_both (cocycle_fault (given_tables k rows given)) _ h in
    record { count = count; shape = shape; entries = entries; bijective = bijective; distributive = distributive; places = places; nonzero = nonzero; lawful = lawful }

-- ---- one kind after the other

first_of : (faults more : List (Option TableFault)) (fault : TableFault) → first_fault faults ≡ Some fault → first_fault (faults ++ more) ≡ Some fault
first_of [] more fault e = cc
first_of (None ∷ faults) more fault e = first_of faults more fault e
first_of (Some x ∷ faults) more fault e = e

none_of : (faults more : List (Option TableFault)) → first_fault faults ≡ None → first_fault (faults ++ more) ≡ first_fault more
none_of [] more e = refl
none_of (None ∷ faults) more e = none_of faults more e
none_of (Some x ∷ faults) more e = cc

stop : (o : Option TableFault) (more : List (Option TableFault)) (fault : TableFault) → o ≡ Some fault → first_fault (o ∷ more) ≡ Some fault
stop o more fault e = ap (λ p. option_or p (first_fault more)) e

skip : (o : Option TableFault) (more : List (Option TableFault)) → o ≡ None → first_fault (o ∷ more) ≡ first_fault more
skip o more e = ap (λ p. option_or p (first_fault more)) e

abbrev from_law : FieldValue → List (List ℤ) → GivenScalars → List (Option TableFault)
from_law k rows given = cocycle_fault (given_tables k rows given) ∷ []

abbrev from_zero : FieldValue → List (List ℤ) → GivenScalars → List (Option TableFault)
from_zero k rows given = zero_fault (given_tables k rows given) ∷ from_law k rows given

abbrev from_places : FieldValue → List (List ℤ) → GivenScalars → List (Option TableFault)
from_places k rows given = cocycle_shape_fault (length rows) given ∷ from_zero k rows given

abbrev from_distributivity : FieldValue → List (List ℤ) → GivenScalars → List (Option TableFault)
from_distributivity k rows given = distributivity_fault (given_rack rows) ∷ from_places k rows given

abbrev from_bijection : FieldValue → List (List ℤ) → GivenScalars → List (Option TableFault)
from_bijection k rows given = bijection_fault (given_rack rows) ∷ from_distributivity k rows given

after_rows : (k : FieldValue) (rows : List (List ℤ)) (given : GivenScalars) → rows_fault rows ≡ None → table_fault k rows given ≡ first_fault (from_bijection k rows given)
unfolding table_fault
after_rows k rows given e = none_of (letters_fault rows ∷ rack_shape_fault rows ∷ rack_entry_fault rows ∷ []) (from_bijection k rows given) e

-- rows and the rack's two laws have no fault
pub record IsRackGiven (rows : List (List ℤ)) : Type 0 where
  pub rows_fit : rows_fault rows ≡ None
  pub bijective : bijection_fault (given_rack rows) ≡ None
  pub distributive : distributivity_fault (given_rack rows) ≡ None

after_rack : (k : FieldValue) (rows : List (List ℤ)) (given : GivenScalars) → IsRackGiven rows → table_fault k rows given ≡ first_fault (from_places k rows given)
after_rack k rows given h =
    after_rows k rows given h.rows_fit
    ∙ skip (bijection_fault (given_rack rows)) (from_distributivity k rows given) h.bijective
    ∙ skip (distributivity_fault (given_rack rows)) (from_places k rows given) h.distributive

is_refused : (k : FieldValue) (rows : List (List ℤ)) (given : GivenScalars) (fault : TableFault) → table_fault k rows given ≡ Some fault → braid_of k rows given ≡ Err fault
unfolding braid_of
is_refused k rows given fault e = ap (λ o. unless_fault o (given_tables k rows given)) e

pub wrong_rows : (k : FieldValue) (rows : List (List ℤ)) (given : GivenScalars) (fault : TableFault) → rows_fault rows ≡ Some fault → braid_of k rows given ≡ Err fault
unfolding table_fault
wrong_rows k rows given fault e =
    is_refused k rows given fault (first_of (letters_fault rows ∷ rack_shape_fault rows ∷ rack_entry_fault rows ∷ []) (from_bijection k rows given) fault e)

pub wrong_bijection : (k : FieldValue) (rows : List (List ℤ)) (given : GivenScalars) (fault : TableFault) → rows_fault rows ≡ None → bijection_fault (given_rack rows) ≡ Some fault → braid_of k rows given ≡ Err fault
wrong_bijection k rows given fault r e =
    is_refused k rows given fault (after_rows k rows given r ∙ stop (bijection_fault (given_rack rows)) (from_distributivity k rows given) fault e)

pub wrong_distributivity : (k : FieldValue) (rows : List (List ℤ)) (given : GivenScalars) (fault : TableFault) → rows_fault rows ≡ None → bijection_fault (given_rack rows) ≡ None →
    distributivity_fault (given_rack rows) ≡ Some fault → braid_of k rows given ≡ Err fault
wrong_distributivity k rows given fault r b e =
    is_refused k rows given fault (
    after_rows k rows given r
    ∙ skip (bijection_fault (given_rack rows)) (from_distributivity k rows given) b
    ∙ stop (distributivity_fault (given_rack rows)) (from_places k rows given) fault e
    )

pub wrong_places : (k : FieldValue) (rows : List (List ℤ)) (given : GivenScalars) (fault : TableFault) → IsRackGiven rows → cocycle_shape_fault (length rows) given ≡ Some fault → braid_of k rows given ≡ Err fault
wrong_places k rows given fault h e =
    is_refused k rows given fault (after_rack k rows given h ∙ stop (cocycle_shape_fault (length rows) given) (from_zero k rows given) fault e)

pub wrong_scalar : (k : FieldValue) (rows : List (List ℤ)) (given : GivenScalars) (fault : TableFault) → IsRackGiven rows → cocycle_shape_fault (length rows) given ≡ None →
    zero_fault (given_tables k rows given) ≡ Some fault → braid_of k rows given ≡ Err fault
wrong_scalar k rows given fault h places e =
    is_refused k rows given fault (
    after_rack k rows given h
    ∙ skip (cocycle_shape_fault (length rows) given) (from_zero k rows given) places
    ∙ stop (zero_fault (given_tables k rows given)) (from_law k rows given) fault e
    )

pub wrong_law : (k : FieldValue) (rows : List (List ℤ)) (given : GivenScalars) (fault : TableFault) → IsRackGiven rows → cocycle_shape_fault (length rows) given ≡ None →
    zero_fault (given_tables k rows given) ≡ None → cocycle_fault (given_tables k rows given) ≡ Some fault → braid_of k rows given ≡ Err fault
wrong_law k rows given fault h places nonzero e =
    is_refused k rows given fault (
    after_rack k rows given h
    ∙ skip (cocycle_shape_fault (length rows) given) (from_zero k rows given) places
    ∙ skip (zero_fault (given_tables k rows given)) (from_law k rows given) nonzero
    ∙ stop (cocycle_fault (given_tables k rows given)) [] fault e
    )

pub is_accepted : (k : FieldValue) (rows : List (List ℤ)) (given : GivenScalars) → IsRackGiven rows → cocycle_shape_fault (length rows) given ≡ None →
    zero_fault (given_tables k rows given) ≡ None → cocycle_fault (given_tables k rows given) ≡ None → braid_of k rows given ≡ Ok (given_tables k rows given)
unfolding braid_of
is_accepted k rows given h places nonzero lawful =
    ap (λ o. unless_fault o (given_tables k rows given)) (
    after_rack k rows given h
    ∙ skip (cocycle_shape_fault (length rows) given) (from_zero k rows given) places
    ∙ skip (zero_fault (given_tables k rows given)) (from_law k rows given) nonzero
    ∙ skip (cocycle_fault (given_tables k rows given)) [] lawful
    )
