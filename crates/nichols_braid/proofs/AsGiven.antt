-- What is accepted is a braid, which has the given rows and scalars as its tables.
use Rattle.std.proofs.Common.{◌≡◌, ℕ, ◌+◌, ◌-◌, ◌*◌, List, length, refl, ◌∙◌, ap, subst, Some, None, Ok}
use Rattle.std.specs.Prelude.{Option, ℤ, pos}
use Rattle.std.proofs.lemmas.List.{get_or-replicate}
use Rattle.nichols_field.specs.Field.{FieldValue}
use Rattle.nichols_tensor.specs.Words.{IsLetterOf}
use Rattle.nichols_braid.specs.Braid.{BraidValue, entry}
use Rattle.nichols_braid.specs.Faults.{TableFault, table_fault, unless_fault, braid_of}
use Rattle.nichols_braid.specs.TableLaws.{HasPlaces, IsAsGiven, AcceptedTablesAreBraids}
use Rattle.nichols_braid.specs.GivenEntries.{given_element}
use Rattle.nichols_braid.specs.GivenScalars.{GivenScalars, constant, table}
use Rattle.nichols_braid.specs.GivenTables.{integer_at, no_entry, given_entry, letter_of, given_rack, given_cocycle, given_tables}
use Rattle.nichols_braid.proofs.TestedTables.{place_inside, faultless_is_braid}
use Rattle.nichols_braid.proofs.FirstFault.{HasNoFault, no_fault}
use Rattle.nichols_braid.proofs.GivenRows.{IsFaultless, faultless, entry_at, letter_is, rack_is_table, has_places, cocycle_is_table}

pub letter_at : (rows : List (List ℤ)) → IsFaultless rows → (i j : ℕ) → IsLetterOf (length rows) i → IsLetterOf (length rows) j →
    pos (entry (length rows) (given_rack rows).entries i j) ≡ integer_at rows i j
letter_at rows h i j li lj = ap pos (entry_at (pos 0) letter_of (length rows) rows h.square i j li lj) ∙ (letter_is (length rows) (integer_at rows i j) (h.entries i j li lj)).1

pub scalar_at : (k : FieldValue) (n : ℕ) (given : GivenScalars) → HasPlaces n given → (i j : ℕ) → IsLetterOf n i → IsLetterOf n j → entry n (given_cocycle k n given) i j ≡ given_element k (given_entry given i j)
unfolding entry
scalar_at k n (constant v) places i j li lj = get_or-replicate (n * n) ((i - 1) * n + (j - 1)) (given_element k v) 0 (place_inside n i j li lj)
scalar_at k n (table rows) places i j li lj = entry_at no_entry (given_element k) n rows places i j li lj

-- what is accepted has no fault, and the tables as they are given
without_fault : (k : FieldValue) (rows : List (List ℤ)) (given : GivenScalars) (braid : BraidValue) → braid_of k rows given ≡ Ok braid → HasNoFault k rows given × (given_tables k rows given ≡ braid)
unfolding braid_of
without_fault k rows given braid e = at (table_fault k rows given) refl e
  where
    at : (o : Option TableFault) → table_fault k rows given ≡ o → unless_fault o (given_tables k rows given) ≡ Ok braid → HasNoFault k rows given × (given_tables k rows given ≡ braid)
    at None none e = (no_fault k rows given none, cc)
    at (Some fault) some e = cc

pub accepted_tables_are_braids : AcceptedTablesAreBraids
accepted_tables_are_braids k is rows given of braid e =
    let (faults, same) = without_fault k rows given braid e in
    let right : IsFaultless rows = faultless rows faults.count faults.shape faults.entries in
    let places : HasPlaces (length rows) given = has_places (length rows) given faults.places in
    subst (IsAsGiven k rows given) same (record {
      lawful = faultless_is_braid k is (given_rack rows) (given_cocycle k (length rows) given) (rack_is_table rows right) faults.bijective faults.distributive (cocycle_is_table k is (length rows) given of places) faults.nonzero faults.lawful;
      over = refl;
      letters = right.square;
      scalars = places;
      rack = letter_at rows right;
      cocycle = scalar_at k (length rows) given places;
    })
