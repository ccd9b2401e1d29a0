-- The entries that are read: pairs only with an extension.
use Rattle.std.proofs.Common.{◌≡◌, ℤ, Bool, true, false, List, [], ◌∷◌, Option, None, Some, option_map, refl, ap, subst, sym}
use Rattle.std.specs.Prelude.{IsTrue, is_some, option_and_then}
use Rattle.std.specs.Option.{option_or}
use Rattle.std.specs.List.{AllByRecursion}
use Rattle.nichols_field.specs.Field.{FieldValue, is_extended}
use Rattle.nichols_braid.specs.GivenEntries.{IsEntryOf}
use Rattle.nichols_braid.specs.GivenScalars.{GivenScalars, constant, table, AreEntriesOf}
use Rattle.nichols_braid.specs.declared.entry.Entry.{Entry}
use Rattle.nichols_braid.specs.declared.entry.Entry.TheVariants.{Whole, Pair}
use Rattle.nichols_input.specs.Shapes.{put_first, as_pair, as_pair_entry, as_entry, entries_in, as_entries, entry_rows_in, as_entry_rows, as_scalars}
use Rattle.nichols_input.specs.Document.{may_be}
use Rattle.nichols_input.specs.Tables.{IsEntryIf, AreEntriesIf}
use Rattle.toml.specs.Data.{Data, Items, no_items, item, as_integer, as_array}

entry_is : (b : Bool) (d : Data) (e : Entry) → as_entry b d ≡ Some e → IsEntryIf b e
entry_is b d e is = at (as_integer d) b is
  where
    by_pair : (p : Option (ℤ × ℤ)) → option_map (λ q. Pair q.0 q.1) p ≡ Some e → IsEntryIf true e
    by_pair None is = absurd cc
    by_pair (Some q) is = let same : Pair q.0 q.1 ≡ e = cc in subst (IsEntryIf true) same refl

    at : (o : Option ℤ) (b : Bool) → option_or (option_map (λ v. Whole v) o) (as_pair_entry b d) ≡ Some e → IsEntryIf b e
    at (Some v) b is = let same : Whole v ≡ e = cc in subst (IsEntryIf b) same tt
    at None false is = absurd cc
    at None true is = by_pair (as_pair d) is

all_put : {X : Type 0} (P : X → Type 0) (o : Option X) (rest : Option (List X)) → ((x : X) → o ≡ Some x → P x) → ((xs : List X) → rest ≡ Some xs → AllByRecursion P xs) → (ys : List X) → put_first o rest ≡ Some ys → AllByRecursion P ys
all_put P None rest one more ys is = absurd cc
all_put P (Some x) None one more ys is = absurd cc
all_put P (Some x) (Some xs) one more ys is = let same : x ∷ xs ≡ ys = cc in subst (AllByRecursion P) same (one x refl, more xs refl)

all_in_array : {X : Type 0} (P : X → Type 0) (read : Items → Option (List X)) (o : Option Items) → ((ds : Items) (xs : List X) → read ds ≡ Some xs → AllByRecursion P xs) → (xs : List X) → option_and_then read o ≡ Some xs → AllByRecursion P xs
all_in_array P read None all xs is = absurd cc
all_in_array P read (Some ds) all xs is = all ds xs is

entries_are : (b : Bool) (ds : Items) (es : List Entry) → entries_in b ds ≡ Some es → AllByRecursion (IsEntryIf b) es
entries_are b no_items es is = let same : [] ≡ es = cc in subst (AllByRecursion (IsEntryIf b)) same tt
entries_are b (item d ds) es is = all_put (IsEntryIf b) (as_entry b d) (entries_in b ds) (entry_is b d) (entries_are b ds) es is

row_is : (b : Bool) (d : Data) (es : List Entry) → as_entries b d ≡ Some es → AllByRecursion (IsEntryIf b) es
row_is b d es is = all_in_array (IsEntryIf b) (entries_in b) (as_array d) (entries_are b) es is

rows_are : (b : Bool) (ds : Items) (rows : List (List Entry)) → entry_rows_in b ds ≡ Some rows → AllByRecursion (AllByRecursion (IsEntryIf b)) rows
rows_are b no_items rows is = let same : [] ≡ rows = cc in subst (AllByRecursion (AllByRecursion (IsEntryIf b))) same tt
rows_are b (item d ds) rows is = all_put (AllByRecursion (IsEntryIf b)) (as_entries b d) (entry_rows_in b ds) (row_is b d) (rows_are b ds) rows is

-- the scalars that are read have pairs only with an extension
pub scalars_are : (b : Bool) (o : Option Data) (s : GivenScalars) → Some s ≡ option_and_then (as_scalars b) o → AreEntriesIf b s
scalars_are b None s is = absurd cc
scalars_are b (Some d) s is = at (as_entry b d) (entry_is b d) (sym is)
  where
    by_rows : (r : Option (List (List Entry))) → ((rows : List (List Entry)) → r ≡ Some rows → AllByRecursion (AllByRecursion (IsEntryIf b)) rows) → option_map table r ≡ Some s → AreEntriesIf b s
    by_rows None all is = absurd cc
    by_rows (Some rows) all is = let same : table rows ≡ s = cc in subst (AreEntriesIf b) same (all rows refl)

    at : (o : Option Entry) → ((e : Entry) → o ≡ Some e → IsEntryIf b e) → option_or (option_map constant o) (option_map table (as_entry_rows b d)) ≡ Some s → AreEntriesIf b s
    at (Some e) one is = let same : constant e ≡ s = cc in subst (AreEntriesIf b) same (one e refl)
    at None one is = by_rows (as_entry_rows b d) (all_in_array (AllByRecursion (IsEntryIf b)) (entry_rows_in b) (as_array d) (rows_are b)) is

all_weaker : {X : Type 0} (P Q : X → Type 0) → ((x : X) → P x → Q x) → (xs : List X) → AllByRecursion P xs → AllByRecursion Q xs
all_weaker P Q weaken [] h = tt
all_weaker P Q weaken (x ∷ xs) h = (weaken x h.0, all_weaker P Q weaken xs h.1)

-- they stand for elements of the field
pub entries_of_field : (field : FieldValue) (b : Bool) → (IsTrue b → IsTrue (is_extended field)) → (s : GivenScalars) → AreEntriesIf b s → AreEntriesOf field s
entries_of_field field b has s h = at s h
  where
    one : (e : Entry) → IsEntryIf b e → IsEntryOf field e
    one (Whole v) h = tt
    one (Pair u v) h = has h

    at : (s : GivenScalars) → AreEntriesIf b s → AreEntriesOf field s
    at (constant e) h = one e h
    at (table rows) h = all_weaker (AllByRecursion (IsEntryIf b)) (AllByRecursion (IsEntryOf field)) (all_weaker (IsEntryIf b) (IsEntryOf field) one) rows h

-- a value that may be left out is read as one that is there exactly where it is
pub is_some-may_be : {X : Type 0} (shape : Data → Option X) (o : Option Data) (x : Option X) → Some x ≡ may_be shape o → is_some x ≡ is_some o
is_some-may_be shape None x is = let same : x ≡ None = cc in ap is_some same
is_some-may_be {X} shape (Some d) x is = at (shape d) is
  where
    at : (r : Option X) → Some x ≡ option_map (λ y. Some y) r → is_some x ≡ true
    at None is = absurd cc
    at (Some y) is = let same : x ≡ Some y = cc in ap is_some same
