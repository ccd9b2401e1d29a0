-- The shapes that values of a document may have.
use Rattle.std.specs.Prelude.{ℕ, ℤ, Bool, true, false, List, [], ◌∷◌, Option, None, Some, is_some, option_map, option_and_then}
use Rattle.std.specs.Option.{option_or}
use Rattle.nichols_braid.specs.GivenScalars.{GivenScalars, constant, table}
use Rattle.nichols_braid.specs.declared.entry.Entry.{Entry}
use Rattle.nichols_braid.specs.declared.entry.Entry.TheVariants.{Whole, Pair}
use Rattle.nichols_input.specs.declared.key.Key.{Key}
use Rattle.nichols_input.specs.declared.key.Key.TheVariants.{Modulus, Extension, Rack, Cocycle, Order, Expressions}
use Rattle.toml.specs.Data.{Data, Items, no_items, item, as_integer, as_str, as_array}

-- one more in front, where both are there
abbrev pub put_first : {X : Type 0} → Option X → Option (List X) → Option (List X)
put_first None rest = None
put_first (Some x) rest = option_map (λ xs. x ∷ xs) rest

-- the integers among which each item is one
abbrev pub integers_in : Items → Option (List ℤ)
integers_in no_items = Some []
integers_in (item d ds) = put_first (as_integer d) (integers_in ds)

-- an array of integers
abbrev pub as_integers : Data → Option (List ℤ)
as_integers d = option_and_then integers_in (as_array d)

-- the rows, where each item is an array of integers
abbrev pub rows_in : Items → Option (List (List ℤ))
rows_in no_items = Some []
rows_in (item d ds) = put_first (as_integers d) (rows_in ds)

-- an array of arrays of integers
abbrev pub as_rows : Data → Option (List (List ℤ))
as_rows d = option_and_then rows_in (as_array d)

-- two integers
abbrev pub two_of : List ℤ → Option (ℤ × ℤ)
two_of [] = None
two_of (u ∷ []) = None
two_of (u ∷ v ∷ []) = Some (u, v)
two_of (u ∷ v ∷ w ∷ vs) = None

-- an array of exactly two integers
abbrev pub as_pair : Data → Option (ℤ × ℤ)
as_pair d = option_and_then two_of (as_integers d)

-- a pair of integers, which is an entry only with an extension
abbrev pub as_pair_entry : Bool → Data → Option Entry
as_pair_entry false d = None
as_pair_entry true d = option_map (λ p. Pair p.0 p.1) (as_pair d)

-- an integer, or with an extension also an array of exactly two
abbrev pub as_entry : Bool → Data → Option Entry
as_entry extended d = option_or (option_map (λ v. Whole v) (as_integer d)) (as_pair_entry extended d)

-- the entries, where each item is one
abbrev pub entries_in : Bool → Items → Option (List Entry)
entries_in extended no_items = Some []
entries_in extended (item d ds) = put_first (as_entry extended d) (entries_in extended ds)

-- an array of entries
abbrev pub as_entries : Bool → Data → Option (List Entry)
as_entries extended d = option_and_then (entries_in extended) (as_array d)

-- the rows, where each item is an array of entries
abbrev pub entry_rows_in : Bool → Items → Option (List (List Entry))
entry_rows_in extended no_items = Some []
entry_rows_in extended (item d ds) = put_first (as_entries extended d) (entry_rows_in extended ds)

-- an array of arrays of entries
abbrev pub as_entry_rows : Bool → Data → Option (List (List Entry))
as_entry_rows extended d = option_and_then (entry_rows_in extended) (as_array d)

-- an entry, which stands at every place, or else an array of arrays of entries
abbrev pub as_scalars : Bool → Data → Option GivenScalars
as_scalars extended d = option_or (option_map constant (as_entry extended d)) (option_map table (as_entry_rows extended d))

-- the texts, where each item is a string
abbrev pub texts_in : Items → Option (List (List ℕ))
texts_in no_items = Some []
texts_in (item d ds) = put_first (as_str d) (texts_in ds)

-- an array of strings
abbrev pub as_texts : Data → Option (List (List ℕ))
as_texts d = option_and_then texts_in (as_array d)

-- whether a value is of the kind that a key asks for, with or without an extension
abbrev pub has_kind : Bool → Key → Data → Bool
has_kind extended Modulus d = is_some (as_integer d)
has_kind extended Extension d = is_some (as_pair d)
has_kind extended Rack d = is_some (as_rows d)
has_kind extended Cocycle d = is_some (as_scalars extended d)
has_kind extended Order d = is_some (as_integers d)
has_kind extended Expressions d = is_some (as_texts d)
