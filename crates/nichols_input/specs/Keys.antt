-- The keys of a document.
use Rattle.std.specs.Prelude.{ℕ, Bool, ◌||◌, List, [], ◌∷◌, Option, None, Some, codes, map}
use Rattle.std.specs.List.{list_any}
use Rattle.std.specs.Str.{bytes_eq}
use Rattle.nichols_input.specs.declared.key.Key.{Key}
use Rattle.nichols_input.specs.declared.key.Key.TheVariants.{Modulus, Extension, Rack, Cocycle, Order, Expressions}

-- how a key is written
abbrev pub key_name : Key → List ℕ
key_name Modulus = codes "modulus"
key_name Extension = codes "extension"
key_name Rack = codes "rack"
key_name Cocycle = codes "cocycle"
key_name Order = codes "order"
key_name Expressions = codes "expressions"

-- the keys that each document has
abbrev pub needed_keys : List Key
needed_keys = Modulus ∷ Rack ∷ Cocycle ∷ []

-- the keys that a document may have
abbrev pub known_keys : List Key
known_keys = Modulus ∷ Extension ∷ Rack ∷ Cocycle ∷ Order ∷ Expressions ∷ []

-- whether a text is one of them
abbrev pub is_known : List ℕ → Bool
is_known text = list_any (bytes_eq text) (map key_name known_keys)

-- whether a text may be a key of a document where a further key is allowed, if one is
abbrev pub is_allowed : Option (List ℕ) → List ℕ → Bool
is_allowed None text = is_known text
is_allowed (Some further) text = is_known text || bytes_eq text further
