-- The slot of a word.
use Rattle.std.specs.Prelude.{ℕ, ◌+◌, ◌*◌, ◌^◌, ◌%◌, List, [], ◌∷◌}

-- the hash of a word, from what the letters before it make: each letter b makes h the number 31 h + b, modulo 2^32
unfoldable pub hash_from : ℕ → List ℕ → ℕ
hash_from h [] = h
hash_from h (b ∷ w) = hash_from ((31 * h + b) % 2 ^ 32) w

abbrev pub hash_of : List ℕ → ℕ
hash_of w = hash_from 0 w

-- the slot of a word, of so many
abbrev pub slot_of : ℕ → List ℕ → ℕ
slot_of slots w = hash_of w % slots
