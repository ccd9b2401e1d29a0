-- The lift of a permutation in closed form: a letter is acted on by exactly those earlier ones that end to its right, the
-- nearest first, each with its original letter; the scalar is the product of all scalars met on the way.
use Rattle.std.specs.Prelude.{ℕ, List, [], ◌∷◌, length, map, if◌then◌else◌, nat_lt, nat_eq}
use Rattle.nichols_field.specs.Field.{times}
use Rattle.nichols_tensor.specs.Combination.{Term}
use Rattle.nichols_tensor.specs.Words.{up_to}
use Rattle.nichols_braid.specs.Braid.{BraidValue, act, scalar}

-- a letter with the place where it ends
abbrev pub Placed : Type 0
Placed = record { place : ℕ; letter : ℕ }

-- the letter x that ends at e, once those of the earlier letters that end to its right have acted; the nearest is the first of the list
abbrev pub acted_letter : BraidValue → List Placed → ℕ → ℕ → ℕ
acted_letter braid [] e x = x
acted_letter braid (p ∷ earlier) e x = if nat_lt e p.place then acted_letter braid earlier e (act braid p.letter x) else acted_letter braid earlier e x

-- the product of the scalars that it meets
abbrev pub acted_scalar : BraidValue → List Placed → ℕ → ℕ → ℕ
acted_scalar braid [] e x = 1
acted_scalar braid (p ∷ earlier) e x =
    if nat_lt e p.place then times braid.field (scalar braid p.letter x) (acted_scalar braid earlier e (act braid p.letter x)) else acted_scalar braid earlier e x

-- the letters of a word as they end, behind these earlier ones
abbrev pub letters_at_ends : BraidValue → List Placed → List ℕ → List ℕ → List Placed
letters_at_ends braid earlier (e ∷ ends) (x ∷ w) = record { place = e; letter = acted_letter braid earlier e x } ∷ letters_at_ends braid (record { place = e; letter = x } ∷ earlier) ends w
letters_at_ends braid earlier _ _ = []

-- the product of the scalars that they meet
abbrev pub ended_scalar : BraidValue → List Placed → List ℕ → List ℕ → ℕ
ended_scalar braid earlier (e ∷ ends) (x ∷ w) = times braid.field (acted_scalar braid earlier e x) (ended_scalar braid (record { place = e; letter = x } ∷ earlier) ends w)
ended_scalar braid earlier _ _ = 1

-- the letter that ends at a place
abbrev pub letter_at : List Placed → ℕ → ℕ
letter_at [] e = 0
letter_at (p ∷ ps) e = if nat_eq p.place e then p.letter else letter_at ps e

-- the lift, by its end places, of a word
unfoldable pub closed_form : BraidValue → List ℕ → List ℕ → Term
closed_form braid ends w = record { word = map (letter_at (letters_at_ends braid [] ends w)) (up_to (length ends)); coefficient = ended_scalar braid [] ends w }
