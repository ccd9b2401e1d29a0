-- What a rule says of a word.
use Rattle.std.specs.Prelude.{◌≡◌, ◌↔◌, ◌≤◌, ◌<◌, ℕ, List, [], ◌∷◌, ◌++◌, length, slice_index_or, Option, None, Some}
use Rattle.std.specs.List.{Contains}
use Rattle.nichols_tensor.specs.Combination.{Combination}
use Rattle.nichols_tensor.specs.Positions.{word_at}
use Rattle.nichols_tensor.specs.Relation.{PlainRelation}
use Rattle.nichols_braid.specs.Forms.{candidates_of}
use Rattle.nichols_value.specs.declared.form.Looked.{Looked}
use Rattle.nichols_value.specs.declared.form.Looked.TheVariants.{Basis, Form, NotHere}
use Rattle.nichols_value.specs.Rule.{PlainRule, below_in, right_in}

-- a word with its form, as a relation
abbrev pub with_form : List ℕ → Combination → PlainRelation
with_form w f = record { candidate = w; form = f }

-- the answer says of the word that it is in the basis exactly where it is; that it is the candidate of a relation with some form
-- exactly where it is, and isn't in the basis; and that it is neither exactly where it is neither
pub record IsLooked (r : PlainRule) (w : List ℕ) (looked : Looked) : Type 0 where
  pub basis : (looked ≡ Basis) ↔ Contains r.basis w
  pub form : (f : Combination) → (looked ≡ Form f) ↔ ((Contains r.basis w → ⊥) × Contains r.table (with_form w f))
  pub not_here : (looked ≡ NotHere) ↔ ((Contains r.basis w → ⊥) × (Contains (candidates_of r.table) w → ⊥))

-- the word is the k-th word of the lower block by b with b behind, and this is its form
pub record IsFormAt (r : PlainRule) (w : List ℕ) (f : Combination) (b k : ℕ) : Type 0 where
  pub some : 1 ≤ b
  pub most : b ≤ length r.below
  pub place : k < length (below_in r b)
  pub word : w ≡ word_at (below_in r b) k ++ b ∷ []
  pub form : f ≡ slice_index_or (right_in r b) k []

-- it is a word of a lower block by a letter with that letter behind, and this is its form; or it is none
abbrev pub IsFormBelow : PlainRule → List ℕ → Option Combination → Type 0
IsFormBelow r w (Some f) = (b : ℕ) × (k : ℕ) × IsFormAt r w f b k
IsFormBelow r w None = (b : ℕ) (u : List ℕ) → 1 ≤ b → b ≤ length r.below → Contains (below_in r b) u → w ≡ u ++ b ∷ [] → ⊥
