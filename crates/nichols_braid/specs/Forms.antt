-- Forms of candidates, read from a table of relations, and the derivatives of candidates by them.
use Rattle.std.specs.Prelude.{ℕ, zero, suc, List, [], ◌∷◌, ◌++◌, map, if◌then◌else◌, nat_eq}
use Rattle.std.specs.List.{AllByRecursion}
use Rattle.nichols_field.specs.Field.{FieldValue}
use Rattle.nichols_tensor.specs.Combination.{Combination, AllElements, same_letters, single, scalar_multiple, linear_map}
use Rattle.nichols_tensor.specs.Relation.{PlainRelation}
use Rattle.nichols_tensor.specs.WordOrder.{IsRising}
use Rattle.nichols_braid.specs.Braid.{BraidValue, act, scalar}
use Rattle.nichols_braid.specs.Derivation.{skew_derivative}
use Rattle.nichols_braid.specs.Kernel.{Vanishing}
use Rattle.nichols_braid.specs.Least.{normal_form}

-- the candidates of a table of relations
abbrev pub candidates_of : List PlainRelation → List (List ℕ)
candidates_of table = map (λ r. r.candidate) table

-- the candidates rise, and each coefficient is an element of the field
pub record IsTable (field : FieldValue) (table : List PlainRelation) : Type 0 where
  pub rising : IsRising (candidates_of table)
  pub elements : AllByRecursion (λ r. AllElements field r.form) table

-- the form of a candidate: that of its relation, or the candidate itself where it has none
unfoldable pub form_in : List PlainRelation → List ℕ → Combination
form_in [] w = single w
form_in (r ∷ table) w = if same_letters r.candidate w then r.form else form_in table w

-- f x_c, with the form of each of its words
abbrev pub followed_form : FieldValue → List PlainRelation → Combination → ℕ → Combination
followed_form field table f c = linear_map field (λ v. form_in table (v ++ c ∷ [])) f

-- `[a = b] u + q(a, b) f x_{a ▷ b}` with the form of each word, where f stands for `∂_a u`: the derivative by a of `u x_b`
unfoldable pub derived_from : BraidValue → List PlainRelation → List ℕ → Combination → ℕ → ℕ → Combination
derived_from braid table u f a b =
    (if nat_eq a b then single u else []) ++ scalar_multiple braid.field (scalar braid a b) (followed_form braid.field table f (act braid a b))

-- the normal form of the derivative by a of a word of degree m; a word of degree 0 has the derivative 0
unfoldable pub derived_form : Vanishing → BraidValue → ℕ → List ℕ → ℕ → Combination
derived_form vanishes braid zero w a = []
derived_form vanishes braid (suc m) w a = normal_form vanishes braid m (skew_derivative braid a (single w))
