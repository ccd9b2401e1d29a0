-- The table of a degree in a certificate: its least words, its relations, and for each least word a test that tells it from the others.
-- It is judged by the algebra itself: by the candidates of the degree and the normal forms of their derivatives.
use Rattle.std.specs.Prelude.{◌≡◌, ◌≢◌, ◌↔◌, ◌⊎◌, ◌-◌, ℕ, suc, List, [], map, slice_index_or}
use Rattle.std.specs.List.{AllByRecursion, Contains}
use Rattle.std.specs.declared.cmp.Ordering.TheVariants.{Less}
use Rattle.nichols_field.specs.Field.{FieldValue, sum_by, times}
use Rattle.nichols_tensor.specs.Combination.{Combination, value_at, HasSameValues, AllElements, AllAmong, linear_map}
use Rattle.nichols_tensor.specs.Relation.{PlainRelation}
use Rattle.nichols_tensor.specs.Words.{up_to}
use Rattle.nichols_tensor.specs.WordOrder.{word_cmp, IsRising, IsOrdered}
use Rattle.nichols_braid.specs.Braid.{BraidValue, IsLetter}
use Rattle.nichols_braid.specs.Forms.{candidates_of, derived_form}
use Rattle.nichols_braid.specs.Kernel.{is_killed}
use Rattle.nichols_braid.specs.Least.{candidates}

-- the table of a degree: its least words, its relations, and for each least word an array with one combination per letter, in the
-- document's order of letters; words are in ranks
abbrev pub Table : Type 0
Table = record { basis : List (List ℕ); relations : List PlainRelation; tests : List (List Combination) }

-- the combination of an array for a letter or a rank, which counts from 1
abbrev pub at_letter : List Combination → ℕ → Combination
at_letter fs a = slice_index_or fs (a - 1) []

-- an array with its combinations in the order of ranks
abbrev pub by_ranks : List ℕ → List Combination → List Combination
by_ranks order fs = map (at_letter fs) order

-- the sum of the products of the coefficients of f and g at one word
unfoldable pub paired : FieldValue → Combination → Combination → ℕ
paired field f g = sum_by field (λ t. times field t.coefficient (value_at field g t.word)) f

-- what an array makes of a word of degree m + 1: the sum, over the letters a and the words v, of its coefficient for a at v times
-- that of v in the normal form of the derivative by a of the word
unfoldable pub tested : BraidValue → ℕ → List Combination → List ℕ → ℕ
tested braid m fs w = sum_by braid.field (λ a. paired braid.field (at_letter fs a) (derived_form is_killed braid (suc m) w a)) (up_to braid.letters)

-- the array is a test for w among these words: it makes 1 of w and 0 of every other
pub record IsTestFor (braid : BraidValue) (m : ℕ) (ws : List (List ℕ)) (w : List ℕ) (fs : List Combination) : Type 0 where
  pub own : tested braid m fs w ≡ 1
  pub others : (v : List ℕ) → Contains ws v → v ≢ w → tested braid m fs v ≡ 0

-- both lists rise, and together are the candidates, each once
pub record AreCandidates (braid : BraidValue) (m : ℕ) (ws vs : List (List ℕ)) : Type 0 where
  pub first_rise : IsRising ws
  pub second_rise : IsRising vs
  pub all : (w : List ℕ) → Contains (candidates is_killed braid m) w ↔ (Contains ws w ⊎ Contains vs w)
  pub once : (w : List ℕ) → Contains ws w → Contains vs w → ⊥

-- the form of a relation of degree m + 1 is a combination of words of the list before its candidate, and each derivative of the candidate is the
-- same combination of theirs
pub record IsFormOver (braid : BraidValue) (m : ℕ) (ws : List (List ℕ)) (r : PlainRelation) : Type 0 where
  pub among : AllAmong r.form ws
  pub earlier : AllByRecursion (λ t. word_cmp t.word r.candidate ≡ Less) r.form
  pub derivatives : (a : ℕ) → IsLetter braid a →
      HasSameValues braid.field (derived_form is_killed braid (suc m) r.candidate a) (linear_map braid.field (λ v. derived_form is_killed braid (suc m) v a) r.form)

-- the expressions of a table are kept in order
abbrev pub AreInOrder : FieldValue → List PlainRelation → Type 0
AreInOrder field relations = AllByRecursion (λ r. IsOrdered r.form × AllElements field r.form) relations

-- the table of degree m + 1 passes: its words are the candidates, its forms hold, and each of its basis words has a test
pub record Passes (braid : BraidValue) (m : ℕ) (t : Table) : Type 0 where
  pub candidates : AreCandidates braid (suc m) t.basis (candidates_of t.relations)
  pub forms : (r : PlainRelation) → Contains t.relations r → IsFormOver braid m t.basis r
  pub tests : (w : List ℕ) → Contains t.basis w → (fs : List Combination) × IsTestFor braid m t.basis w fs
