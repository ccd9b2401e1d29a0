-- The quadratic ideal: what combinations of degree 2 generate.
use Rattle.std.specs.Prelude.{◌≡◌, ℕ, ◌+◌, ◌-◌, List, ◌++◌, map, length}
use Rattle.std.specs.List.{flat_map, range_with_len}
use Rattle.nichols_tensor.specs.Combination.{Combination, minus, single}
use Rattle.nichols_tensor.specs.Relation.{PlainRelation}
use Rattle.nichols_tensor.specs.Span.{is_spanned}
use Rattle.nichols_tensor.specs.Words.{IsWordOver, words}
use Rattle.nichols_field.specs.Field.{FieldValue}
use Rattle.nichols_braid.specs.Kernel.{Vanishing}

-- u r v: the word u put before each word, and v behind it
abbrev pub between : List ℕ → Combination → List ℕ → Combination
between u r v = map (λ t. record { word = u ++ t.word ++ v; coefficient = t.coefficient }) r

-- g is u r v of degree m, for words u and v over n letters and some r of degree 2 with a property
pub record IsBetween (n : ℕ) (R : Combination → Type 0) (m : ℕ) (g : Combination) : Type 0 where
  pub front : List ℕ
  pub middle : Combination
  pub back : List ℕ
  pub front_over : IsWordOver n front
  pub back_over : IsWordOver n back
  pub of : R middle
  pub size : length front + 2 + length back ≡ m
  pub is : g ≡ between front middle back

-- all u r v of degree m, for r of a list
unfoldable pub all_between : ℕ → List Combination → ℕ → List Combination
all_between n rs m = flat_map (λ i. flat_map (λ u. flat_map (λ r. map (λ v. between u r v) (words n (m - (i + 2)))) rs) (words n i)) (range_with_len 0 (m - 1))

-- whether a combination of degree m is in their span: one more test of what is zero in an algebra, the quadratic cover. Of a braid it
-- reads the field and the number of letters alone
unfoldable pub in_ideal : List Combination → Vanishing
in_ideal rs braid m f = is_spanned braid.field (all_between braid.letters rs m) f

-- the combinations that relations say are zero: candidate minus form
abbrev pub generator : FieldValue → PlainRelation → Combination
generator field r = minus field (single r.candidate) r.form

abbrev pub generators : FieldValue → List PlainRelation → List Combination
generators field rs = map (generator field) rs
