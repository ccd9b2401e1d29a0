-- Whether a table is refused, and by what: the first of what can be wrong with it, with the least word.
use Rattle.std.specs.Prelude.{ℕ, suc, ◌+◌, Bool, true, not, ◌&&◌, ◌||◌, List, [], ◌∷◌, ◌++◌, length, find, Option, Some, nat_eq, nat_lt, slice_index_or, if◌then◌else◌}
use Rattle.std.specs.List.{list_all, list_any, range_with_len}
use Rattle.std.specs.Option.{option_map, option_or}
use Rattle.std.specs.Ordering.{is_lt}
use Rattle.nichols_field.specs.Field.{FieldValue}
use Rattle.nichols_tensor.specs.Combination.{Combination, is_zero, minus, same_letters, linear_map}
use Rattle.nichols_tensor.specs.Positions.{word_at}
use Rattle.nichols_tensor.specs.Relation.{PlainRelation}
use Rattle.nichols_tensor.specs.Words.{up_to}
use Rattle.nichols_tensor.specs.WordOrder.{word_cmp}
use Rattle.nichols_braid.specs.Braid.{BraidValue}
use Rattle.nichols_braid.specs.Forms.{candidates_of, derived_form}
use Rattle.nichols_braid.specs.Kernel.{is_killed}
use Rattle.nichols_braid.specs.Least.{basis, candidates}
use Rattle.nichols_check.specs.Table.{Table, by_ranks, tested}

-- what refuses a table whose texts are read: its words aren't the candidates; the relation of a word; the array of a basis word
pub data TableRefusal : Type 0 where
  candidates_refusal : TableRefusal
  form_refusal : List ℕ → TableRefusal
  inverse_refusal : List ℕ → TableRefusal

-- ---- candidates

abbrev pub is_in : List (List ℕ) → List ℕ → Bool
is_in ws w = list_any (λ v. same_letters w v) ws

-- each word stands before the next
unfoldable pub rises : List (List ℕ) → Bool
rises [] = true
rises (w ∷ []) = true
rises (v ∷ w ∷ ws) = is_lt (word_cmp v w) && rises (w ∷ ws)

-- both lists rise; each candidate is in one of them, and each of their words is a candidate, in one of them alone
unfoldable pub are_candidates : BraidValue → ℕ → List (List ℕ) → List (List ℕ) → Bool
are_candidates braid m ws vs =
    rises ws && rises vs && list_all (λ w. is_in ws w || is_in vs w) (candidates is_killed braid m)
    && list_all (is_in (candidates is_killed braid m)) (ws ++ vs) && list_all (λ w. not (is_in vs w)) ws

-- ---- forms

-- whether two combinations have the same values
abbrev pub are_same : FieldValue → Combination → Combination → Bool
are_same field f g = is_zero field (minus field f g)

-- whether the form of a relation of degree m + 1 has basis words before its candidate alone, and the candidate's derivatives are the
-- same combinations of theirs
unfoldable pub has_form : BraidValue → ℕ → List (List ℕ) → PlainRelation → Bool
has_form braid m ws r =
    list_all (λ t. is_in ws t.word && is_lt (word_cmp t.word r.candidate)) r.form
    && list_all (λ a. are_same braid.field (derived_form is_killed braid (suc m) r.candidate a) (linear_map braid.field (λ v. derived_form is_killed braid (suc m) v a) r.form)) (up_to braid.letters)

-- ---- arrays

-- whether each word of the array is a least word of degree m
abbrev pub is_over_basis : BraidValue → ℕ → List Combination → Bool
is_over_basis braid m fs = list_all (λ f. list_all (λ t. is_in (basis is_killed braid m) t.word) f) fs

-- whether the array makes 1 of w and 0 of every other word
abbrev pub is_test : BraidValue → ℕ → List (List ℕ) → List ℕ → List Combination → Bool
is_test braid m ws w fs = nat_eq (tested braid m fs w) 1 && list_all (λ v. same_letters v w || nat_eq (tested braid m fs v) 0) ws

-- whether the basis word at a place has a right array: it has one, of as many combinations as there are letters, over the basis
-- below, and it is a test; behind that of the last word there is none
unfoldable pub has_array : BraidValue → List ℕ → ℕ → Table → ℕ → Bool
has_array braid order m t i =
    nat_lt i (length t.tests) && (nat_lt (i + 1) (length t.basis) || nat_eq (length t.tests) (length t.basis))
    && nat_eq (length (slice_index_or t.tests i [])) braid.letters && is_over_basis braid m (slice_index_or t.tests i [])
    && is_test braid m t.basis (word_at t.basis i) (by_ranks order (slice_index_or t.tests i []))

-- ---- the first refusal

unfoldable pub form_refused : BraidValue → ℕ → Table → Option TableRefusal
form_refused braid m t = option_map (λ r. form_refusal r.candidate) (find (λ r. not (has_form braid m t.basis r)) t.relations)

unfoldable pub inverse_refused : BraidValue → List ℕ → ℕ → Table → Option TableRefusal
inverse_refused braid order m t = option_map (λ i. inverse_refusal (word_at t.basis i)) (find (λ i. not (has_array braid order m t i)) (range_with_len 0 (length t.basis)))

-- what refuses the table of degree m + 1, if anything does
unfoldable pub table_refusal : BraidValue → List ℕ → ℕ → Table → Option TableRefusal
table_refusal braid order m t =
    if are_candidates braid (suc m) t.basis (candidates_of t.relations) then option_or (form_refused braid m t) (inverse_refused braid order m t) else Some candidates_refusal
