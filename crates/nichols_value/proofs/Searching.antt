-- What a search by the word order finds in a list whose words rise.
use Rattle.std.proofs.Common.{◌≡◌, ℕ, ◌+◌, List, [], get_or, sym, ◌∙◌, ap, ap₂, arith, Err, inl, inr}
use Rattle.std.proofs.lemmas.Bool.{cases_lt}
use Rattle.std.proofs.lemmas.List.{get_or_default}
use Rattle.std.proofs.lemmas.List.Sorted.{searchable_from_sorted}
use Rattle.std.specs.List.{Contains}
use Rattle.std.specs.List.Sorted.{IsBinarySearchResult, IsPartitionPoint, IsSortedByKey}
use Rattle.std.specs.Ordering.{is_lt}
use Rattle.std.specs.declared.cmp.Ordering.TheVariants.{Equal, Greater, Less}
use Rattle.nichols_tensor.specs.Positions.{word_at}
use Rattle.nichols_tensor.specs.WordOrder.{IsRising, word_cmp}
use Rattle.nichols_tensor.proofs.Order.{greater_back, word_cmp_itself, word_cmp_total}
use Rattle.nichols_tensor.proofs.Rising.{position_of, words_at_rise}

sorted_from_rising : (ws : List (List ℕ)) → IsRising ws → IsSortedByKey (λ w. w) word_cmp ws
sorted_from_rising ws r = λ i d low less.
    let greater : word_cmp (get_or ws (i + 1) d) (get_or ws i d) ≡ Greater =
    ap₂ word_cmp (sym (get_or_default ws (i + 1) [] d less)) (sym (get_or_default ws i [] d (omega arith)))
    ∙ greater_back (word_at ws i) (word_at ws (i + 1)) (words_at_rise ws i (i + 1) r (omega arith) less) in
    ap is_lt greater

-- a search that fails shows that the word isn't there
pub not_found : (ws : List (List ℕ)) (w : List ℕ) (i : ℕ) → IsRising ws → IsBinarySearchResult (λ v. word_cmp v w) ws (Err i) → Contains ws w → ⊥
not_found ws w i rising found there =
    let (j, less, e) = position_of ws w there in
    let sides : IsPartitionPoint (λ v. word_cmp v w ≡ Less) (λ v. word_cmp v w ≡ Greater) ws i = found (searchable_from_sorted word_cmp_total (λ v. v) ws w (sorted_from_rising ws rising)) in
    let tie : word_cmp (word_at ws j) w ≡ Equal = ap (λ v. word_cmp v w) e ∙ word_cmp_itself w in
    elim (cases_lt j i) [
      | inl before ↦ let c : Equal ≡ Less = sym tie ∙ sides.0 j [] (omega arith) before in cc
      | inr behind ↦ let c : Equal ≡ Greater = sym tie ∙ sides.1 j [] behind less in cc
    ]
