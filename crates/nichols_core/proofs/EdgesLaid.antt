-- When edges in any order can be laid out.
use Rattle.std.proofs.Common.{ℕ, ◌^◌, ◌<◌, ◌≤◌, cond, List, length, subst, sym, arith}
use Rattle.std.proofs.lemmas.List.Sorted.{All-permutation, sum_by-IsPermutation, IsPermutation-sym, IsPermutation-trans}
use Rattle.std.specs.List.{All}
use Rattle.std.specs.List.Sorted.{IsPermutation, IsNonDecreasingBy}
use Rattle.nichols_tensor.specs.declared.TheConstants.{LETTER_LIMIT}
use Rattle.nichols_core.specs.declared.edge.Edge.{Edge}
use Rattle.nichols_core.specs.Layout.{IsPlaced, CanLayOut, IsLayout, no_edge, edge_at, leaves, enters, exit_place, entry_place, IsRisingBy}
use Rattle.nichols_core.proofs.Sorted.{rising, one_each, rises, before}

small_letters : (ds : List ℕ) (es : List Edge) → All (IsPlaced ds) es → (k : ℕ) → k < length es → (edge_at es k).letter ≤ LETTER_LIMIT
small_letters ds es placed k inside = (placed k no_edge inside).to_last

-- in another order
pub moved : (ds : List ℕ) (es fs : List Edge) → IsPermutation es fs → CanLayOut ds es → CanLayOut ds fs
moved ds es fs moves good = record {
  placed = All-permutation (IsPlaced ds) es fs moves good.placed;
  one_out = λ b a. subst (λ n. n ≤ 1) (sym (sum_by-IsPermutation (λ e. cond (leaves b a e) 1 0) es fs moves)) (good.one_out b a);
  one_into = λ b a. subst (λ n. n ≤ 1) (sym (sum_by-IsPermutation (λ e. cond (enters b a e) 1 0) es fs moves)) (good.one_into b a);
}

pub exits_rise : (ds : List ℕ) (es : List Edge) → CanLayOut ds es → IsNonDecreasingBy exit_place es → IsRisingBy exit_place es
exits_rise ds es good = rises (λ e. e.lower) es (small_letters ds es good.placed) good.one_out

pub entries_rise : (ds : List ℕ) (es : List Edge) → CanLayOut ds es → IsNonDecreasingBy entry_place es → IsRisingBy entry_place es
entries_rise ds es good = rises (λ e. e.upper) es (small_letters ds es good.placed) good.one_into

-- the edges es, which are placed; fs, where they rise by their exits; and gs, where they rise by their entries
pub record RiseBothWays (ds : List ℕ) (es fs gs : List Edge) : Type 0 where
  pub few : length ds < 2 ^ 32
  pub placed : All (IsPlaced ds) es
  pub out : IsPermutation es fs
  pub exits : IsRisingBy exit_place fs
  pub into : IsPermutation fs gs
  pub entries : IsRisingBy entry_place gs

module _ (ds : List ℕ) (es fs gs : List Edge) (both : RiseBothWays ds es fs gs) where
  pub laid_out : CanLayOut ds gs
  laid_out = record {
    placed = All-permutation (IsPlaced ds) es gs (IsPermutation-trans es fs gs both.out both.into) both.placed;
    one_out = λ b a. subst (λ n. n ≤ 1) (sym (sum_by-IsPermutation (λ e. cond (leaves b a e) 1 0) fs gs both.into)) (one_each (λ e. e.lower) fs both.exits b a);
    one_into = one_each (λ e. e.upper) gs both.entries;
  }

  pub could_lay_out : CanLayOut ds es
  could_lay_out = moved ds gs es (IsPermutation-sym es gs (IsPermutation-trans es fs gs both.out both.into)) laid_out

  pub is_layout : IsLayout (record { degrees = ds; edges = gs })
  is_layout = record {
    few = both.few;
    good = laid_out;
    rising = λ j k less inside. before (edge_at gs j) (edge_at gs k) (small_letters ds gs laid_out.placed j (omega arith)) (small_letters ds gs laid_out.placed k inside) (rising entry_place gs both.entries j k less inside);
  }
