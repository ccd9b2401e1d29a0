-- The first product of too many rows.
use Rattle.std.proofs.Common.{◌≡◌, ℕ, zero, suc, ◌+◌, ◌<◌, ◌≤◌, true, false, cond, List, [], ◌∷◌, length, map, drop, get_or, refl, sym, ◌∙◌, ap, arith, nat_lt}
use Rattle.nichols_tensor.specs.Positions.{word_at}
use Rattle.std.specs.Prelude.{None, Some}
use Rattle.std.proofs.Math.Seq.{drop-cons}
use Rattle.std.proofs.lemmas.Bool.Decides.{nat_tests}
use Rattle.std.proofs.lemmas.List.{drop_all}
use Rattle.nichols_graded.specs.declared.ends.Stop.TheVariants.{Rows}
use Rattle.nichols_graded.specs.Ends.{rows_stop}

one_row : (limit m k : ℕ) (counts : List ℕ) → k < length counts →
    rows_stop limit m (suc k) (drop k counts) ≡ cond (nat_lt limit (get_or counts k 0)) (Some (Rows m (suc k) (get_or counts k 0))) (rows_stop limit m (suc (suc k)) (drop (suc k) counts))
unfolding rows_stop
one_row limit m k counts less = ap (rows_stop limit m (suc k)) (drop-cons counts k 0 less)

pub row_over : (limit m k number : ℕ) (counts : List ℕ) → k < length counts → limit < get_or counts k 0 → number ≡ suc k → rows_stop limit m (suc k) (drop k counts) ≡ Some (Rows m number (get_or counts k 0))
row_over limit m k number counts less over is =
    one_row limit m k counts less
    ∙ ap (λ b. cond b (Some (Rows m (suc k) (get_or counts k 0))) (rows_stop limit m (suc (suc k)) (drop (suc k) counts))) (let t : nat_lt limit (get_or counts k 0) ≡ true = grind (arith, nat_tests) in t)
    ∙ ap (λ n. Some (Rows m n (get_or counts k 0))) (sym is)

pub row_within : (limit m k : ℕ) (counts : List ℕ) → k < length counts → get_or counts k 0 ≤ limit → rows_stop limit m (suc k) (drop k counts) ≡ rows_stop limit m (suc (k + 1)) (drop (k + 1) counts)
row_within limit m k counts less few =
    let next : suc k ≡ k + 1 = omega arith in
    one_row limit m k counts less
    ∙ ap (λ b. cond b (Some (Rows m (suc k) (get_or counts k 0))) (rows_stop limit m (suc (suc k)) (drop (suc k) counts))) (let t : nat_lt limit (get_or counts k 0) ≡ false = grind (arith, nat_tests) in t)
    ∙ ap (λ n. rows_stop limit m (suc n) (drop n counts)) next

pub rows_end : (limit m k : ℕ) (counts : List ℕ) → length counts ≤ k → rows_stop limit m (suc k) (drop k counts) ≡ None
unfolding rows_stop
rows_end limit m k counts most = ap (rows_stop limit m (suc k)) (drop_all k counts most)

-- the number at a place
pub row_at : (f : List ℕ → ℕ) (gs : List (List ℕ)) (k : ℕ) → k < length gs → get_or (map f gs) k 0 ≡ f (word_at gs k)
row_at f [] k less = absurd (omega (arith, less))
row_at f (g ∷ gs) zero less = refl
row_at f (g ∷ gs) (suc k) less = row_at f gs k (omega (arith, less))
