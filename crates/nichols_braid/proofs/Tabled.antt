-- Tables whose rows and columns stand for the entries of a list: an entry by its row and column.
use Rattle.std.proofs.Common.{◌≡◌, ℕ, zero, suc, ◌+◌, ◌-◌, ◌*◌, ◌<◌, ◌≤◌, List, [], ◌∷◌, ◌++◌, map, length, replicate, get_or, ◌∙◌, ap, ap₂, arith, length-append, subst}
use Rattle.std.specs.Prelude.{slice_index}
use Rattle.std.specs.List.{flat_map}
use Rattle.std.proofs.Math.Nat.{suc-mul}
use Rattle.std.proofs.lemmas.List.{length-map, get_or-map, get_or_append_left, get_or-append_right, get_or-replicate}
use Rattle.std.proofs.lemmas.Nat.{mul-add-lt}
use Rattle.nichols_tensor.specs.Words.{IsLetterOf}
use Rattle.nichols_braid.specs.Braid.{entry}

-- a row of as many places as ts has, for each of ss
pub rows_length : {X : Type 0} (f : X → X → ℕ) (ts ss : List X) → length (flat_map (λ s. map (f s) ts) ss) ≡ length ss * length ts
rows_length f ts [] = omega arith
rows_length f ts (s ∷ ss) =
    length-append (map (f s) ts) (flat_map (λ s. map (f s) ts) ss) ∙ ap₂ (λ m k. m + k) (length-map ts (f s)) (rows_length f ts ss)
    ∙ (let more : suc (length ss) * length ts ≡ length ss * length ts + length ts = suc-mul (length ss) (length ts) in omega arith)

rows_at : {X : Type 0} (none : X) (f : X → X → ℕ) (ts ss : List X) (i j : ℕ) → i < length ss → j < length ts →
    slice_index (flat_map (λ s. map (f s) ts) ss) (i * length ts + j) ≡ f (get_or ss i none) (get_or ts j none)
rows_at none f ts [] i j less below = absurd (omega arith)
rows_at none f ts (s ∷ ss) zero j less below =
    let long : length (map (f s) ts) ≡ length ts = length-map ts (f s) in
    ap (slice_index (map (f s) ts ++ flat_map (λ s. map (f s) ts) ss)) (let e : 0 * length ts + j ≡ j = omega arith in e)
    ∙ get_or_append_left (map (f s) ts) (flat_map (λ s. map (f s) ts) ss) 0 j (omega arith)
    ∙ get_or-map (f s) ts j none 0 below
rows_at none f ts (s ∷ ss) (suc i) j less below =
    let more : suc i * length ts ≡ i * length ts + length ts = suc-mul i (length ts) in
    get_or-append_right (map (f s) ts) (flat_map (λ s. map (f s) ts) ss) (length ts) (suc i * length ts + j) 0 (length-map ts (f s)) (omega arith)
    ∙ ap (slice_index (flat_map (λ s. map (f s) ts) ss)) (let e : suc i * length ts + j - length ts ≡ i * length ts + j = omega arith in e)
    ∙ rows_at none f ts ss i j (omega arith) below

pub entry_of_rows : {X : Type 0} (none : X) (f : X → X → ℕ) (n : ℕ) (ts : List X) (i j : ℕ) → length ts ≡ n → IsLetterOf n i → IsLetterOf n j →
    entry n (flat_map (λ s. map (f s) ts) ts) i j ≡ f (get_or ts (i - 1) none) (get_or ts (j - 1) none)
unfolding entry
entry_of_rows none f n ts i j size l m =
    subst (λ k. slice_index (flat_map (λ s. map (f s) ts) ts) ((i - 1) * k + (j - 1)) ≡ f (get_or ts (i - 1) none) (get_or ts (j - 1) none)) size
    (rows_at none f ts ts (i - 1) (j - 1) (let h : (1 ≤ i) × (i ≤ n) = l in omega (arith, h, size)) (let h : (1 ≤ j) × (j ≤ n) = m in omega (arith, h, size)))

pub entry_of_constant : (n c i j : ℕ) → IsLetterOf n i → IsLetterOf n j → entry n (replicate (n * n) c) i j ≡ c
unfolding entry
entry_of_constant n c i j l m =
    get_or-replicate (n * n) ((i - 1) * n + (j - 1)) c 0
    (mul-add-lt (i - 1) n (j - 1) n (let h : (1 ≤ i) × (i ≤ n) = l in omega arith) (let h : (1 ≤ j) × (j ≤ n) = m in omega arith))
