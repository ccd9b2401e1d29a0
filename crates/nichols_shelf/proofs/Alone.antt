-- A list of one edge, put in order.
use Rattle.std.proofs.Common.{◌≡◌, ℕ, ◌+◌, ◌≤◌, List, [], ◌∷◌, IsPermutation, fold, arith}
use Rattle.std.proofs.lemmas.List.Sorted.{sum_by-IsPermutation}
use Rattle.nichols_core.specs.declared.edge.Edge.{Edge}

counted : (n : ℕ) (zs : List Edge) → n ≤ fold (λ (a : ℕ) (z : Edge). a + 1) n zs
counted n [] = omega arith
counted n (z ∷ zs) = let r = counted (n + 1) zs in omega (arith, r)

pub permuted_alone : (e : Edge) (ys : List Edge) → IsPermutation (e ∷ []) ys → ys ≡ e ∷ []
permuted_alone e [] p = let n : 0 ≡ 1 = sum_by-IsPermutation (λ (d : Edge). 1) (e ∷ []) [] p in absurd (omega (arith, n))
permuted_alone e (y ∷ []) p =
    let a = sum_by-IsPermutation (λ (d : Edge). d.lower) (e ∷ []) (y ∷ []) p in
    let b = sum_by-IsPermutation (λ (d : Edge). d.letter) (e ∷ []) (y ∷ []) p in
    let c = sum_by-IsPermutation (λ (d : Edge). d.upper) (e ∷ []) (y ∷ []) p in
    let l : y.lower ≡ e.lower = omega (arith, a) in
    let t : y.letter ≡ e.letter = omega (arith, b) in
    let u : y.upper ≡ e.upper = omega (arith, c) in
    λ i. (record { lower = l i; letter = t i; upper = u i }) ∷ []
permuted_alone e (y ∷ z ∷ zs) p = let few = counted 2 zs in let n : fold (λ (a : ℕ) (z : Edge). a + 1) 2 zs ≡ 1 = sum_by-IsPermutation (λ (d : Edge). 1) (e ∷ []) (y ∷ z ∷ zs) p in absurd (omega (arith, n, few))
