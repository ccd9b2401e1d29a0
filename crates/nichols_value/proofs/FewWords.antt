-- A block has at most as many least words as candidates, so those of whole blocks are within the rows limit.
use Rattle.std.proofs.Common.{◌≡◌, ℕ, zero, suc, ◌≤◌, Bool, true, false, cond, List, [], ◌∷◌, length, refl, sym, subst, arith}
use Rattle.std.specs.List.{filter, Contains}
use Rattle.nichols_tensor.proofs.Entries.{contains_first}
use Rattle.nichols_braid.specs.Braid.{BraidValue, IsBraid, IsLetter}
use Rattle.nichols_braid.specs.Kernel.{is_killed}
use Rattle.nichols_braid.specs.Least.{is_least, candidates}
use Rattle.nichols_braid.specs.Product.{has_product, product_before}
use Rattle.nichols_braid.specs.Products.{leading, rows}
use Rattle.nichols_braid.proofs.BraidLaws.{killed_is_ideal_from_right}
use Rattle.nichols_braid.proofs.LeastLaws.{basis_is_among_candidates}
use Rattle.nichols_value.specs.Block.{block_basis, is_whole, is_whole_below, lower_basis, lower_letters}
use Rattle.nichols_value.proofs.Blocks.{lower_letter_of, product_before_leading}
use Rattle.nichols_value.proofs.Wholes.{lower_is_whole, rows_of_whole}

-- fewer pass two tests than the first alone
fewer_pass : {X : Type 0} (p q : X → Bool) (xs : List X) → length (filter p (filter q xs)) ≤ length (filter p xs)
fewer_pass p q [] = omega arith
fewer_pass p q (x ∷ xs) = at (q x) (p x) refl (fewer_pass p q xs)
  where
    at : (b c : Bool) → p x ≡ c → length (filter p (filter q xs)) ≤ length (filter p xs) → length (filter p (cond b (x ∷ filter q xs) (filter q xs))) ≤ length (cond c (x ∷ filter p xs) (filter p xs))
    at true true e h = subst (λ d. length (cond d (x ∷ filter p (filter q xs)) (filter p (filter q xs))) ≤ suc (length (filter p xs))) (sym e) (omega (arith, h))
    at true false e h = subst (λ d. length (cond d (x ∷ filter p (filter q xs)) (filter p (filter q xs))) ≤ length (filter p xs)) (sym e) h
    at false true e h = omega (arith, h)
    at false false e h = h

pub basis_within_rows : (braid : BraidValue) → IsBraid braid → (m : ℕ) (g : List ℕ) → length (block_basis braid m g) ≤ rows is_killed braid m g
unfolding block_basis rows
basis_within_rows braid is m g =
    subst (λ ws. length (filter (has_product braid g) ws) ≤ length (filter (has_product braid g) (candidates is_killed braid m))) (sym (basis_is_among_candidates is_killed braid is.field (killed_is_ideal_from_right braid is) m))
    (fewer_pass (has_product braid g) (is_least is_killed braid) (candidates is_killed braid m))

pub basis_of_whole : (braid : BraidValue) → IsBraid braid → (limit m : ℕ) (g : List ℕ) → is_whole braid limit m g ≡ true → length (block_basis braid m g) ≤ limit
basis_of_whole braid is limit m g whole = let few : length (block_basis braid m g) ≤ rows is_killed braid m g = basis_within_rows braid is m g in let most : rows is_killed braid m g ≤ limit = rows_of_whole braid limit m g whole in omega (arith, few, most)

-- where all lower blocks are whole, each has words within the limit
pub lower_basis_within : (braid : BraidValue) → IsBraid braid → (limit m : ℕ) (g : List ℕ) → is_whole_below braid limit m g ≡ true → (b : ℕ) → IsLetter braid b → length (lower_basis braid m g b) ≤ limit
unfolding lower_basis
lower_basis_within braid is limit zero g whole b lb = omega arith
lower_basis_within braid is limit (suc m) g whole b lb = at (lower_basis braid (suc m) g b) refl
  where
    at : (us : List (List ℕ)) → lower_basis braid (suc m) g b ≡ us → length us ≤ limit
    at [] e = omega arith
    at (u ∷ us) e =
        let there : Contains (lower_letters braid (suc m) g) (leading braid b) = lower_letter_of braid m g b lb u (subst (λ ws. Contains ws u) (sym e) (contains_first u us)) in
        subst (λ ws. length ws ≤ limit) e
        (subst (λ h. length (block_basis braid m h) ≤ limit) (product_before_leading braid b lb g) (basis_of_whole braid is limit m (product_before braid (leading braid b) g) (lower_is_whole braid limit m g whole (leading braid b) there)))
