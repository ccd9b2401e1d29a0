-- Lower blocks of lower blocks: that by b and then by a is that by a and then by `a ▷ b`.
use Rattle.std.proofs.Common.{◌≡◌, ℕ, zero, suc, ◌-◌, List, map, refl, sym, ◌∙◌, ap}
use Rattle.std.specs.Prelude.{slice_index}
use Rattle.nichols_tensor.specs.Words.{up_to}
use Rattle.nichols_tensor.proofs.Letters.{from_up_to}
use Rattle.nichols_tensor.proofs.Tests.{map_same}
use Rattle.nichols_braid.specs.Braid.{BraidValue, IsBraid, IsLetter, act}
use Rattle.nichols_braid.specs.Product.{product_before, unact}
use Rattle.nichols_braid.proofs.Onto.{unact_is_before}
use Rattle.nichols_braid.proofs.InlineProducts.{value_at_letter}
use Rattle.nichols_value.specs.Block.{block_basis, lower_basis}

-- the product before two letters, by their inverse maps
before_twice : (braid : BraidValue) → IsBraid braid → (g : List ℕ) (a c : ℕ) → IsLetter braid c → product_before braid c (product_before braid a g) ≡ map (λ j. slice_index g (unact braid a (unact braid c j) - 1)) (up_to braid.letters)
unfolding product_before
before_twice braid is g a c lc =
    map_same (λ j. slice_index (map (λ i. slice_index g (unact braid a i - 1)) (up_to braid.letters)) (unact braid c j - 1)) (λ j. slice_index g (unact braid a (unact braid c j) - 1)) (up_to braid.letters)
    (λ j i. value_at_letter braid.letters (λ d. slice_index g (unact braid a d - 1)) (unact braid c j) (unact_is_before braid is.rack c lc j (from_up_to braid.letters j i)).0)

-- the inverse maps of b and then a, or of `a ▷ b` and then a, are one
same_inverses : (braid : BraidValue) → IsBraid braid → (a b j : ℕ) → IsLetter braid a → IsLetter braid b → IsLetter braid j → unact braid a (unact braid (act braid a b) j) ≡ unact braid b (unact braid a j)
same_inverses braid is a b j la lb lj =
    let lc : IsLetter braid (act braid a b) = is.rack.closed a b la lb in
    let (lx, x) = unact_is_before braid is.rack a la j lj in
    let (ly, y) = unact_is_before braid is.rack b lb (unact braid a j) lx in
    let (lz, z) = unact_is_before braid is.rack (act braid a b) lc j lj in
    let (lw, w) = unact_is_before braid is.rack a la (unact braid (act braid a b) j) lz in
    is.rack.injective b (unact braid a (unact braid (act braid a b) j)) (unact braid b (unact braid a j)) lb lw ly
    (is.rack.injective a (act braid b (unact braid a (unact braid (act braid a b) j))) (act braid b (unact braid b (unact braid a j))) la (is.rack.closed b _ lb lw) (is.rack.closed b _ lb ly)
    (is.rack.distributive a b (unact braid a (unact braid (act braid a b) j)) la lb lw ∙ ap (act braid (act braid a b)) w ∙ z ∙ sym x ∙ ap (act braid a) (sym y)))

pub products_below : (braid : BraidValue) → IsBraid braid → (g : List ℕ) (a b : ℕ) → IsLetter braid a → IsLetter braid b → product_before braid (act braid a b) (product_before braid a g) ≡ product_before braid a (product_before braid b g)
products_below braid is g a b la lb =
    before_twice braid is g a (act braid a b) (is.rack.closed a b la lb)
    ∙ map_same (λ j. slice_index g (unact braid a (unact braid (act braid a b) j) - 1)) (λ j. slice_index g (unact braid b (unact braid a j) - 1)) (up_to braid.letters)
    (λ j i. ap (λ d. slice_index g (d - 1)) (same_inverses braid is a b j la lb (from_up_to braid.letters j i)))
    ∙ sym (before_twice braid is g b a la)

pub lower_below : (braid : BraidValue) → IsBraid braid → (m : ℕ) (g : List ℕ) (a b : ℕ) → IsLetter braid a → IsLetter braid b → lower_basis braid m (product_before braid a g) (act braid a b) ≡ lower_basis braid m (product_before braid b g) a
unfolding lower_basis
lower_below braid is zero g a b la lb = refl
lower_below braid is (suc m) g a b la lb = ap (block_basis braid m) (products_below braid is g a b la lb)
