-- Blocks: the words of one degree and one product. All is read in the test of the skew derivations.
use Rattle.std.specs.Prelude.{ℕ, zero, suc, ◌-◌, Bool, ◌&&◌, List, [], ◌∷◌, filter, nat_eq, nat_le}
use Rattle.std.specs.List.{list_all, list_any}
use Rattle.nichols_tensor.specs.Combination.{same_letters}
use Rattle.nichols_tensor.specs.Relation.{PlainRelation}
use Rattle.nichols_tensor.specs.Words.{up_to}
use Rattle.nichols_braid.specs.Braid.{BraidValue}
use Rattle.nichols_braid.specs.Kernel.{is_killed}
use Rattle.nichols_braid.specs.Least.{basis, relations}
use Rattle.nichols_braid.specs.Product.{has_product, product_before}
use Rattle.nichols_braid.specs.Products.{leading, products, rows}

-- the least words of degree m with product g, rising
unfoldable pub block_basis : BraidValue → ℕ → List ℕ → List (List ℕ)
block_basis braid m g = filter (has_product braid g) (basis is_killed braid m)

-- the relations of degree m whose candidate has product g, with rising candidates
unfoldable pub block_relations : BraidValue → ℕ → List ℕ → List PlainRelation
block_relations braid m g = filter (λ r. has_product braid g r.candidate) (relations is_killed braid m)

-- the least words of the lower block by the letter b: the words u of one letter less for which `u b` has product g; none in degree 0
unfoldable pub lower_basis : BraidValue → ℕ → List ℕ → ℕ → List (List ℕ)
lower_basis braid zero g b = []
lower_basis braid (suc m) g b = block_basis braid m (product_before braid b g)

-- the least words v of one letter less for which `a v` has product g; none in degree 0
unfoldable pub left_lower_basis : BraidValue → ℕ → List ℕ → ℕ → List (List ℕ)
left_lower_basis braid zero g a = []
left_lower_basis braid (suc m) g a = filter (λ v. has_product braid g (a ∷ v)) (basis is_killed braid m)

-- whether some word of m letters has product g
unfoldable pub has_block : BraidValue → ℕ → List ℕ → Bool
has_block braid m g = list_any (same_letters g) (products braid m)

-- the letters of the lower blocks of (m, g), rising: the leading letters a for which the product before a is one of the degree
-- below. The lower block by a is that of this degree and this product.
unfoldable pub lower_letters : BraidValue → ℕ → List ℕ → List ℕ
lower_letters braid zero g = []
lower_letters braid (suc m) g = filter (λ a. nat_eq (leading braid a) a && has_block braid m (product_before braid a g)) (up_to braid.letters)

-- whether a block is whole under a rows limit: its candidates don't exceed the limit, and all its lower blocks are whole
unfoldable pub is_whole : BraidValue → ℕ → ℕ → List ℕ → Bool
is_whole braid limit zero g = nat_le (rows is_killed braid zero g) limit
is_whole braid limit (suc m) g =
    nat_le (rows is_killed braid (suc m) g) limit && list_all (λ a. is_whole braid limit m (product_before braid a g)) (lower_letters braid (suc m) g)

-- whether all lower blocks are whole
unfoldable pub is_whole_below : BraidValue → ℕ → ℕ → List ℕ → Bool
is_whole_below braid limit m g = list_all (λ a. is_whole braid limit (m - 1) (product_before braid a g)) (lower_letters braid m g)
