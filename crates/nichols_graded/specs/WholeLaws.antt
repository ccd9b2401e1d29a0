-- What the law of whole blocks says.
use Rattle.std.specs.Prelude.{◌≡◌, ◌↔◌, ◌≤◌, ℕ, suc, true, List, [], ◌∷◌, ◌++◌, length}
use Rattle.std.specs.List.{Contains}
use Rattle.nichols_tensor.specs.Words.{IsWordOver}
use Rattle.nichols_braid.specs.Braid.{BraidValue, IsBraid, IsLetter}
use Rattle.nichols_braid.specs.Kernel.{is_killed}
use Rattle.nichols_braid.specs.Product.{product_of}
use Rattle.nichols_braid.specs.Products.{products, rows}
use Rattle.nichols_value.specs.Block.{is_whole}

-- the lower blocks of a block are those of the words u for which some word `u b` is of the block: each is whole
abbrev pub AreLowerBlocksWhole : BraidValue → ℕ → ℕ → List ℕ → Type 0
AreLowerBlocksWhole braid limit m g =
    (u : List ℕ) (b : ℕ) → suc (length u) ≡ m → IsWordOver braid.letters u → IsLetter braid b → product_of braid (u ++ b ∷ []) ≡ g → is_whole braid limit (length u) (product_of braid u) ≡ true

-- a block is whole exactly where its rows don't exceed the limit and all its lower blocks are whole
abbrev pub BlocksAreWhole : Type 0
BlocksAreWhole =
    (braid : BraidValue) → IsBraid braid → (limit m : ℕ) (g : List ℕ) → Contains (products braid m) g →
    (is_whole braid limit m g ≡ true) ↔ ((rows is_killed braid m g ≤ limit) × AreLowerBlocksWhole braid limit m g)
