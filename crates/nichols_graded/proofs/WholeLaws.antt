-- A block is whole where its rows are within the limit and its lower blocks are whole.
use Rattle.std.proofs.Common.{◌≡◌, ℕ, zero, suc, true, List, length, sym, ◌∙◌, ap, arith}
use Rattle.std.specs.List.{Contains}
use Rattle.nichols_braid.specs.Braid.{BraidValue, IsBraid}
use Rattle.nichols_braid.specs.Product.{product_before, product_of}
use Rattle.nichols_braid.specs.Products.{leading, products}
use Rattle.nichols_braid.proofs.NextProducts.{products_size}
use Rattle.nichols_braid.proofs.ProductListLaws.{leading_letter_is_first, products_are_of_words}
use Rattle.nichols_value.specs.Block.{is_whole, is_whole_below}
use Rattle.nichols_value.proofs.Blocks.{from_lower_letters, in_lower_letters, leading_of_leading, product_before_leading, product_before_of, product_with_letter}
use Rattle.nichols_value.proofs.Wholes.{all_lower_whole, below_whole, lower_is_whole, rows_of_whole, whole_below_first, whole_from}
use Rattle.nichols_graded.specs.WholeLaws.{AreLowerBlocksWhole, BlocksAreWhole}

lower_is : (braid : BraidValue) → IsBraid braid → (limit m : ℕ) (g : List ℕ) → is_whole braid limit m g ≡ true → AreLowerBlocksWhole braid limit m g
lower_is braid is limit zero g whole u b size over letter e = absurd (omega arith)
lower_is braid is limit (suc m) g whole u b size over letter e =
    let same : length u ≡ m = omega arith in
    let before : product_of braid u ≡ product_before braid (leading braid b) g = product_before_of braid is g b letter u over e ∙ sym (product_before_leading braid b letter g) in
    let there : Contains (products braid m) (product_before braid (leading braid b) g) = (products_are_of_words braid m (product_before braid (leading braid b) g)).1 (u, same, over, before) in
    let first = leading_letter_is_first braid b letter in
    ap (λ n. is_whole braid limit n (product_of braid u)) same ∙ ap (is_whole braid limit m) before
    ∙ lower_is_whole braid limit m g (below_whole braid limit (suc m) g whole) (leading braid b) (in_lower_letters braid m g (leading braid b) first.0 (leading_of_leading braid b letter) there)

below_is : (braid : BraidValue) → IsBraid braid → (limit m : ℕ) (g : List ℕ) → Contains (products braid m) g → AreLowerBlocksWhole braid limit m g → is_whole_below braid limit m g ≡ true
below_is braid is limit zero g i lower = whole_below_first braid limit g
below_is braid is limit (suc m) g i lower =
    all_lower_whole braid limit m g (λ a j.
    let (letter, first, there) = from_lower_letters braid m g a j in
    let (u, size, over, before) = (products_are_of_words braid m (product_before braid a g)).0 there in
    let next : suc (length u) ≡ suc m = ap suc size in
    ap (is_whole braid limit m) (sym before) ∙ ap (λ n. is_whole braid limit n (product_of braid u)) (sym size)
    ∙ lower u a next over letter (product_with_letter braid is g (products_size braid (suc m) g i) a letter u before))

pub blocks_are_whole : BlocksAreWhole
blocks_are_whole braid is limit m g i =
    (λ whole. (rows_of_whole braid limit m g whole, lower_is braid is limit m g whole), λ h. whole_from braid limit m g h.0 (below_is braid is limit m g i h.1))
