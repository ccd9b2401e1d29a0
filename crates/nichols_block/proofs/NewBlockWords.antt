-- The new words of a block: they rise, and its least words are the least ones among them.
use Rattle.std.proofs.Common.{◌≡◌, ℕ, true, List, length}
use Rattle.std.specs.List.{filter, Contains}
use Rattle.nichols_tensor.specs.Words.{IsWordOver, words}
use Rattle.nichols_tensor.specs.WordOrder.{IsRising}
use Rattle.nichols_tensor.proofs.AllWords.{in_words, from_words, words_rise}
use Rattle.nichols_tensor.proofs.Entries.{in_filter, from_filter}
use Rattle.nichols_tensor.proofs.Rising.{rising-filter, rising_unique}
use Rattle.nichols_braid.specs.Braid.{BraidValue, IsBraid}
use Rattle.nichols_braid.specs.Kernel.{is_killed}
use Rattle.nichols_braid.specs.Least.{is_least}
use Rattle.nichols_braid.specs.NewWords.{is_new, new_words}
use Rattle.nichols_braid.specs.Product.{product_of, has_product}
use Rattle.nichols_braid.proofs.BraidLaws.{killed_is_ideal_from_right}
use Rattle.nichols_braid.proofs.LeftLaws.{killed_is_ideal_from_left}
use Rattle.nichols_braid.proofs.NewWords.{least_is_new}
use Rattle.nichols_braid.proofs.Reduction.{in_basis, from_basis}
use Rattle.nichols_value.specs.Block.{block_basis}
use Rattle.nichols_value.proofs.Blocks.{has_product_is, product_is, in_block_basis, from_block_basis, block_basis_rises}
use Rattle.nichols_block.specs.Words.{block_new_words}

pub in_block_new_words : (braid : BraidValue) (m : ℕ) (g w : List ℕ) → length w ≡ m → IsWordOver braid.letters w → product_of braid w ≡ g → is_new is_killed braid w ≡ true → Contains (block_new_words braid m g) w
unfolding block_new_words new_words
in_block_new_words braid m g w size over e new =
    in_filter (has_product braid g) w (filter (is_new is_killed braid) (words braid.letters m)) (in_filter (is_new is_killed braid) w (words braid.letters m) (in_words braid.letters m w size over) new) (has_product_is braid g w e)

pub from_block_new_words : (braid : BraidValue) (m : ℕ) (g w : List ℕ) → Contains (block_new_words braid m g) w → (length w ≡ m) × IsWordOver braid.letters w × (product_of braid w ≡ g) × (is_new is_killed braid w ≡ true)
unfolding block_new_words new_words
from_block_new_words braid m g w i =
    let (j, h) = from_filter (has_product braid g) w (filter (is_new is_killed braid) (words braid.letters m)) i in
    let (k, new) = from_filter (is_new is_killed braid) w (words braid.letters m) j in
    let from : (length w ≡ m) × IsWordOver braid.letters w = from_words braid.letters m w k in
    (from.0, from.1, product_is braid g w h, new)

pub block_new_words_rise : (braid : BraidValue) (m : ℕ) (g : List ℕ) → IsRising (block_new_words braid m g)
unfolding block_new_words new_words
block_new_words_rise braid m g = rising-filter (has_product braid g) (filter (is_new is_killed braid) (words braid.letters m)) (rising-filter (is_new is_killed braid) (words braid.letters m) (words_rise braid.letters m))

-- each least word of the block is new
pub least_among_new : (braid : BraidValue) → IsBraid braid → (m : ℕ) (g w : List ℕ) → Contains (block_basis braid m g) w → Contains (block_new_words braid m g) w
least_among_new braid is m g w i =
    let (j, e) = from_block_basis braid m g w i in
    let (size, over, least) = from_basis is_killed braid m w j in
    in_block_new_words braid m g w size over e (least_is_new is_killed braid is.field (killed_is_ideal_from_right braid is) (killed_is_ideal_from_left braid is) w over least)

pub block_basis_among_new : (braid : BraidValue) → IsBraid braid → (m : ℕ) (g : List ℕ) → block_basis braid m g ≡ filter (is_least is_killed braid) (block_new_words braid m g)
block_basis_among_new braid is m g =
    rising_unique (block_basis braid m g) (filter (is_least is_killed braid) (block_new_words braid m g)) (block_basis_rises braid m g) (rising-filter (is_least is_killed braid) (block_new_words braid m g) (block_new_words_rise braid m g))
    (λ w i. in_filter (is_least is_killed braid) w (block_new_words braid m g) (least_among_new braid is m g w i) (from_basis is_killed braid m w (from_block_basis braid m g w i).0).2)
    (λ w i.
    let (j, least) = from_filter (is_least is_killed braid) w (block_new_words braid m g) i in
    let (size, over, e, new) = from_block_new_words braid m g w j in
    in_block_basis braid m g w (in_basis is_killed braid m w size over least) e)
