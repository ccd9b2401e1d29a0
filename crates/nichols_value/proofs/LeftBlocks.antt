-- Left lower blocks are lower blocks: with g(c) in front the words of the lower block by c have the product g, too.
use Rattle.std.proofs.Common.{◌≡◌, ℕ, zero, suc, ◌-◌, List, [], ◌∷◌, ◌++◌, refl, sym, ◌∙◌, ap}
use Rattle.std.specs.Prelude.{slice_index}
use Rattle.std.specs.List.{Contains}
use Rattle.std.proofs.lemmas.List.Sorted.{Contains-permutation}
use Rattle.nichols_tensor.specs.Words.{up_to, IsWordOver}
use Rattle.nichols_tensor.specs.WordOrder.{IsRising}
use Rattle.nichols_tensor.proofs.Entries.{in_filter, from_filter, from_map}
use Rattle.nichols_tensor.proofs.Letters.{in_up_to, from_up_to}
use Rattle.nichols_tensor.proofs.Rising.{rising-filter}
use Rattle.nichols_tensor.proofs.Tests.{same_answer, filter_same}
use Rattle.nichols_braid.specs.Braid.{BraidValue, IsBraid, IsRack, IsLetter, act}
use Rattle.nichols_braid.specs.Kernel.{is_killed}
use Rattle.nichols_braid.specs.Least.{basis}
use Rattle.nichols_braid.specs.Product.{product_image, product_of, has_product, product_before, unact}
use Rattle.nichols_braid.specs.Products.{products}
use Rattle.nichols_braid.proofs.KeptProducts.{MoveAlike, moved_letter, product_image-append, same_product}
use Rattle.nichols_braid.proofs.NextProducts.{products_size}
use Rattle.nichols_braid.proofs.Onto.{unact_is_before, product_is_rearrangement, image_at}
use Rattle.nichols_braid.proofs.ProductListLaws.{products_are_of_words}
use Rattle.nichols_braid.proofs.Reduction.{basis_rises, from_basis}
use Rattle.nichols_value.specs.Block.{block_basis, left_lower_basis, lower_basis}
use Rattle.nichols_value.proofs.Blocks.{has_product_is, product_is, product_before_of, product_with_letter}

-- a word's map keeps the rack: `w(c ▷ j) = w(c) ▷ w(j)`
pub moved_act : (braid : BraidValue) → IsRack braid → (w : List ℕ) → IsWordOver braid.letters w → (c j : ℕ) → IsLetter braid c → IsLetter braid j → product_image braid w (act braid c j) ≡ act braid (product_image braid w c) (product_image braid w j)
moved_act braid rack [] over c j lc lj = refl
moved_act braid rack (x ∷ w) over c j lc lj =
    ap (act braid x) (moved_act braid rack w over.1 c j lc lj)
    ∙ rack.distributive x (product_image braid w c) (product_image braid w j) over.0 (moved_letter braid rack w over.1 c lc) (moved_letter braid rack w over.1 j lj)

-- words of one product send each letter to one
pub alike_by_product : (braid : BraidValue) (v w : List ℕ) → product_of braid v ≡ product_of braid w → MoveAlike braid v w
alike_by_product braid v w e j l = sym (image_at braid v j l) ∙ ap (λ g. slice_index g (j - 1)) e ∙ image_at braid w j l

left_alike : (braid : BraidValue) → IsRack braid → (w v : List ℕ) → IsWordOver braid.letters w → IsWordOver braid.letters v → (c : ℕ) → IsLetter braid c → MoveAlike braid (v ++ c ∷ []) w → MoveAlike braid (product_image braid w c ∷ v) w
left_alike braid rack w v over_w over_v c lc h j lj =
    let (lk, e) = unact_is_before braid rack c lc j lj in
    ap (λ i. act braid (product_image braid w c) (product_image braid v i)) (sym e) ∙ ap (act braid (product_image braid w c)) (sym (product_image-append braid v (c ∷ []) (unact braid c j)) ∙ h (unact braid c j) lk)
    ∙ sym (moved_act braid rack w over_w c (unact braid c j) lc lk) ∙ ap (product_image braid w) e

right_alike : (braid : BraidValue) → IsRack braid → (w v : List ℕ) → IsWordOver braid.letters w → IsWordOver braid.letters v → (c : ℕ) → IsLetter braid c → MoveAlike braid (product_image braid w c ∷ v) w → MoveAlike braid (v ++ c ∷ []) w
right_alike braid rack w v over_w over_v c lc h j lj =
    product_image-append braid v (c ∷ []) j
    ∙ rack.injective (product_image braid w c) (product_image braid v (act braid c j)) (product_image braid w j) (moved_letter braid rack w over_w c lc) (moved_letter braid rack v over_v (act braid c j) (rack.closed c j lc lj)) (moved_letter braid rack w over_w j lj)
    (h (act braid c j) (rack.closed c j lc lj) ∙ moved_act braid rack w over_w c j lc lj)

-- with c behind a word has product g exactly where it has it with g(c) in front
pub left_product : (braid : BraidValue) → IsBraid braid → (m : ℕ) (g : List ℕ) → Contains (products braid m) g → (v : List ℕ) → IsWordOver braid.letters v → (c : ℕ) → IsLetter braid c → product_of braid (v ++ c ∷ []) ≡ g → product_of braid (slice_index g (c - 1) ∷ v) ≡ g
left_product braid is m g there v over c lc e =
    let (w, size, over_w, same) = (products_are_of_words braid m g).0 there in
    let image : slice_index g (c - 1) ≡ product_image braid w c = ap (λ h. slice_index h (c - 1)) (sym same) ∙ image_at braid w c lc in
    ap (λ a. product_of braid (a ∷ v)) image
    ∙ same_product braid (product_image braid w c ∷ v) w (left_alike braid is.rack w v over_w over c lc (alike_by_product braid (v ++ c ∷ []) w (e ∙ sym same))) ∙ same

pub right_product : (braid : BraidValue) → IsBraid braid → (m : ℕ) (g : List ℕ) → Contains (products braid m) g → (v : List ℕ) → IsWordOver braid.letters v → (c : ℕ) → IsLetter braid c → product_of braid (slice_index g (c - 1) ∷ v) ≡ g → product_of braid (v ++ c ∷ []) ≡ g
right_product braid is m g there v over c lc e =
    let (w, size, over_w, same) = (products_are_of_words braid m g).0 there in
    let image : slice_index g (c - 1) ≡ product_image braid w c = ap (λ h. slice_index h (c - 1)) (sym same) ∙ image_at braid w c lc in
    same_product braid (v ++ c ∷ []) w (right_alike braid is.rack w v over_w over c lc (alike_by_product braid (product_image braid w c ∷ v) w (ap (λ a. product_of braid (a ∷ v)) (sym image) ∙ e ∙ sym same))) ∙ same

-- ---- left lower blocks

pub in_left_lower_basis : (braid : BraidValue) (m : ℕ) (g : List ℕ) (a : ℕ) (v : List ℕ) → Contains (basis is_killed braid m) v → product_of braid (a ∷ v) ≡ g → Contains (left_lower_basis braid (suc m) g a) v
unfolding left_lower_basis
in_left_lower_basis braid m g a v i e = in_filter (λ u. has_product braid g (a ∷ u)) v (basis is_killed braid m) i (has_product_is braid g (a ∷ v) e)

pub from_left_lower_basis : (braid : BraidValue) (m : ℕ) (g : List ℕ) (a : ℕ) (v : List ℕ) → Contains (left_lower_basis braid (suc m) g a) v → Contains (basis is_killed braid m) v × (product_of braid (a ∷ v) ≡ g)
unfolding left_lower_basis
from_left_lower_basis braid m g a v i = let (j, h) = from_filter (λ u. has_product braid g (a ∷ u)) v (basis is_killed braid m) i in (j, product_is braid g (a ∷ v) h)

pub left_lower_basis_rises : (braid : BraidValue) (m : ℕ) (g : List ℕ) (a : ℕ) → IsRising (left_lower_basis braid m g a)
unfolding left_lower_basis
left_lower_basis_rises braid zero g a = tt
left_lower_basis_rises braid (suc m) g a = rising-filter (λ v. has_product braid g (a ∷ v)) (basis is_killed braid m) (basis_rises is_killed braid m)

-- the left lower block by g(c) is the lower block by c
pub left_lower_is_lower : (braid : BraidValue) → IsBraid braid → (m : ℕ) (g : List ℕ) → Contains (products braid m) g → (c : ℕ) → IsLetter braid c → left_lower_basis braid m g (slice_index g (c - 1)) ≡ lower_basis braid m g c
unfolding left_lower_basis lower_basis block_basis
left_lower_is_lower braid is zero g there c lc = refl
left_lower_is_lower braid is (suc m) g there c lc =
    filter_same (λ v. has_product braid g (slice_index g (c - 1) ∷ v)) (has_product braid (product_before braid c g)) (basis is_killed braid m)
    (λ v i.
    let (size, over, least) = from_basis is_killed braid m v i in
    same_answer (has_product braid g (slice_index g (c - 1) ∷ v)) (has_product braid (product_before braid c g) v)
    (λ h.
    has_product_is braid (product_before braid c g) v
    (product_before_of braid is g c lc v over (right_product braid is (suc m) g there v over c lc (product_is braid g (slice_index g (c - 1) ∷ v) h))))
    (λ h.
    has_product_is braid g (slice_index g (c - 1) ∷ v)
    (left_product braid is (suc m) g there v over c lc (product_with_letter braid is g (products_size braid (suc m) g there) c lc v (product_is braid (product_before braid c g) v h)))))

-- each letter is g(c) for a letter c
pub letter_sent_to : (braid : BraidValue) → IsBraid braid → (m : ℕ) (g : List ℕ) → Contains (products braid m) g → (a : ℕ) → IsLetter braid a → (c : ℕ) × IsLetter braid c × (slice_index g (c - 1) ≡ a)
unfolding product_of
letter_sent_to braid is m g there a la =
    let (w, size, over, same) = (products_are_of_words braid m g).0 there in
    let (c, i, e) = from_map (product_image braid w) a (up_to braid.letters) (Contains-permutation (up_to braid.letters) (product_of braid w) a (product_is_rearrangement braid is.rack w over) (in_up_to braid.letters a la)) in
    let lc : IsLetter braid c = from_up_to braid.letters c i in
    (c, lc, ap (λ h. slice_index h (c - 1)) (sym same) ∙ image_at braid w c lc ∙ sym e)
