-- In a wave there is at most one edge from a block to another: leading letters with the same lower block are one.
use Rattle.std.proofs.Common.{◌≡◌, ℕ, ◌-◌, true, List, [], ◌∷◌, sym, ap, ◌∙◌}
use Rattle.std.specs.Prelude.{find, slice_index, unwrap_or}
use Rattle.std.proofs.lemmas.Bool.{and_parts}
use Rattle.nichols_tensor.specs.Words.{IsWordOver, up_to}
use Rattle.nichols_tensor.proofs.Letters.{from_up_to}
use Rattle.nichols_braid.specs.Braid.{BraidValue, IsBraid, IsLetter, IsRack, act}
use Rattle.nichols_braid.specs.Product.{has_product, product_after, product_before, product_image, product_of}
use Rattle.nichols_braid.specs.Products.{leading}
use Rattle.nichols_braid.proofs.InlineProducts.{after_before}
use Rattle.nichols_braid.proofs.NextProducts.{products_size}
use Rattle.nichols_braid.proofs.Onto.{image_at}
use Rattle.nichols_braid.proofs.ProductListLaws.{products_are_of_words}
use Rattle.nichols_block.specs.Below.{is_lower_letter}
use Rattle.nichols_core.specs.Layout.{IsLayout}
use Rattle.nichols_value.specs.Block.{has_block}
use Rattle.nichols_shelf.specs.Plan.{PlanValue, key_at}
use Rattle.nichols_shelf.specs.Places.{edge}
use Rattle.nichols_shelf.proofs.Edges.{one_exit, placed}
use Rattle.nichols_crew.specs.Owing.{IsSimple}
use Rattle.nichols_crew.specs.Wave.{IsWave}
use Rattle.nichols_braid.proofs.InlineProducts.{value_at_letter}
use Rattle.nichols_tensor.proofs.Tests.{map_same}

image_letter : (braid : BraidValue) → IsRack braid → (w : List ℕ) → IsWordOver braid.letters w → (j : ℕ) → IsLetter braid j → IsLetter braid (product_image braid w j)
image_letter braid rack [] over j l = l
image_letter braid rack (i ∷ w) over j l = rack.closed i (product_image braid w j) over.0 (image_letter braid rack w over.1 j l)

image_tells : (braid : BraidValue) → IsRack braid → (w : List ℕ) → IsWordOver braid.letters w → (j k : ℕ) → IsLetter braid j → IsLetter braid k → product_image braid w j ≡ product_image braid w k → j ≡ k
image_tells braid rack [] over j k l m e = e
image_tells braid rack (i ∷ w) over j k l m e =
    image_tells braid rack w over.1 j k l m (rack.injective i (product_image braid w j) (product_image braid w k) over.0 (image_letter braid rack w over.1 j l) (image_letter braid rack w over.1 k m) e)

-- letters after which a product is the same act alike
after_tells : (braid : BraidValue) → IsRack braid → (w : List ℕ) → IsWordOver braid.letters w → (a c : ℕ) → IsLetter braid a → IsLetter braid c → product_after braid a (product_of braid w) ≡ product_after braid c (product_of braid w)
    → (j : ℕ) → IsLetter braid j → act braid a j ≡ act braid c j
unfolding product_after
after_tells braid rack w over a c la lc e j l =
    let f : ℕ → ℕ = λ i. slice_index (product_of braid w) (act braid a i - 1) in
    let g : ℕ → ℕ = λ i. slice_index (product_of braid w) (act braid c i - 1) in
    let same : f j ≡ g j = sym (value_at_letter braid.letters f j l) ∙ ap (λ xs. slice_index xs (j - 1)) e ∙ value_at_letter braid.letters g j l in
    image_tells braid rack w over (act braid a j) (act braid c j) (rack.closed a j la l) (rack.closed c j lc l)
    (sym (image_at braid w (act braid a j) (rack.closed a j la l)) ∙ same ∙ image_at braid w (act braid c j) (rack.closed c j lc l))

-- letters that act alike have one leading letter
same_leading : (braid : BraidValue) (a c : ℕ) → ((j : ℕ) → IsLetter braid j → act braid a j ≡ act braid c j) → leading braid a ≡ leading braid c
unfolding leading product_of
same_leading braid a c alike =
    ap (λ g. unwrap_or (find (λ b. has_product braid g (b ∷ [])) (up_to braid.letters)) 0)
    (map_same (product_image braid (a ∷ [])) (product_image braid (c ∷ [])) (up_to braid.letters) (λ j i. alike j (from_up_to braid.letters j i)))

leads : (braid : BraidValue) (m : ℕ) (g : List ℕ) (a : ℕ) → is_lower_letter braid m g a ≡ true → leading braid a ≡ a
leads braid m g a h = Rattle.std.proofs.lemmas.Bool.eqb-true (leading braid a) a (and_parts (Rattle.std.specs.Prelude.nat_eq (leading braid a) a) (has_block braid m (product_before braid a g)) h).0

pub simple_wave : (braid : BraidValue) → IsBraid braid → (last : ℕ) (g : PlanValue) → IsWave braid last g → IsLayout g.layout → IsSimple g
simple_wave braid is last g wave rules j k in_j in_k low up =
    let x = wave.lower j in_j in
    let y = wave.lower k in_k in
    let p = placed g rules j in_j in
    let h = (key_at g (edge g j).lower).product in
    let top = (key_at g (edge g j).upper).product in
    let word = (products_are_of_words braid (key_at g (edge g j).lower).degree h).0 (wave.block (edge g j).lower p.lower).there in
    let size = products_size braid (key_at g (edge g j).upper).degree top (wave.block (edge g j).upper p.upper).there in
    let one : product_after braid (edge g j).letter h ≡ top = ap (product_after braid (edge g j).letter) x.product ∙ after_before braid is.rack (edge g j).letter x.letter top size in
    let other_product : h ≡ product_before braid (edge g k).letter top = ap (λ b. (key_at g b).product) low ∙ y.product ∙ ap (λ b. product_before braid (edge g k).letter (key_at g b).product) (sym up) in
    let two : product_after braid (edge g k).letter h ≡ top = ap (product_after braid (edge g k).letter) other_product ∙ after_before braid is.rack (edge g k).letter y.letter top size in
    let alike = after_tells braid is.rack word.0 word.2 (edge g j).letter (edge g k).letter x.letter y.letter (ap (product_after braid (edge g j).letter) word.3 ∙ one ∙ sym two ∙ sym (ap (product_after braid (edge g k).letter) word.3)) in
    one_exit g.layout rules j k in_j in_k low
    (sym (leads braid (key_at g (edge g j).lower).degree top (edge g j).letter x.leading) ∙ same_leading braid (edge g j).letter (edge g k).letter alike
    ∙ leads braid (key_at g (edge g k).lower).degree (key_at g (edge g k).upper).product (edge g k).letter y.leading)
