-- The laws of products, each as its statement has it.
use Rattle.std.proofs.Common.{◌≡◌, [], ◌∷◌, ◌++◌, refl, sym}
use Rattle.nichols_tensor.specs.Combination.{Term}
use Rattle.nichols_tensor.proofs.Over.{all-weaker}
use Rattle.nichols_braid.specs.Braid.{act}
use Rattle.nichols_braid.specs.Derivation.{derived_word}
use Rattle.nichols_braid.specs.Product.{product_of, unact, product_before}
use Rattle.nichols_braid.specs.ProductLaws.{ProductsAreBijections, UnactIsBeforeAct, ProductBeforeALetter, CrossingKeepsProduct, CrossingsKeepProduct, LiftsKeepProduct, DerivativesKeepProduct, ProductsOfDerivatives, KernelSplitsByProduct, KilledSplitsByProduct}
use Rattle.nichols_braid.proofs.KeptProducts.{MoveAlike, same_product, cross_product, crossed_product, lifts_product, derived_alike}
use Rattle.nichols_braid.proofs.Onto.{unact_is_before, product_is_rearrangement, product_before_alike}
use Rattle.nichols_braid.proofs.SplitByProduct.{kernel_part, kernel_from_parts, killed_part, killed_from_parts}

pub products_are_bijections : ProductsAreBijections
products_are_bijections braid is w over = product_is_rearrangement braid is.rack w over

pub unact_is_before_act : UnactIsBeforeAct
unact_is_before_act braid is a j la lj =
    let (l, e) = unact_is_before braid is.rack a la j lj in
    let (back, same) = unact_is_before braid is.rack a la (act braid a j) (is.rack.closed a j la lj) in
    (l, e, is.rack.injective a (unact braid a (act braid a j)) j la back lj same)

pub product_before_a_letter : ProductBeforeALetter
product_before_a_letter braid is w a over la = sym (product_before_alike braid is.rack a la w (w ++ a ∷ []) (λ j l. refl))

pub crossing_keeps_product : CrossingKeepsProduct
crossing_keeps_product braid is i w over = cross_product braid is.rack i w over

pub crossings_keep_product : CrossingsKeepProduct
crossings_keep_product braid is places t over = crossed_product braid is.rack places t.word t.coefficient over

pub lifts_keep_product : LiftsKeepProduct
lifts_keep_product braid is w over = lifts_product braid is.rack w over

pub derivatives_keep_product : DerivativesKeepProduct
derivatives_keep_product braid is a w la over =
    all-weaker (λ (t : Term). MoveAlike braid (t.word ++ a ∷ []) w) (λ (t : Term). product_of braid (t.word ++ a ∷ []) ≡ product_of braid w) (λ t h. same_product braid (t.word ++ a ∷ []) w h) (derived_word braid a w)
    (derived_alike braid is.rack a la w over)

pub products_of_derivatives : ProductsOfDerivatives
products_of_derivatives braid is a w la over =
    all-weaker (λ (t : Term). MoveAlike braid (t.word ++ a ∷ []) w) (λ (t : Term). product_of braid t.word ≡ product_before braid a (product_of braid w)) (λ t h. product_before_alike braid is.rack a la t.word w h) (derived_word braid a w)
    (derived_alike braid is.rack a la w over)

pub kernel_splits_by_product : KernelSplitsByProduct
kernel_splits_by_product braid is f over = (kernel_part braid is.field is.rack f over, kernel_from_parts braid is.field f)

pub killed_splits_by_product : KilledSplitsByProduct
killed_splits_by_product braid is m f over = (killed_part braid is.field is.rack m f over, killed_from_parts braid is.field m f)
