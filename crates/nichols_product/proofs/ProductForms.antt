-- Normal forms of products.
use Rattle.std.proofs.Common.{◌≡◌, ℕ, [], ◌∷◌, length, sym, ◌∙◌}
use Rattle.std.specs.List.{AllByRecursion, Contains}
use Rattle.nichols_field.specs.Field.{FieldValue}
use Rattle.nichols_tensor.specs.Combination.{Combination, HasSameValues, minus}
use Rattle.nichols_tensor.specs.Words.{IsOver}
use Rattle.nichols_tensor.specs.Product.{product}
use Rattle.nichols_tensor.proofs.Linear.{minus_is_zero, extended_is_zero}
use Rattle.nichols_tensor.proofs.Products.{product_over, product_difference, product_difference_behind, product_is_associative}
use Rattle.nichols_braid.specs.Braid.{BraidValue, IsBraid}
use Rattle.nichols_braid.specs.Kernel.{Vanishing, IsInKernel}
use Rattle.nichols_braid.specs.Symmetrizer.{lifts}
use Rattle.nichols_braid.specs.Least.{basis}
use Rattle.nichols_braid.specs.WholeForm.{normal_form_by_parts}
use Rattle.nichols_braid.proofs.Degrees.{minus_over}
use Rattle.nichols_braid.proofs.Killed.{kernel_same}
use Rattle.nichols_braid.proofs.Reduction.{from_basis}
use Rattle.nichols_braid.proofs.WholeForms.{normal_forms_by_parts}
use Rattle.nichols_lift.specs.Reading.{IsReading}
use Rattle.nichols_lift.proofs.Readings.{reading_is_ideal}
use Rattle.nichols_lift.proofs.TwoSided.{kernel_is_two_sided}
use Rattle.nichols_reduce.proofs.ReduceLaws.{forms_tell_elements, forms_are_their_own}
use Rattle.nichols_product.specs.Laws.{FormsMultiply, FormsMultiplyAssociatively}

least_over : (vanishes : Vanishing) (braid : BraidValue) (g : Combination) → AllByRecursion (λ t. Contains (basis vanishes braid (length t.word)) t.word) g → IsOver braid.letters g
least_over vanishes braid [] h = tt
least_over vanishes braid (t ∷ g) h = ((from_basis vanishes braid (length t.word) t.word h.0).1, least_over vanishes braid g h.1)

pub form_over : (vanishes : Vanishing) (braid : BraidValue) → IsBraid braid → IsReading vanishes → (f : Combination) → IsOver braid.letters f → IsOver braid.letters (normal_form_by_parts vanishes braid f)
form_over vanishes braid is reading f over =
    least_over vanishes braid (normal_form_by_parts vanishes braid f) (normal_forms_by_parts vanishes braid is.field (reading_is_ideal braid is vanishes reading).linear f over).normal.least

-- combinations whose difference is in the kernel have one normal form
pub same_form : (vanishes : Vanishing) (braid : BraidValue) → IsBraid braid → IsReading vanishes → (f g : Combination) → IsOver braid.letters f → IsOver braid.letters g → IsInKernel braid (minus braid.field f g) →
    normal_form_by_parts vanishes braid f ≡ normal_form_by_parts vanishes braid g
same_form vanishes braid is reading f g of og h = (forms_tell_elements vanishes braid is reading f g of og).1 h

pub form_of_same : (vanishes : Vanishing) (braid : BraidValue) → IsBraid braid → IsReading vanishes → (f g : Combination) → IsOver braid.letters f → IsOver braid.letters g → HasSameValues braid.field f g →
    normal_form_by_parts vanishes braid f ≡ normal_form_by_parts vanishes braid g
form_of_same vanishes braid is reading f g of og same = same_form vanishes braid is reading f g of og (extended_is_zero braid.field is.field (lifts braid) (minus braid.field f g) (minus_is_zero braid.field is.field f g same))

-- the normal form minus the combination is in the kernel
own_difference : (vanishes : Vanishing) (braid : BraidValue) → IsBraid braid → IsReading vanishes → (f : Combination) → IsOver braid.letters f → IsInKernel braid (minus braid.field (normal_form_by_parts vanishes braid f) f)
own_difference vanishes braid is reading f over =
    (forms_tell_elements vanishes braid is reading (normal_form_by_parts vanishes braid f) f (form_over vanishes braid is reading f over) over).0 (forms_are_their_own vanishes braid is reading f over)

pub form_in_front : (vanishes : Vanishing) (braid : BraidValue) → IsBraid braid → IsReading vanishes → (f g : Combination) → IsOver braid.letters f → IsOver braid.letters g →
    normal_form_by_parts vanishes braid (product braid.field (normal_form_by_parts vanishes braid f) g) ≡ normal_form_by_parts vanishes braid (product braid.field f g)
form_in_front vanishes braid is reading f g of og =
    let k : FieldValue = braid.field in
    let h : Combination = normal_form_by_parts vanishes braid f in
    let oh : IsOver braid.letters (normal_form_by_parts vanishes braid f) = form_over vanishes braid is reading f of in
    same_form vanishes braid is reading (product k h g) (product k f g) (product_over k braid.letters h g oh og) (product_over k braid.letters f g of og)
    (kernel_same braid is.field (product k (minus k h f) g) (minus k (product k h g) (product k f g)) (product_difference k is.field h f g)
    (kernel_is_two_sided braid is (minus k h f) g (minus_over k braid.letters h f oh of) og (own_difference vanishes braid is reading f of)).first)

form_at_end : (vanishes : Vanishing) (braid : BraidValue) → IsBraid braid → IsReading vanishes → (f g : Combination) → IsOver braid.letters f → IsOver braid.letters g →
    normal_form_by_parts vanishes braid (product braid.field f (normal_form_by_parts vanishes braid g)) ≡ normal_form_by_parts vanishes braid (product braid.field f g)
form_at_end vanishes braid is reading f g of og =
    let k : FieldValue = braid.field in
    let h : Combination = normal_form_by_parts vanishes braid g in
    let oh : IsOver braid.letters (normal_form_by_parts vanishes braid g) = form_over vanishes braid is reading g og in
    same_form vanishes braid is reading (product k f h) (product k f g) (product_over k braid.letters f h of oh) (product_over k braid.letters f g of og)
    (kernel_same braid is.field (product k f (minus k h g)) (minus k (product k f h) (product k f g)) (product_difference_behind k is.field f h g)
    (kernel_is_two_sided braid is (minus k h g) f (minus_over k braid.letters h g oh og) of (own_difference vanishes braid is reading g og)).second)

pub forms_multiply : FormsMultiply
forms_multiply vanishes braid is reading f g of og =
    form_in_front vanishes braid is reading f (normal_form_by_parts vanishes braid g) of (form_over vanishes braid is reading g og) ∙ form_at_end vanishes braid is reading f g of og

pub forms_multiply_associatively : FormsMultiplyAssociatively
forms_multiply_associatively vanishes braid is reading f g h of og oh =
    let k : FieldValue = braid.field in
    let n : ℕ = braid.letters in
    let fg : IsOver braid.letters (product braid.field f g) = product_over k n f g of og in
    let gh : IsOver braid.letters (product braid.field g h) = product_over k n g h og oh in
    form_in_front vanishes braid is reading (product k f g) h fg oh
    ∙ form_of_same vanishes braid is reading (product k (product k f g) h) (product k f (product k g h)) (product_over k n (product k f g) h fg oh) (product_over k n f (product k g h) of gh) (product_is_associative k is.field f g h)
    ∙ sym (form_at_end vanishes braid is reading f (product k g h) of gh)
