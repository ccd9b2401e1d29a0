-- Products of combinations: they are linear on both sides, and associative.
use Rattle.std.proofs.Common.{◌≡◌, ℕ, List, [], ◌∷◌, ◌++◌, map, refl, sym, ◌∙◌, ap, ap₂, append_assoc}
use Rattle.std.proofs.lemmas.List.{map-append}
use Rattle.nichols_field.specs.Field.{FieldValue, IsField, plus, times, negative}
use Rattle.nichols_field.proofs.FieldLaws.{plus_zero, times_zero, zero_is_element}
use Rattle.nichols_tensor.specs.Combination.{Combination, value_at, HasSameValues, single, scalar_multiple, minus, linear_map}
use Rattle.nichols_tensor.specs.Words.{IsWordOver, IsOver}
use Rattle.nichols_tensor.proofs.Over.{word_over-append, all-append, all-scalar_multiple}
use Rattle.nichols_tensor.proofs.Values.{weight, value_at-linear_map}
use Rattle.nichols_tensor.proofs.Linear.{linear_map-append, linear_map-scalar_multiple, same_images, same_append, same_scaled}
use Rattle.nichols_tensor.proofs.Maps.{same_weight_on, everywhere, weight-plus, weight-times, extended_same, linear_map-linear_map, reworded_is_extended}
use Rattle.nichols_tensor.specs.Product.{prefixed, product}
use Rattle.nichols_tensor.specs.Laws.{ProductIsAssociative}

-- the word u put behind each word
abbrev pub suffixed : Combination → List ℕ → Combination
suffixed f u = map (λ t. record { word = t.word ++ u; coefficient = t.coefficient }) f

-- ---- a word before, and behind, as linear maps

prefixed_is : (k : FieldValue) → IsField k → (v : List ℕ) (g : Combination) → HasSameValues k (prefixed v g) (linear_map k (λ u. single (v ++ u)) g)
prefixed_is k is v g = reworded_is_extended k is (λ u. v ++ u) g

suffixed_is : (k : FieldValue) → IsField k → (u : List ℕ) (f : Combination) → HasSameValues k (suffixed f u) (linear_map k (λ v. single (v ++ u)) f)
suffixed_is k is u f = reworded_is_extended k is (λ v. v ++ u) f

prefixed_same : (k : FieldValue) → IsField k → (v : List ℕ) (f g : Combination) → HasSameValues k f g → HasSameValues k (prefixed v f) (prefixed v g)
prefixed_same k is v f g same w = prefixed_is k is v f w ∙ same_images k is (λ u. single (v ++ u)) f g same w ∙ sym (prefixed_is k is v g w)

-- ---- the product from either side

weight_nothing : (k : FieldValue) → IsField k → (f : Combination) → weight k (λ v. 0) f ≡ 0
unfolding weight
weight_nothing k is [] = refl
weight_nothing k is (t ∷ f) = ap₂ (plus k) (times_zero k t.coefficient is) (weight_nothing k is f) ∙ plus_zero k 0 (zero_is_element k is)

same_weight : (k : FieldValue) (φ ψ : List ℕ → ℕ) (f : Combination) → ((v : List ℕ) → φ v ≡ ψ v) → weight k φ f ≡ weight k ψ f
same_weight k φ ψ f h = same_weight_on k φ ψ f (everywhere (λ t. φ t.word ≡ ψ t.word) f (λ t. h t.word))

-- weights of weights, in either order
weights_swapped : (k : FieldValue) → IsField k → (φ : List ℕ → List ℕ → ℕ) (f g : Combination) → weight k (λ v. weight k (φ v) g) f ≡ weight k (λ u. weight k (λ v. φ v u) f) g
unfolding weight
weights_swapped k is φ f [] = weight_nothing k is f
weights_swapped k is φ f (t ∷ g) =
    weight-plus k is (λ v. times k t.coefficient (φ v t.word)) (λ v. weight k (φ v) g) f
    ∙ ap₂ (plus k) (weight-times k is t.coefficient (λ v. φ v t.word) f) (weights_swapped k is φ f g)

-- the product as a sum over the words of the second factor
pub product_from_behind : (k : FieldValue) → IsField k → (f g : Combination) → HasSameValues k (product k f g) (linear_map k (λ u. suffixed f u) g)
unfolding product
product_from_behind k is f g w =
    value_at-linear_map k is (λ v. prefixed v g) f w
    ∙ same_weight k (λ v. value_at k (prefixed v g) w) (λ v. weight k (λ u. value_at k (single (v ++ u)) w) g) f (λ v. prefixed_is k is v g w ∙ value_at-linear_map k is (λ u. single (v ++ u)) g w)
    ∙ weights_swapped k is (λ v u. value_at k (single (v ++ u)) w) f g
    ∙ same_weight k (λ u. weight k (λ v. value_at k (single (v ++ u)) w) f) (λ u. value_at k (suffixed f u) w) g (λ u. sym (suffixed_is k is u f w ∙ value_at-linear_map k is (λ v. single (v ++ u)) f w))
    ∙ sym (value_at-linear_map k is (λ u. suffixed f u) g w)

-- ---- linear on both sides

pub product_same : (k : FieldValue) → IsField k → (f f' g g' : Combination) → HasSameValues k f f' → HasSameValues k g g' → HasSameValues k (product k f g) (product k f' g')
unfolding product
product_same k is f f' g g' p q w =
    extended_same k is (λ v. prefixed v g) (λ v. prefixed v g') f (λ v. prefixed_same k is v g g' q) w ∙ same_images k is (λ v. prefixed v g') f f' p w

linear_difference : (k : FieldValue) → IsField k → (image : List ℕ → Combination) (f f' : Combination) → HasSameValues k (linear_map k image (minus k f f')) (minus k (linear_map k image f) (linear_map k image f'))
linear_difference k is image f f' w =
    ap (λ g. value_at k g w) (linear_map-append k image f (scalar_multiple k (negative k 1) f'))
    ∙ same_append k is (linear_map k image f) (linear_map k image (scalar_multiple k (negative k 1) f')) (linear_map k image f) (scalar_multiple k (negative k 1) (linear_map k image f')) (λ v. refl)
    (linear_map-scalar_multiple k is image (negative k 1) f') w

pub minus_same : (k : FieldValue) → IsField k → (f g f' g' : Combination) → HasSameValues k f f' → HasSameValues k g g' → HasSameValues k (minus k f g) (minus k f' g')
minus_same k is f g f' g' p q = same_append k is f (scalar_multiple k (negative k 1) g) f' (scalar_multiple k (negative k 1) g') p (same_scaled k is (negative k 1) g g' q)

pub product_difference : (k : FieldValue) → IsField k → (f f' g : Combination) → HasSameValues k (product k (minus k f f') g) (minus k (product k f g) (product k f' g))
unfolding product
product_difference k is f f' g = linear_difference k is (λ v. prefixed v g) f f'

pub product_difference_behind : (k : FieldValue) → IsField k → (f g g' : Combination) → HasSameValues k (product k f (minus k g g')) (minus k (product k f g) (product k f g'))
product_difference_behind k is f g g' w =
    product_from_behind k is f (minus k g g') w ∙ linear_difference k is (λ u. suffixed f u) g g' w
    ∙ sym (minus_same k is (product k f g) (product k f g') (linear_map k (λ u. suffixed f u) g) (linear_map k (λ u. suffixed f u) g') (product_from_behind k is f g) (product_from_behind k is f g') w)

-- ---- associative

pub nothing_in_front : (f : Combination) → prefixed [] f ≡ f
nothing_in_front [] = refl
nothing_in_front (t ∷ f) = ap (λ r. t ∷ r) (nothing_in_front f)

prefixed-append : (v : List ℕ) (f g : Combination) → prefixed v (f ++ g) ≡ prefixed v f ++ prefixed v g
prefixed-append v f g = map-append (λ t. record { word = v ++ t.word; coefficient = t.coefficient }) f g

prefixed-scalar_multiple : (k : FieldValue) (c : ℕ) (v : List ℕ) (f : Combination) → prefixed v (scalar_multiple k c f) ≡ scalar_multiple k c (prefixed v f)
prefixed-scalar_multiple k c v [] = refl
prefixed-scalar_multiple k c v (t ∷ f) = ap (λ r. record { word = v ++ t.word; coefficient = times k c t.coefficient } ∷ r) (prefixed-scalar_multiple k c v f)

prefixed-prefixed : (v u : List ℕ) (f : Combination) → prefixed v (prefixed u f) ≡ prefixed (v ++ u) f
prefixed-prefixed v u [] = refl
prefixed-prefixed v u (t ∷ f) = ap₂ (λ (x : List ℕ) (r : Combination). record { word = x; coefficient = t.coefficient } ∷ r) (sym (append_assoc v u t.word)) (prefixed-prefixed v u f)

prefixed_product : (k : FieldValue) (v : List ℕ) (g h : Combination) → linear_map k (λ x. prefixed x h) (prefixed v g) ≡ prefixed v (linear_map k (λ u. prefixed u h) g)
prefixed_product k v [] h = refl
prefixed_product k v (t ∷ g) h =
    ap₂ (λ x y. x ++ y)
    (ap (scalar_multiple k t.coefficient) (sym (prefixed-prefixed v t.word h)) ∙ sym (prefixed-scalar_multiple k t.coefficient v (prefixed t.word h)))
    (prefixed_product k v g h)
    ∙ sym (prefixed-append v (scalar_multiple k t.coefficient (prefixed t.word h)) (linear_map k (λ u. prefixed u h) g))

pub product_is_associative : ProductIsAssociative
unfolding product
product_is_associative k is f g h w =
    linear_map-linear_map k is (λ v. prefixed v g) (λ x. prefixed x h) f w
    ∙ extended_same k is (λ v. linear_map k (λ x. prefixed x h) (prefixed v g)) (λ v. prefixed v (linear_map k (λ u. prefixed u h) g)) f (λ v u. ap (λ r. value_at k r u) (prefixed_product k v g h)) w

-- ---- letters

pub prefixed_over : (n : ℕ) (v : List ℕ) (f : Combination) → IsWordOver n v → IsOver n f → IsOver n (prefixed v f)
prefixed_over n v [] h all = tt
prefixed_over n v (t ∷ f) h all = (word_over-append n v t.word h all.0, prefixed_over n v f h all.1)

pub product_over : (k : FieldValue) (n : ℕ) (f g : Combination) → IsOver n f → IsOver n g → IsOver n (product k f g)
unfolding product
product_over k n [] g of og = tt
product_over k n (t ∷ f) g of og =
    all-append (λ u. IsWordOver n u.word) (scalar_multiple k t.coefficient (prefixed t.word g)) (linear_map k (λ v. prefixed v g) f)
    (all-scalar_multiple (IsWordOver n) k t.coefficient (prefixed t.word g) (prefixed_over n t.word g of.0 og)) (product_over k n f g of.1 og)
