-- Sums of products of coefficients, as linear functions of a combination.
use Rattle.std.proofs.Common.{◌≡◌, ℕ, List, [], ◌∷◌, refl, sym, ◌∙◌, ap, ap₂}
use Rattle.std.specs.List.{Contains}
use Rattle.nichols_field.specs.Field.{FieldValue, IsField, plus, times, sum_by}
use Rattle.nichols_field.proofs.FieldLaws.{plus_zero, times_zero, zero_is_element}
use Rattle.nichols_tensor.specs.Combination.{Combination, value_at, IsZero, linear_map}
use Rattle.nichols_tensor.proofs.Entries.{contains_first, contains_later}
use Rattle.nichols_tensor.proofs.Values.{weight, value_at-linear_map}
use Rattle.nichols_tensor.proofs.Maps.{same_weight_on, everywhere, weight-plus, weight-times}
use Rattle.nichols_check.specs.Table.{paired}

-- ---- weights of sums

pub weight_nothing : (k : FieldValue) → IsField k → (f : Combination) → weight k (λ v. 0) f ≡ 0
unfolding weight
weight_nothing k is [] = refl
weight_nothing k is (t ∷ f) = ap₂ (plus k) (times_zero k t.coefficient is) (weight_nothing k is f) ∙ plus_zero k 0 (zero_is_element k is)

same_weight : (k : FieldValue) (φ ψ : List ℕ → ℕ) (f : Combination) → ((v : List ℕ) → φ v ≡ ψ v) → weight k φ f ≡ weight k ψ f
same_weight k φ ψ f h = same_weight_on k φ ψ f (everywhere (λ t. φ t.word ≡ ψ t.word) f (λ t. h t.word))

-- the weight of a sum over a list is the sum of the weights
weight_of_sums : {X : Type 0} (k : FieldValue) → IsField k → (φ : X → List ℕ → ℕ) (xs : List X) (f : Combination) →
    weight k (λ v. sum_by k (λ x. φ x v) xs) f ≡ sum_by k (λ x. weight k (φ x) f) xs
weight_of_sums k is φ [] f = weight_nothing k is f
weight_of_sums k is φ (x ∷ xs) f =
    weight-plus k is (φ x) (λ v. sum_by k (λ y. φ y v) xs) f ∙ ap (plus k (weight k (φ x) f)) (weight_of_sums k is φ xs f)

-- a sum of nothings
nothing_in_sum : {X : Type 0} (k : FieldValue) → IsField k → (φ : X → ℕ) (xs : List X) → ((x : X) → Contains xs x → φ x ≡ 0) → sum_by k φ xs ≡ 0
nothing_in_sum k is φ [] h = refl
nothing_in_sum k is φ (x ∷ xs) h =
    ap₂ (plus k) (h x (contains_first x xs)) (nothing_in_sum k is φ xs (λ y i. h y (contains_later x xs y i))) ∙ plus_zero k 0 (zero_is_element k is)

-- ---- pairing

-- g against a linear image of f is the sum over f of g against the image of each word
pub paired_with_image : (k : FieldValue) → IsField k → (image : List ℕ → Combination) (g f : Combination) → weight k (λ w. paired k g (image w)) f ≡ paired k g (linear_map k image f)
unfolding paired
paired_with_image k is image [] f = weight_nothing k is f
paired_with_image k is image (t ∷ g) f =
    weight-plus k is (λ w. times k t.coefficient (value_at k (image w) t.word)) (λ w. paired k g (image w)) f
    ∙ ap₂ (plus k)
    (weight-times k is t.coefficient (λ w. value_at k (image w) t.word) f ∙ ap (times k t.coefficient) (sym (value_at-linear_map k is image f t.word)))
    (paired_with_image k is image g f)

pub paired_with_zero : (k : FieldValue) → IsField k → (g f : Combination) → IsZero k f → paired k g f ≡ 0
unfolding paired
paired_with_zero k is [] f h = refl
paired_with_zero k is (t ∷ g) f h =
    ap₂ (plus k) (ap (times k t.coefficient) (h t.word) ∙ times_zero k t.coefficient is) (paired_with_zero k is g f h) ∙ plus_zero k 0 (zero_is_element k is)

-- what pairings of the images of words make of a combination whose images are zero
pub sums_of_pairings : {X : Type 0} (k : FieldValue) → IsField k → (g : X → Combination) (image : X → List ℕ → Combination) (xs : List X) (f : Combination) →
    ((x : X) → Contains xs x → IsZero k (linear_map k (image x) f)) → weight k (λ w. sum_by k (λ x. paired k (g x) (image x w)) xs) f ≡ 0
sums_of_pairings k is g image xs f h =
    weight_of_sums k is (λ x w. paired k (g x) (image x w)) xs f
    ∙ nothing_in_sum k is (λ x. weight k (λ w. paired k (g x) (image x w)) f) xs
    (λ x i. paired_with_image k is (image x) (g x) f ∙ paired_with_zero k is (g x) (linear_map k (image x) f) (h x i))
