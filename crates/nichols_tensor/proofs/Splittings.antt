-- The value of a product at a word, as a sum over the splittings of the word.
use Rattle.std.proofs.Common.{◌≡◌, ℕ, Bool, true, false, cond, List, [], ◌∷◌, ◌++◌, map, nat_eq, refl, sym, ◌∙◌, ap, ap₂}
use Rattle.std.specs.Prelude.{◌&&◌}
use Rattle.nichols_field.specs.Field.{FieldValue, IsField, plus, times, sum_by}
use Rattle.nichols_field.proofs.FieldLaws.{plus_zero, times_zero, zero_is_element, times_is_element}
use Rattle.nichols_field.proofs.FieldAlgebra.{zero_plus, zero_times, plus_times, swap_middle}
use Rattle.nichols_tensor.specs.Combination.{Combination, value_at, scalar_multiple, linear_map, same_letters}
use Rattle.nichols_tensor.proofs.Products.{nothing_in_front}
use Rattle.nichols_tensor.proofs.Values.{value_at-append, value_at-scalar_multiple}
use Rattle.nichols_tensor.specs.Product.{prefixed, product, splittings, Splitting}
use Rattle.nichols_tensor.specs.Laws.{ProductIsBySplittings}

-- ---- sums

sum_of_zeros : {X : Type 0} (k : FieldValue) → IsField k → (φ : X → ℕ) (xs : List X) → ((x : X) → φ x ≡ 0) → sum_by k φ xs ≡ 0
sum_of_zeros k is φ [] h = refl
sum_of_zeros k is φ (x ∷ xs) h = ap₂ (plus k) (h x) (sum_of_zeros k is φ xs h) ∙ plus_zero k 0 (zero_is_element k is)

sum_same : {X : Type 0} (k : FieldValue) (φ ψ : X → ℕ) (xs : List X) → ((x : X) → φ x ≡ ψ x) → sum_by k φ xs ≡ sum_by k ψ xs
sum_same k φ ψ [] h = refl
sum_same k φ ψ (x ∷ xs) h = ap₂ (plus k) (h x) (sum_same k φ ψ xs h)

sum_mapped : {X Y : Type 0} (k : FieldValue) (φ : Y → ℕ) (h : X → Y) (xs : List X) → sum_by k φ (map h xs) ≡ sum_by k (λ x. φ (h x)) xs
sum_mapped k φ h [] = refl
sum_mapped k φ h (x ∷ xs) = ap (plus k (φ (h x))) (sum_mapped k φ h xs)

sum_of_both : {X : Type 0} (k : FieldValue) → IsField k → (φ ψ : X → ℕ) (xs : List X) → sum_by k (λ x. plus k (φ x) (ψ x)) xs ≡ plus k (sum_by k φ xs) (sum_by k ψ xs)
sum_of_both k is φ ψ [] = sym (plus_zero k 0 (zero_is_element k is))
sum_of_both k is φ ψ (x ∷ xs) = ap (plus k (plus k (φ x) (ψ x))) (sum_of_both k is φ ψ xs) ∙ swap_middle k (φ x) (ψ x) (sum_by k φ xs) (sum_by k ψ xs)

-- ---- one word in front

value_of_longer : (k : FieldValue) → IsField k → (y : ℕ) (v : List ℕ) (g : Combination) → value_at k (prefixed (y ∷ v) g) [] ≡ 0
value_of_longer k is y v [] = refl
value_of_longer k is y v (t ∷ g) = ap (plus k 0) (value_of_longer k is y v g) ∙ plus_zero k 0 (zero_is_element k is)

value_behind_letter : (k : FieldValue) → IsField k → (y : ℕ) (v : List ℕ) (g : Combination) (x : ℕ) (w : List ℕ) → value_at k (prefixed (y ∷ v) g) (x ∷ w) ≡ cond (nat_eq y x) (value_at k (prefixed v g) w) 0
value_behind_letter k is y v [] x w = at (nat_eq y x)
  where
    at : (b : Bool) → ◌≡◌ {A = ℕ} 0 (cond b 0 0)
    at true = refl
    at false = refl
value_behind_letter k is y v (t ∷ g) x w = ap (plus k (cond (nat_eq y x && same_letters (v ++ t.word) w) t.coefficient 0)) (value_behind_letter k is y v g x w) ∙ at (nat_eq y x)
  where
    at : (b : Bool) → plus k (cond (b && same_letters (v ++ t.word) w) t.coefficient 0) (cond b (value_at k (prefixed v g) w) 0) ≡ cond b (plus k (cond (same_letters (v ++ t.word) w) t.coefficient 0) (value_at k (prefixed v g) w)) 0
    at true = refl
    at false = plus_zero k 0 (zero_is_element k is)

-- what c v adds at the splittings whose front is v
front_sum : (k : FieldValue) → IsField k → (v : List ℕ) (c : ℕ) (g : Combination) (w : List ℕ) →
    sum_by k (λ (s : Splitting). times k (cond (same_letters v s.front) c 0) (value_at k g s.back)) (splittings w) ≡ times k c (value_at k (prefixed v g) w)
front_sum k is [] c g [] =
    plus_zero k (times k c (value_at k g [])) (times_is_element k c (value_at k g []) is) ∙ ap (λ f. times k c (value_at k f [])) (sym (nothing_in_front g))
front_sum k is [] c g (x ∷ w) =
    ap (plus k (times k c (value_at k g (x ∷ w))))
    (sum_mapped k (λ (s : Splitting). times k (cond (same_letters [] s.front) c 0) (value_at k g s.back)) (λ (s : Splitting). record { front = x ∷ s.front; back = s.back }) (splittings w)
    ∙ sum_of_zeros k is (λ (s : Splitting). times k 0 (value_at k g s.back)) (splittings w) (λ s. zero_times k (value_at k g s.back) is))
    ∙ plus_zero k (times k c (value_at k g (x ∷ w))) (times_is_element k c (value_at k g (x ∷ w)) is)
    ∙ ap (λ f. times k c (value_at k f (x ∷ w))) (sym (nothing_in_front g))
front_sum k is (y ∷ v) c g [] =
    ap (λ n. plus k n 0) (zero_times k (value_at k g []) is) ∙ plus_zero k 0 (zero_is_element k is) ∙ sym (ap (times k c) (value_of_longer k is y v g) ∙ times_zero k c is)
front_sum k is (y ∷ v) c g (x ∷ w) =
    ap₂ (plus k) (zero_times k (value_at k g (x ∷ w)) is)
    (sum_mapped k (λ (s : Splitting). times k (cond (same_letters (y ∷ v) s.front) c 0) (value_at k g s.back)) (λ (s : Splitting). record { front = x ∷ s.front; back = s.back }) (splittings w)
    ∙ at (nat_eq y x) (front_sum k is v c g w))
    ∙ zero_plus k (times k c (cond (nat_eq y x) (value_at k (prefixed v g) w) 0)) (times_is_element k c (cond (nat_eq y x) (value_at k (prefixed v g) w) 0) is)
    ∙ ap (times k c) (sym (value_behind_letter k is y v g x w))
  where
    at : (b : Bool) → sum_by k (λ (s : Splitting). times k (cond (same_letters v s.front) c 0) (value_at k g s.back)) (splittings w) ≡ times k c (value_at k (prefixed v g) w) →
        sum_by k (λ (s : Splitting). times k (cond (b && same_letters v s.front) c 0) (value_at k g s.back)) (splittings w) ≡ times k c (cond b (value_at k (prefixed v g) w) 0)
    at true e = e
    at false e = sum_of_zeros k is (λ (s : Splitting). times k 0 (value_at k g s.back)) (splittings w) (λ s. zero_times k (value_at k g s.back) is) ∙ sym (times_zero k c is)

-- ---- all of them

pub product_is_by_splittings : ProductIsBySplittings
unfolding product
product_is_by_splittings k is [] g w = sym (sum_of_zeros k is (λ (s : Splitting). times k 0 (value_at k g s.back)) (splittings w) (λ s. zero_times k (value_at k g s.back) is))
product_is_by_splittings k is (t ∷ f) g w =
    value_at-append k is (scalar_multiple k t.coefficient (prefixed t.word g)) (linear_map k (λ v. prefixed v g) f) w
    ∙ ap₂ (plus k) (value_at-scalar_multiple k is t.coefficient (prefixed t.word g) w ∙ sym (front_sum k is t.word t.coefficient g w)) (product_is_by_splittings k is f g w)
    ∙ sym (sum_of_both k is (λ (s : Splitting). times k (cond (same_letters t.word s.front) t.coefficient 0) (value_at k g s.back)) (λ (s : Splitting). times k (value_at k f s.front) (value_at k g s.back)) (splittings w))
    ∙ sum_same k (λ (s : Splitting). plus k (times k (cond (same_letters t.word s.front) t.coefficient 0) (value_at k g s.back)) (times k (value_at k f s.front) (value_at k g s.back)))
    (λ (s : Splitting). times k (plus k (cond (same_letters t.word s.front) t.coefficient 0) (value_at k f s.front)) (value_at k g s.back)) (splittings w)
    (λ s. sym (plus_times k (cond (same_letters t.word s.front) t.coefficient 0) (value_at k f s.front) (value_at k g s.back)))
