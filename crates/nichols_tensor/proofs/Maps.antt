-- More on linear maps: their sums, multiples and composites, and those that replace each word by another.
use Rattle.std.proofs.Common.{◌≡◌, ℕ, Bool, true, false, cond, List, [], ◌∷◌, ◌++◌, map, refl, sym, ◌∙◌, ap}
use Rattle.std.specs.List.{AllByRecursion}
use Rattle.nichols_field.specs.Field.{FieldValue, IsField, IsElement, plus, times}
use Rattle.nichols_field.proofs.FieldLaws.{plus_comm, plus_zero, times_plus, times_comm, times_zero, plus_is_element, zero_is_element}
use Rattle.nichols_field.proofs.FieldAlgebra.{one_times, swap_middle, swap_factors}
use Rattle.nichols_tensor.specs.Combination.{Combination, value_at, HasSameValues, IsZero, single, scalar_multiple, linear_map, same_letters}
use Rattle.nichols_tensor.proofs.Values.{value_is_element, value_at-append, value_at-scalar_multiple, weight, value_at-linear_map}
use Rattle.nichols_tensor.proofs.Linear.{linear_map-append, linear_map-scalar_multiple, same_append}

-- ---- weights

pub same_weight_on : (k : FieldValue) (φ ψ : List ℕ → ℕ) (f : Combination) → AllByRecursion (λ t. φ t.word ≡ ψ t.word) f → weight k φ f ≡ weight k ψ f
unfolding weight
same_weight_on k φ ψ [] h = refl
same_weight_on k φ ψ (t ∷ f) h =
    ap (λ n. plus k (times k t.coefficient n) (weight k φ f)) h.0 ∙ ap (plus k (times k t.coefficient (ψ t.word))) (same_weight_on k φ ψ f h.1)

pub everywhere : {X : Type 0} (P : X → Type 0) (xs : List X) → ((x : X) → P x) → AllByRecursion P xs
everywhere P [] h = tt
everywhere P (x ∷ xs) h = (h x, everywhere P xs h)

pub weight-plus : (k : FieldValue) → IsField k → (φ ψ : List ℕ → ℕ) (f : Combination) → weight k (λ v. plus k (φ v) (ψ v)) f ≡ plus k (weight k φ f) (weight k ψ f)
unfolding weight
weight-plus k is φ ψ [] = sym (plus_zero k 0 (zero_is_element k is))
weight-plus k is φ ψ (t ∷ f) =
    ap (plus k (times k t.coefficient (plus k (φ t.word) (ψ t.word)))) (weight-plus k is φ ψ f)
    ∙ ap (λ n. plus k n (plus k (weight k φ f) (weight k ψ f))) (times_plus k t.coefficient (φ t.word) (ψ t.word))
    ∙ swap_middle k (times k t.coefficient (φ t.word)) (times k t.coefficient (ψ t.word)) (weight k φ f) (weight k ψ f)

pub weight-times : (k : FieldValue) → IsField k → (c : ℕ) (φ : List ℕ → ℕ) (f : Combination) → weight k (λ v. times k c (φ v)) f ≡ times k c (weight k φ f)
unfolding weight
weight-times k is c φ [] = sym (times_zero k c is)
weight-times k is c φ (t ∷ f) =
    ap (plus k (times k t.coefficient (times k c (φ t.word)))) (weight-times k is c φ f)
    ∙ ap (λ n. plus k n (times k c (weight k φ f))) (swap_factors k t.coefficient c (φ t.word))
    ∙ sym (times_plus k c (times k t.coefficient (φ t.word)) (weight k φ f))

-- ---- maps that agree on the words that occur

pub extended_same_on : (k : FieldValue) → IsField k → (image other : List ℕ → Combination) (f : Combination) → AllByRecursion (λ t. HasSameValues k (image t.word) (other t.word)) f →
    HasSameValues k (linear_map k image f) (linear_map k other f)
extended_same_on k is image other f h w =
    value_at-linear_map k is image f w ∙ same_weight_on k (λ v. value_at k (image v) w) (λ v. value_at k (other v) w) f (at f h) ∙ sym (value_at-linear_map k is other f w)
  where
    at : (g : Combination) → AllByRecursion (λ t. HasSameValues k (image t.word) (other t.word)) g → AllByRecursion (λ t. value_at k (image t.word) w ≡ value_at k (other t.word) w) g
    at [] h = tt
    at (t ∷ g) h = (h.0 w, at g h.1)

pub extended_same : (k : FieldValue) → IsField k → (image other : List ℕ → Combination) (f : Combination) → ((v : List ℕ) → HasSameValues k (image v) (other v)) → HasSameValues k (linear_map k image f) (linear_map k other f)
extended_same k is image other f h = extended_same_on k is image other f (everywhere (λ t. HasSameValues k (image t.word) (other t.word)) f (λ t. h t.word))

-- where each word that occurs has a zero image, so has the whole
pub zero_images : (k : FieldValue) → IsField k → (image : List ℕ → Combination) (f : Combination) → AllByRecursion (λ t. IsZero k (image t.word)) f → IsZero k (linear_map k image f)
zero_images k is image f all w = extended_same_on k is image (λ v. []) f (each f all) w ∙ nothing f w
  where
    each : (f : Combination) → AllByRecursion (λ t. IsZero k (image t.word)) f → AllByRecursion (λ t. HasSameValues k (image t.word) []) f
    each [] h = tt
    each (t ∷ f) h = ((λ v. h.0 v), each f h.1)

    nothing : (f : Combination) → IsZero k (linear_map k (λ v. []) f)
    nothing [] w = refl
    nothing (t ∷ f) w = nothing f w

-- ---- sums, multiples and composites

pub linear_map-sum : (k : FieldValue) → IsField k → (image other : List ℕ → Combination) (f : Combination) →
    HasSameValues k (linear_map k (λ v. image v ++ other v) f) (linear_map k image f ++ linear_map k other f)
linear_map-sum k is image other f w =
    value_at-linear_map k is (λ v. image v ++ other v) f w
    ∙ same_weight_on k (λ v. value_at k (image v ++ other v) w) (λ v. plus k (value_at k (image v) w) (value_at k (other v) w)) f
    (everywhere (λ t. value_at k (image t.word ++ other t.word) w ≡ plus k (value_at k (image t.word) w) (value_at k (other t.word) w)) f (λ t. value_at-append k is (image t.word) (other t.word) w))
    ∙ weight-plus k is (λ v. value_at k (image v) w) (λ v. value_at k (other v) w) f
    ∙ ap (λ n. plus k n (weight k (λ v. value_at k (other v) w) f)) (sym (value_at-linear_map k is image f w))
    ∙ ap (plus k (value_at k (linear_map k image f) w)) (sym (value_at-linear_map k is other f w))
    ∙ sym (value_at-append k is (linear_map k image f) (linear_map k other f) w)

pub linear_map-multiple : (k : FieldValue) → IsField k → (c : ℕ) (image : List ℕ → Combination) (f : Combination) →
    HasSameValues k (linear_map k (λ v. scalar_multiple k c (image v)) f) (scalar_multiple k c (linear_map k image f))
linear_map-multiple k is c image f w =
    value_at-linear_map k is (λ v. scalar_multiple k c (image v)) f w
    ∙ same_weight_on k (λ v. value_at k (scalar_multiple k c (image v)) w) (λ v. times k c (value_at k (image v) w)) f
    (everywhere (λ t. value_at k (scalar_multiple k c (image t.word)) w ≡ times k c (value_at k (image t.word) w)) f (λ t. value_at-scalar_multiple k is c (image t.word) w))
    ∙ weight-times k is c (λ v. value_at k (image v) w) f
    ∙ ap (times k c) (sym (value_at-linear_map k is image f w))
    ∙ sym (value_at-scalar_multiple k is c (linear_map k image f) w)

pub linear_map-linear_map : (k : FieldValue) → IsField k → (image other : List ℕ → Combination) (f : Combination) →
    HasSameValues k (linear_map k other (linear_map k image f)) (linear_map k (λ v. linear_map k other (image v)) f)
linear_map-linear_map k is image other [] w = refl
linear_map-linear_map k is image other (t ∷ f) w =
    ap (λ g. value_at k g w) (linear_map-append k other (scalar_multiple k t.coefficient (image t.word)) (linear_map k image f))
    ∙ same_append k is (linear_map k other (scalar_multiple k t.coefficient (image t.word))) (linear_map k other (linear_map k image f)) (scalar_multiple k t.coefficient (linear_map k other (image t.word))) (linear_map k (λ v. linear_map k other (image v)) f)
    (linear_map-scalar_multiple k is other t.coefficient (image t.word)) (linear_map-linear_map k is image other f) w

pub same_commuted : (k : FieldValue) → IsField k → (f g : Combination) → HasSameValues k (f ++ g) (g ++ f)
same_commuted k is f g w = value_at-append k is f g w ∙ plus_comm k (value_at k f w) (value_at k g w) ∙ sym (value_at-append k is g f w)

-- ---- maps that replace each word

-- c and c 1 are alike in a sum
pub plus_times_one : (k : FieldValue) → IsField k → (c n : ℕ) → IsElement k n → plus k (times k c 1) n ≡ plus k c n
plus_times_one k is c n e =
    ap (λ m. plus k m n) (times_comm k c 1) ∙ ap (plus k (times k 1 c)) (sym (one_times k n e)) ∙ sym (times_plus k 1 c n) ∙ one_times k (plus k c n) (plus_is_element k c n is)

chosen_times_one : (k : FieldValue) → IsField k → (b : Bool) (c n : ℕ) → IsElement k n → plus k (cond b (times k c 1) 0) n ≡ plus k (cond b c 0) n
chosen_times_one k is true c n e = plus_times_one k is c n e
chosen_times_one k is false c n e = refl

-- f with each word replaced
abbrev pub reworded : (List ℕ → List ℕ) → Combination → Combination
reworded word f = map (λ t. record { word = word t.word; coefficient = t.coefficient }) f

pub reworded_is_extended : (k : FieldValue) → IsField k → (word : List ℕ → List ℕ) (f : Combination) → HasSameValues k (reworded word f) (linear_map k (λ v. single (word v)) f)
reworded_is_extended k is word [] w = refl
reworded_is_extended k is word (t ∷ f) w =
    ap (plus k (cond (same_letters (word t.word) w) t.coefficient 0)) (reworded_is_extended k is word f w)
    ∙ sym (chosen_times_one k is (same_letters (word t.word) w) t.coefficient (value_at k (linear_map k (λ v. single (word v)) f) w) (value_is_element k is (linear_map k (λ v. single (word v)) f) w))

reworded_same : (word : List ℕ → List ℕ) → ((v : List ℕ) → word v ≡ v) → (f : Combination) → reworded word f ≡ f
reworded_same word h [] = refl
reworded_same word h (t ∷ f) = ap (λ v. record { word = v; coefficient = t.coefficient } ∷ reworded word f) (h t.word) ∙ ap (λ r. t ∷ r) (reworded_same word h f)

pub extended_identity : (k : FieldValue) → IsField k → (f : Combination) → HasSameValues k (linear_map k single f) f
extended_identity k is f w = sym (reworded_is_extended k is (λ v. v) f w) ∙ ap (λ g. value_at k g w) (reworded_same (λ v. v) (λ v. refl) f)
