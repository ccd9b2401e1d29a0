-- Sums over the letters.
use Rattle.std.proofs.Common.{◌≡◌, ℕ, zero, suc, ◌<◌, true, false, cond, List, [], ◌∷◌, ◌++◌, refl, sym, ◌∙◌, ap, ap₂, arith, nat_eq, inl, inr}
use Rattle.std.specs.List.{flat_map, Contains}
use Rattle.std.proofs.lemmas.Bool.{cases_lt}
use Rattle.std.proofs.lemmas.Bool.Decides.{nat_tests}
use Rattle.nichols_field.specs.Field.{FieldValue, IsField, IsElement, plus}
use Rattle.nichols_field.proofs.FieldLaws.{plus_assoc, plus_zero, zero_is_element, plus_is_element}
use Rattle.nichols_field.proofs.FieldAlgebra.{zero_plus, swap_middle}
use Rattle.nichols_tensor.specs.Combination.{Combination, value_at}
use Rattle.nichols_tensor.specs.Words.{up_to, IsLetterOf}
use Rattle.nichols_tensor.proofs.Entries.{contains_first, contains_later}
use Rattle.nichols_tensor.proofs.Values.{value_at-append}

-- the sum of the numbers at these indices
pub total : FieldValue → (ℕ → ℕ) → List ℕ → ℕ
total k φ [] = 0
total k φ (j ∷ js) = plus k (φ j) (total k φ js)

pub total_is_element : (k : FieldValue) → IsField k → (φ : ℕ → ℕ) (js : List ℕ) → IsElement k (total k φ js)
unfolding total
total_is_element k is φ [] = zero_is_element k is
total_is_element k is φ (j ∷ js) = plus_is_element k (φ j) (total k φ js) is

pub total_same : (k : FieldValue) (φ ψ : ℕ → ℕ) (js : List ℕ) → ((j : ℕ) → Contains js j → φ j ≡ ψ j) → total k φ js ≡ total k ψ js
unfolding total
total_same k φ ψ [] h = refl
total_same k φ ψ (j ∷ js) h = ap₂ (plus k) (h j (contains_first j js)) (total_same k φ ψ js (λ i l. h i (contains_later j js i l)))

pub total-plus : (k : FieldValue) → IsField k → (φ ψ : ℕ → ℕ) (js : List ℕ) → total k (λ j. plus k (φ j) (ψ j)) js ≡ plus k (total k φ js) (total k ψ js)
unfolding total
total-plus k is φ ψ [] = sym (plus_zero k 0 (zero_is_element k is))
total-plus k is φ ψ (j ∷ js) = ap (plus k (plus k (φ j) (ψ j))) (total-plus k is φ ψ js) ∙ swap_middle k (φ j) (ψ j) (total k φ js) (total k ψ js)

pub total_zero : (k : FieldValue) → IsField k → (φ : ℕ → ℕ) (js : List ℕ) → ((j : ℕ) → Contains js j → φ j ≡ 0) → total k φ js ≡ 0
unfolding total
total_zero k is φ [] h = refl
total_zero k is φ (j ∷ js) h = ap₂ (plus k) (h j (contains_first j js)) (total_zero k is φ js (λ i l. h i (contains_later j js i l))) ∙ plus_zero k 0 (zero_is_element k is)

pub total-append : (k : FieldValue) → IsField k → (φ : ℕ → ℕ) (is js : List ℕ) → total k φ (is ++ js) ≡ plus k (total k φ is) (total k φ js)
unfolding total
total-append k field φ [] js = sym (zero_plus k (total k φ js) (total_is_element k field φ js))
total-append k field φ (i ∷ is) js = ap (plus k (φ i)) (total-append k field φ is js) ∙ sym (plus_assoc k (φ i) (total k φ is) (total k φ js))

empty : (k : FieldValue) (φ : ℕ → ℕ) → total k φ [] ≡ 0
unfolding total
empty k φ = refl

pub alone : (k : FieldValue) → (φ : ℕ → ℕ) (j : ℕ) → total k φ (j ∷ []) ≡ plus k (φ j) 0
unfolding total
alone k φ j = refl

other_letters : (k : FieldValue) → IsField k → (n x g : ℕ) → n < x → total k (λ a. cond (nat_eq a x) g 0) (up_to n) ≡ 0
other_letters k is zero x g h = empty k (λ a. cond (nat_eq a x) g 0)
other_letters k is (suc n) x g h =
    let apart : nat_eq (suc n) x ≡ false = grind (arith, nat_tests) in
    total-append k is (λ a. cond (nat_eq a x) g 0) (up_to n) (suc n ∷ [])
    ∙ ap₂ (plus k) (other_letters k is n x g (omega arith)) (alone k (λ a. cond (nat_eq a x) g 0) (suc n) ∙ ap (λ m. plus k m 0) (ap (λ b. cond b g 0) apart) ∙ plus_zero k 0 (zero_is_element k is))
    ∙ plus_zero k 0 (zero_is_element k is)

-- one letter alone counts
pub one_letter : (k : FieldValue) → IsField k → (n x g : ℕ) → IsLetterOf n x → IsElement k g → total k (λ a. cond (nat_eq a x) g 0) (up_to n) ≡ g
one_letter k is zero x g letter e = absurd (omega arith)
one_letter k is (suc n) x g letter e =
    total-append k is (λ a. cond (nat_eq a x) g 0) (up_to n) (suc n ∷ []) ∙ ap (plus k (total k (λ a. cond (nat_eq a x) g 0) (up_to n))) (alone k (λ a. cond (nat_eq a x) g 0) (suc n))
    ∙ elim (cases_lt x (suc n)) [
      | inl less ↦
          ap₂ (λ m b. plus k m (plus k (cond b g 0) 0)) (one_letter k is n x g (letter.0, omega arith) e) (let f : nat_eq (suc n) x ≡ false = grind (arith, nat_tests) in f)
          ∙ ap (plus k g) (plus_zero k 0 (zero_is_element k is)) ∙ plus_zero k g e
      | inr more ↦
          ap₂ (λ m b. plus k m (plus k (cond b g 0) 0)) (other_letters k is n x g (omega arith)) (let f : nat_eq (suc n) x ≡ true = grind (arith, nat_tests) in f)
          ∙ ap (plus k 0) (plus_zero k g e) ∙ zero_plus k g e
    ]

-- the values of a sum over the letters
pub value_at-flat_map : (k : FieldValue) → IsField k → (f : ℕ → Combination) (js : List ℕ) (v : List ℕ) → value_at k (flat_map f js) v ≡ total k (λ j. value_at k (f j) v) js
unfolding total
value_at-flat_map k is f [] v = refl
value_at-flat_map k is f (j ∷ js) v = value_at-append k is (f j) (flat_map f js) v ∙ ap (plus k (value_at k (f j) v)) (value_at-flat_map k is f js v)
