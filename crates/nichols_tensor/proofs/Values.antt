-- Values of combinations: of sums, of multiples, of parts, and of linear maps.
use Rattle.std.proofs.Common.{◌≡◌, ℕ, Bool, true, false, not, cond, List, [], ◌∷◌, ◌++◌, refl, sym, ◌∙◌, ap, subst, ap₂}
use Rattle.std.specs.Cmp.Lexicographic.{same_text}
use Rattle.std.specs.Cmp.Derive.{both_true}
use Rattle.std.proofs.lemmas.Bool.Decides.{Decides-eqb}
use Rattle.nichols_field.specs.Field.{FieldValue, IsField, IsElement, plus, times, negative, sum_by}
use Rattle.nichols_tensor.proofs.Tests.{same_answer}
use Rattle.nichols_field.proofs.FieldLaws.{times_assoc}
use Rattle.nichols_field.proofs.FieldAlgebra.{times_chosen}
use Rattle.nichols_field.proofs.Sums.{sum_is_element, sum-append, sum-multiple}
use Rattle.nichols_tensor.specs.Combination.{Term, Combination, value_at, IsZero, scalar_multiple, minus, linear_map, same_letters}
use Rattle.nichols_tensor.specs.Parts.{part}
use Rattle.nichols_tensor.proofs.Sparse.{Keyed, value_is, weighted, value_of_part, value_of_others, sum_split, weightless_by}

-- what a term adds to the value at a word
abbrev pub term_value : Term → List ℕ → ℕ
term_value t w = cond (same_letters t.word w) t.coefficient 0

pub zero_term : (t : Term) (w : List ℕ) → t.coefficient ≡ 0 → term_value t w ≡ 0
zero_term t w e = at (same_letters t.word w) t.coefficient e
  where
    at : (b : Bool) (n : ℕ) → n ≡ 0 → cond b n 0 ≡ 0
    at true n e = e
    at false n e = refl

pub same_itself : (v : List ℕ) → same_letters v v ≡ true
same_itself [] = refl
same_itself (x ∷ v) = both_true ((Decides-eqb x x).1 refl) (same_itself v)

pub same_back : (v w : List ℕ) → same_letters v w ≡ same_letters w v
same_back v w = same_answer (same_letters v w) (same_letters w v) (back v w) (back w v)
  where
    back : (v w : List ℕ) → same_letters v w ≡ true → same_letters w v ≡ true
    back v w e = subst (λ u. same_letters u v ≡ true) (same_text v w (sym e)) (same_itself v)

-- a combination is a sparse vector by its words
abbrev pub terms : Keyed Term (List ℕ)
terms = record { key = λ t. t.word; coefficient = λ t. t.coefficient; same = same_letters; one = λ v w e. same_text v w (sym e); itself = same_itself }

pub value_is_element : (k : FieldValue) → IsField k → (f : Combination) (w : List ℕ) → IsElement k (value_at k f w)
value_is_element k is f w = value_is terms k is f w

pub value_at-append : (k : FieldValue) → IsField k → (f g : Combination) (w : List ℕ) → value_at k (f ++ g) w ≡ plus k (value_at k f w) (value_at k g w)
value_at-append k is f g w = sum-append k is (λ t. term_value t w) f g

pub value_at-scalar_multiple : (k : FieldValue) → IsField k → (c : ℕ) (f : Combination) (w : List ℕ) → value_at k (scalar_multiple k c f) w ≡ times k c (value_at k f w)
value_at-scalar_multiple k is c f w =
    sum-multiple k is (λ t. term_value t w) c (λ t. record { word = t.word; coefficient = times k c t.coefficient })
    (λ t. sym (times_chosen k (same_letters t.word w) c t.coefficient is)) f

pub value_at-minus : (k : FieldValue) → IsField k → (f g : Combination) (w : List ℕ) → value_at k (minus k f g) w ≡ plus k (value_at k f w) (times k (negative k 1) (value_at k g w))
value_at-minus k is f g w = value_at-append k is f (scalar_multiple k (negative k 1) g) w ∙ ap (plus k (value_at k f w)) (value_at-scalar_multiple k is (negative k 1) g w)

-- the sum of the coefficients, each times a number that its word has
unfoldable pub weight : FieldValue → (List ℕ → ℕ) → Combination → ℕ
weight k φ f = sum_by k (λ t. times k t.coefficient (φ t.word)) f

pub weight_is_element : (k : FieldValue) → IsField k → (φ : List ℕ → ℕ) (f : Combination) → IsElement k (weight k φ f)
unfolding weight
weight_is_element k is φ f = sum_is_element k is (weighted terms k φ) f

pub weight-append : (k : FieldValue) → IsField k → (φ : List ℕ → ℕ) (f g : Combination) → weight k φ (f ++ g) ≡ plus k (weight k φ f) (weight k φ g)
unfolding weight
weight-append k is φ f g = sum-append k is (weighted terms k φ) f g

pub weight-scalar_multiple : (k : FieldValue) → IsField k → (φ : List ℕ → ℕ) (c : ℕ) (f : Combination) → weight k φ (scalar_multiple k c f) ≡ times k c (weight k φ f)
unfolding weight
weight-scalar_multiple k is φ c f =
    sum-multiple k is (weighted terms k φ) c (λ t. record { word = t.word; coefficient = times k c t.coefficient }) (λ t. times_assoc k c t.coefficient (φ t.word)) f

pub value_at-linear_map : (k : FieldValue) → IsField k → (image : List ℕ → Combination) (f : Combination) (w : List ℕ) → value_at k (linear_map k image f) w ≡ weight k (λ v. value_at k (image v) w) f
unfolding weight
value_at-linear_map k is image [] w = refl
value_at-linear_map k is image (t ∷ f) w =
    value_at-append k is (scalar_multiple k t.coefficient (image t.word)) (linear_map k image f) w
    ∙ ap (λ n. plus k n (value_at k (linear_map k image f) w)) (value_at-scalar_multiple k is t.coefficient (image t.word) w)
    ∙ ap (plus k (times k t.coefficient (value_at k (image t.word) w))) (value_at-linear_map k is image f w)

-- the weight of a combination of images is a sum of the images' weights
pub weight-linear_map : (k : FieldValue) → IsField k → (φ : List ℕ → ℕ) (image : List ℕ → Combination) (f : Combination) → weight k φ (linear_map k image f) ≡ weight k (λ w. weight k φ (image w)) f
unfolding weight
weight-linear_map k is φ image [] = refl
weight-linear_map k is φ image (t ∷ f) =
    weight-append k is φ (scalar_multiple k t.coefficient (image t.word)) (linear_map k image f) ∙ ap₂ (plus k) (weight-scalar_multiple k is φ t.coefficient (image t.word)) (weight-linear_map k is φ image f)

-- a part has the values at the words that pass, and 0 elsewhere
pub value_at-part : (k : FieldValue) → IsField k → (test : List ℕ → Bool) (f : Combination) (w : List ℕ) → value_at k (part test f) w ≡ cond (test w) (value_at k f w) 0
value_at-part k is test f w = value_of_part terms k is test f w

-- the terms of other words
abbrev pub without : List ℕ → Combination → Combination
without v f = part (λ w. not (same_letters w v)) f

pub weight_split : (k : FieldValue) → IsField k → (φ : List ℕ → ℕ) (v : List ℕ) (f : Combination) → weight k φ f ≡ plus k (times k (value_at k f v) (φ v)) (weight k φ (without v f))
unfolding weight
weight_split k is φ v f = sum_split terms k is φ v f

-- what is left has the values of f, but 0 at v
pub value_without : (k : FieldValue) → IsField k → (v : List ℕ) (f : Combination) (w : List ℕ) → value_at k (without v f) w ≡ cond (same_letters w v) 0 (value_at k f w)
value_without k is v f w = value_of_others terms k is v f w

-- a combination that is zero has weight 0
pub weightless : (k : FieldValue) → IsField k → (φ : List ℕ → ℕ) (f : Combination) → IsZero k f → weight k φ f ≡ 0
unfolding weight
weightless k is φ f h = weightless_by terms k is φ f h
