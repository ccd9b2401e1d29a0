-- A combination with its terms in another order has the same values.
use Rattle.std.proofs.Common.{◌≡◌, ℕ, zero, suc, ◌<◌, List, [], ◌∷◌, length, set, get_or, refl, sym, ◌∙◌, ap, subst, arith, inl, inr, length-set, get_or-set_same, get_or-set_other}
use Rattle.std.specs.List.{swap}
use Rattle.std.specs.List.Sorted.{IsPermutation}
use Rattle.std.proofs.lemmas.Bool.{cases_eq}
use Rattle.std.proofs.lemmas.List.Edits.{swap_is}
use Rattle.std.proofs.lemmas.List.Elements.{All-from_recursion, recursion_from_All}
use Rattle.std.proofs.lemmas.List.Sorted.{All-permutation, IsPermutation-keeps, IsPermutation-swap}
use Rattle.nichols_field.specs.Field.{FieldValue, IsField, IsElement, plus}
use Rattle.nichols_field.proofs.FieldLaws.{plus_comm, plus_assoc}
use Rattle.nichols_field.proofs.FieldAlgebra.{swap_first, plus_cancel, chosen_is_element}
use Rattle.nichols_tensor.specs.Combination.{Term, Combination, value_at, same_letters, HasSameValues, AllElements}
use Rattle.nichols_tensor.proofs.Values.{term_value, value_is_element}

pub elements-permutation : (k : FieldValue) (xs ys : Combination) → IsPermutation xs ys → AllElements k xs → AllElements k ys
elements-permutation k xs ys p h = recursion_from_All (λ t. IsElement k t.coefficient) ys (All-permutation (λ t. IsElement k t.coefficient) xs ys p (All-from_recursion (λ t. IsElement k t.coefficient) xs h))

-- a term replaced by another
value_at-set : (k : FieldValue) → (f : Combination) (i : ℕ) (t d : Term) (w : List ℕ) → i < length f → plus k (value_at k (set f i t) w) (term_value (get_or f i d) w) ≡ plus k (value_at k f w) (term_value t w)
value_at-set k [] i t d w h = absurd (omega (arith, h))
value_at-set k (u ∷ f) zero t d w h = plus_comm k (plus k (term_value t w) (value_at k f w)) (term_value u w) ∙ swap_first k (term_value u w) (term_value t w) (value_at k f w) ∙ plus_comm k (term_value t w) (plus k (term_value u w) (value_at k f w))
value_at-set k (u ∷ f) (suc i) t d w h =
    plus_assoc k (term_value u w) (value_at k (set f i t) w) (term_value (get_or f i d) w) ∙ ap (plus k (term_value u w)) (value_at-set k f i t d w (omega arith)) ∙ sym (plus_assoc k (term_value u w) (value_at k f w) (term_value t w))

-- two terms in each other's place
value_at-swap : (k : FieldValue) → IsField k → (f : Combination) (i j : ℕ) → i < length f → j < length f → AllElements k f → HasSameValues k (swap f i j) f
value_at-swap k is f i j hi hj elements w =
    ap (λ g. value_at k g w) (sym (swap_is f i j d hi hj))
    ∙ plus_cancel k (value_at k (set g j a) w) (value_at k f w) (term_value b w) is (value_is_element k is (set g j a) w) (value_is_element k is f w) (chosen_is_element k (same_letters b.word w) b.coefficient is (All-from_recursion (λ t. IsElement k t.coefficient) f elements j d hj))
    (ap (λ t. plus k (value_at k (set g j a) w) (term_value t w)) (sym there) ∙ value_at-set k g j a d w (subst (λ n. j < n) (sym (length-set f i b)) hj) ∙ value_at-set k f i b d w hi)
  where
    d : Term
    d = record { word = []; coefficient = 0 }

    a : Term
    a = get_or f i d

    b : Term
    b = get_or f j d

    g : Combination
    g = set f i (get_or f j d)

    there : get_or (set f i (get_or f j d)) j d ≡ get_or f j d
    there =
        elim (cases_eq j i) [
          | inl same ↦ ap (λ n. get_or (set f i (get_or f j d)) n d) same ∙ get_or-set_same f i (get_or f j d) d hi
          | inr other ↦ get_or-set_other f i j (get_or f j d) d other
        ]

pub value_at-permutation : (k : FieldValue) → IsField k → (xs ys : Combination) → IsPermutation xs ys → AllElements k xs → HasSameValues k ys xs
value_at-permutation k is xs ys p elements = (IsPermutation-keeps xs (λ zs. AllElements k zs × HasSameValues k zs xs) (elements, λ w. refl) step ys p).1
  where
    step : (zs : Combination) (i j : ℕ) → i < length zs → j < length zs → AllElements k zs × HasSameValues k zs xs → AllElements k (swap zs i j) × HasSameValues k (swap zs i j) xs
    step zs i j hi hj h = (elements-permutation k zs (swap zs i j) (IsPermutation-swap zs (swap zs i j) i j hi hj refl) h.0, λ w. value_at-swap k is zs i j hi hj h.0 w ∙ h.1 w)
