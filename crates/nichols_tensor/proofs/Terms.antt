-- Terms by their parts, and the sum of two terms of one word.
use Rattle.std.proofs.Common.{◌≡◌, ℕ, cond, List, ◌∷◌, sym, ◌∙◌, ap}
use Rattle.std.specs.declared.cmp.Ordering.TheVariants.{Equal}
use Rattle.nichols_field.specs.Field.{FieldValue, IsField, plus}
use Rattle.nichols_field.proofs.FieldLaws.{plus_assoc}
use Rattle.nichols_field.proofs.FieldAlgebra.{plus_chosen}
use Rattle.nichols_tensor.specs.Combination.{Term, Combination, value_at, same_letters}
use Rattle.nichols_tensor.specs.WordOrder.{word_cmp}
use Rattle.nichols_tensor.proofs.Values.{term_value}
use Rattle.nichols_tensor.proofs.Order.{same_word}

-- a word with its coefficient
abbrev pub term : List ℕ → ℕ → Term
term w c = record { word = w; coefficient = c }

-- the sum of two terms of one word
abbrev pub added : FieldValue → Term → Term → Term
added k t u = term u.word (plus k t.coefficient u.coefficient)

-- it has the values of both
pub value_at-added : (k : FieldValue) → IsField k → (t u : Term) (f : Combination) (w : List ℕ) → word_cmp t.word u.word ≡ Equal → value_at k (added k t u ∷ f) w ≡ plus k (term_value t w) (value_at k (u ∷ f) w)
value_at-added k is t u f w e =
    ap (λ n. plus k n (value_at k f w)) (sym (plus_chosen k (same_letters u.word w) t.coefficient u.coefficient is) ∙ ap (λ v. plus k (cond (same_letters v w) t.coefficient 0) (term_value u w)) (sym (same_word t.word u.word e)))
    ∙ plus_assoc k (term_value t w) (term_value u w) (value_at k f w)
