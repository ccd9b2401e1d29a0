use Rattle.std.proofs.Common.{◌≡◌, ◌<◌, ℕ, List, length, get_or, sym, ◌∙◌, ap, subst, rules, Ok, Err}
use Rattle.std.specs.List.Sorted.{IsBinarySearchResult, IsSearchInRange}
use Rattle.std.proofs.lemmas.List.Sorted.{answers_always}
use Rattle.nichols_field.specs.Field.{FieldValue, IsField}
use Rattle.nichols_tensor.specs.Combination.{Term, Combination, AllElements, value_at, words_of}
use Rattle.nichols_tensor.specs.WordOrder.{word_cmp, IsRising, IsOrdered}
use Rattle.nichols_words.specs.Comb.{coefficient_at}
use Rattle.nichols_words.proofs.Coefficients.{searched, coefficient_is_value}
use Rattle.nichols_words.proofs.comb.Comb.coefficient.Goals as goal

-- the answer of the search, over the terms xs, which are the value zs and were searched as ys
found : (xs ys zs : Combination) (w : List ℕ) (k : ℕ) (t : Term) (n : ℕ) → ys ≡ xs → xs ≡ zs → IsOrdered xs → k < length ys → IsBinarySearchResult (λ (u : Term). word_cmp u.word w) ys (Ok k) → t ≡ get_or xs k t → n ≡ t.coefficient → n ≡ coefficient_at zs w
found xs ys zs w k t n searched_is terms_are o within position at value =
    value ∙ ap (λ (u : Term). u.coefficient) (at ∙ ap (λ us. get_or us k t) (sym searched_is))
    ∙ sym (searched ys w (Ok k) (subst (λ us. IsRising (words_of us)) (sym searched_is) o.rising) within position t)
    ∙ ap (λ us. coefficient_at us w) (searched_is ∙ terms_are)

missed : (xs ys zs : Combination) (w : List ℕ) (k : ℕ) → ys ≡ xs → xs ≡ zs → IsOrdered xs → IsSearchInRange (Err k) (length ys) → IsBinarySearchResult (λ (u : Term). word_cmp u.word w) ys (Err k) → ◌≡◌ {A = ℕ} 0 (coefficient_at zs w)
missed xs ys zs w k searched_is terms_are o within position =
    sym (searched ys w (Err k) (subst (λ us. IsRising (words_of us)) (sym searched_is) o.rising) within position)
    ∙ ap (λ us. coefficient_at us w) (searched_is ∙ terms_are)

valued : (xs zs : Combination) (w : List ℕ) (n : ℕ) → xs ≡ zs → IsOrdered xs → n ≡ coefficient_at zs w → (field : FieldValue) → IsField field → AllElements field zs → value_at field zs w ≡ n
valued xs zs w n terms_are o coefficient field is elements =
    sym (coefficient ∙ coefficient_is_value field is zs w elements (subst (λ us. IsRising (words_of us)) terms_are o.rising))

pub returns-in-Ok-clause-coefficient : goal.returns-in-Ok-clause-coefficient
returns-in-Ok-clause-coefficient c =
    found c.self.inside.terms.items c.deref.result.now c.args.self.now c.args.word.now c.in-Ok.k c.index.result.now c.behind-self.inside.coefficient c.deref.ensures.value c.self.view_is c.self.invariant c.in-Ok.ensures.bound
    (c.in-Ok.ensures.position (λ (t : Term). t.word) (answers_always _ _ _ (λ f a r g called. search rules)))
    c.index.ensures (ap (λ (t : Term). t.coefficient) c.behind-self.view_is)

pub returns-in-Ok-clause-value : goal.returns-in-Ok-clause-value
returns-in-Ok-clause-value c = valued c.self.inside.terms.items c.args.self.now c.args.word.now _ c.self.view_is c.self.invariant (returns-in-Ok-clause-coefficient c)

pub returns-in-Err-clause-coefficient : goal.returns-in-Err-clause-coefficient
returns-in-Err-clause-coefficient c =
    missed c.self.inside.terms.items c.deref.result.now c.args.self.now c.args.word.now c.in-Err.field-0 c.deref.ensures.value c.self.view_is c.self.invariant c.in-Err.ensures.bound
    (c.in-Err.ensures.position (λ (t : Term). t.word) (answers_always _ _ _ (λ f a r g called. search rules)))

pub returns-in-Err-clause-value : goal.returns-in-Err-clause-value
returns-in-Err-clause-value c = valued c.self.inside.terms.items c.args.self.now c.args.word.now _ c.self.view_is c.self.invariant (returns-in-Err-clause-coefficient c)
