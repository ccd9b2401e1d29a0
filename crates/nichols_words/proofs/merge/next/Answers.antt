use Rattle.std.proofs.Common.{◌≡◌, ℕ, List, [], ◌∷◌, sym, ◌∙◌, ap}
use Rattle.std.proofs.lemmas.List.{nil_from_length}
use Rattle.std.specs.declared.cmp.Ordering.TheVariants.{Less}
use Rattle.nichols_field.specs.Field.{FieldValue, times, plus}
use Rattle.nichols_tensor.specs.Combination.{Term, Combination, words_of}
use Rattle.nichols_tensor.specs.WordOrder.{word_cmp, IsBelowFirst}
use Rattle.nichols_tensor.proofs.Order.{same_word, less_back}
use Rattle.nichols_words.specs.Next.{TakesNext, from_left, from_right, from_both}
use Rattle.nichols_words.proofs.merge.next.Goals as goal

left_first : (f : FieldValue) (by : ℕ) (x : Term) (xs all ys : Combination) → all ≡ x ∷ xs → IsBelowFirst x.word (words_of ys) → TakesNext f by all ys x xs ys
left_first f by x xs all ys e h = rw e (from_left h)

right_first : (f : FieldValue) (by : ℕ) (y t : Term) (ys all xs : Combination) → all ≡ y ∷ ys → t ≡ record { word = y.word; coefficient = times f by y.coefficient } → IsBelowFirst y.word (words_of xs) → TakesNext f by xs all t xs ys
right_first f by y t ys all xs e d h = rw (e, d) (from_right h)

both_first : (f : FieldValue) (by : ℕ) (x y : Term) (xs ys all_xs all_ys : Combination) → all_xs ≡ x ∷ xs → all_ys ≡ y ∷ ys → (n : ℕ) → n ≡ plus f x.coefficient (times f by y.coefficient) → x.word ≡ y.word → TakesNext f by all_xs all_ys (record { word = x.word; coefficient = n }) xs ys
both_first f by x y xs ys all_xs all_ys e d n k h = rw (e, d, k) (from_both h)

below_none : (w : List ℕ) (ys : Combination) → ys ≡ [] → IsBelowFirst w (words_of ys)
below_none w ys e = rw e tt

below_one : (w : List ℕ) (y : Term) (ys all : Combination) → all ≡ y ∷ ys → word_cmp w y.word ≡ Less → IsBelowFirst w (words_of all)
below_one w y ys all e h = rw e h

-- the first term as the fields that were read of it
opened : (x y : Term) (xs all : Combination) → x ≡ y → all ≡ y ∷ xs → all ≡ x ∷ xs
opened x y xs all e h = h ∙ ap (λ t. t ∷ xs) (sym e)

pub returns-in-Less : goal.returns-in-Less
returns-in-Less c =
    left_first c.args.field c.args.by _ _ _ _ (opened _ _ _ _ c.x.view_is c.in-Some-Some.ensures.cases.0)
    (below_one c.x.inside.word _ _ _ (opened _ _ _ _ c.y.view_is c.in-Some-Some.ensures'.cases.0) (sym c.cmp.ensures ∙ c.in-Less.is))

pub returns-in-Equal : goal.returns-in-Equal
returns-in-Equal c =
    both_first c.args.field c.args.by _ _ _ _ _ _ (opened _ _ _ _ c.x.view_is c.in-Some-Some.ensures.cases.0) (opened _ _ _ _ c.y.view_is c.in-Some-Some.ensures'.cases.0) _
    (c.add.ensures.sum ∙ ap (plus c.args.field c.x.inside.coefficient) c.mul.ensures.product)
    (same_word c.x.inside.word c.y.inside.word (sym c.cmp.ensures ∙ c.in-Equal.is))

pub returns-in-Greater : goal.returns-in-Greater
returns-in-Greater c =
    right_first c.args.field c.args.by _ _ _ _ _ c.in-Some-Some.ensures'.cases.0 c.multiplied.ensures
    (below_one c.in-Some-Some.y.now.word _ _ _ (opened _ _ _ _ c.x.view_is c.in-Some-Some.ensures.cases.0) (ap (λ t. word_cmp t.word c.x.inside.word) (sym c.y.view_is) ∙ less_back c.x.inside.word c.y.inside.word (sym c.cmp.ensures ∙ c.in-Greater.is)))

pub returns-in-Some-None : goal.returns-in-Some-None
returns-in-Some-None c = left_first c.args.field c.args.by _ _ _ _ c.in-Some-None.ensures.cases.0 (below_none _ _ (nil_from_length _ c.in-Some-None.ensures'.cases))

pub returns-in-None-Some : goal.returns-in-None-Some
returns-in-None-Some c = right_first c.args.field c.args.by _ _ _ _ _ c.in-None-Some.ensures'.cases.0 c.multiplied-in-None-Some.ensures (below_none _ _ (nil_from_length _ c.in-None-Some.ensures.cases))
