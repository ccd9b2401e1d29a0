-- Searches along a list.
use Rattle.std.proofs.Common.{◌≡◌, Bool, true, false, cond, List, [], ◌∷◌, ◌++◌, None, Some, refl, ap, ◌∙◌, sym}
use Rattle.std.proofs.lemmas.Bool.{and_parts, not-true}
use Rattle.std.specs.Prelude.{not, ◌&&◌}
use Rattle.std.specs.List.{find, list_all}
use Rattle.nichols_input.specs.Laws.{IsFirst}

pub find_first : {X : Type 0} (test : X → Bool) (xs : List X) (x : X) → find test xs ≡ Some x → IsFirst test xs x
find_first test [] x is = absurd cc
find_first {X} test (y ∷ ys) x is = at (test y) refl is (find_first test ys x)
  where
    at : (b : Bool) → test y ≡ b → cond b (Some y) (find test ys) ≡ Some x → (find test ys ≡ Some x → IsFirst test ys x) → IsFirst test (y ∷ ys) x
    at true here e later = let same : y ≡ x = cc in record { before = []; after = ys; split = ap (λ z. z ∷ ys) same; others = refl; here = ap test (sym same) ∙ here }
    at false here e later =
        let h : IsFirst test ys x = later e in
        record { before = y ∷ h.before; after = h.after; split = ap (λ zs. y ∷ zs) h.split; others = ap (λ b. not b && list_all (λ z. not (test z)) h.before) here ∙ h.others; here = h.here }

pub find_none : {X : Type 0} (test : X → Bool) (xs : List X) → find test xs ≡ None → list_all (λ y. not (test y)) xs ≡ true
find_none test [] is = refl
find_none test (y ∷ ys) is = at (test y) refl is (find_none test ys)
  where
    at : (b : Bool) → test y ≡ b → cond b (Some y) (find test ys) ≡ None → (find test ys ≡ None → list_all (λ z. not (test z)) ys ≡ true) → list_all (λ z. not (test z)) (y ∷ ys) ≡ true
    at true here e later = absurd cc
    at false here e later = ap (λ b. not b && list_all (λ z. not (test z)) ys) here ∙ later e

pub none_find : {X : Type 0} (test : X → Bool) (xs : List X) → list_all (λ y. not (test y)) xs ≡ true → find test xs ≡ None
none_find test [] e = refl
none_find test (y ∷ ys) e =
    let parts = and_parts (not (test y)) (list_all (λ z. not (test z)) ys) e in
    ap (λ b. cond b (Some y) (find test ys)) (not-true (test y) parts.0) ∙ none_find test ys parts.1

past_others : {X : Type 0} (test : X → Bool) (before after : List X) (x : X) → list_all (λ y. not (test y)) before ≡ true → test x ≡ true → find test (before ++ x ∷ after) ≡ Some x
past_others test [] after x others here = ap (λ b. cond b (Some x) (find test after)) here
past_others test (y ∷ ys) after x others here =
    let parts = and_parts (not (test y)) (list_all (λ z. not (test z)) ys) others in
    ap (λ b. cond b (Some y) (find test (ys ++ x ∷ after))) (not-true (test y) parts.0) ∙ past_others test ys after x parts.1 here

pub first_find : {X : Type 0} (test : X → Bool) (xs : List X) (x : X) → IsFirst test xs x → find test xs ≡ Some x
first_find test xs x h = ap (find test) h.split ∙ past_others test h.before h.after x h.others h.here
