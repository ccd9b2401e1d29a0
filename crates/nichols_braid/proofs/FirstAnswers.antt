-- First answers along a list, and at three letters in lexicographic order.
use Rattle.std.proofs.Common.{◌≡◌, ℕ, zero, suc, ◌+◌, ◌<◌, List, [], ◌∷◌, refl, sym, ◌∙◌, ap, ap₂, arith, Some, None, inl, inr}
use Rattle.std.specs.Prelude.{Option, is_some}
use Rattle.std.specs.Option.{option_or}
use Rattle.std.specs.List.{Contains}
use Rattle.nichols_tensor.specs.Words.{up_to, IsLetterOf}
use Rattle.nichols_tensor.proofs.Entries.{contains_none, contains_first, contains_later, contains_cases}
use Rattle.nichols_tensor.proofs.Letters.{in_up_to, from_up_to}
use Rattle.nichols_braid.specs.Faults.{first_answer, first_triple}
use Rattle.nichols_braid.specs.FaultLaws.{IsFirstAnswer, FirstAnswersAreLeast, IsEarlierTriple, IsFirstTriple, FirstTriplesAreLeast}
use Rattle.nichols_braid.proofs.Search.{first_answer-append, first_answer-found}

-- ---- no answer

pub no_answer : {X : Type 0} (f : ℕ → Option X) (xs : List ℕ) → first_answer f xs ≡ None → (x : ℕ) → Contains xs x → f x ≡ None
no_answer f [] none x i = absurd (contains_none x i)
no_answer f (y ∷ ys) none x i = at (f y) refl none i (λ rest i. no_answer f ys rest x i)
  where
    at : (o : Option _) → f y ≡ o → option_or o (first_answer f ys) ≡ None → Contains (y ∷ ys) x → (first_answer f ys ≡ None → Contains ys x → f x ≡ None) → f x ≡ None
    at (Some z) e none i rest = cc
    at None e none i rest = elim (contains_cases y ys x i) [ inl same ↦ ap f same ∙ e | inr later ↦ rest none later ]

pub all_none : {X : Type 0} (f : ℕ → Option X) (xs : List ℕ) → ((x : ℕ) → Contains xs x → f x ≡ None) → first_answer f xs ≡ None
all_none f [] h = refl
all_none f (x ∷ xs) h = ap₂ option_or (h x (contains_first x xs)) (all_none f xs (λ y i. h y (contains_later x xs y i)))

-- ---- the first answer along a list

first_is : {X : Type 0} (f : ℕ → Option X) (xs : List ℕ) (answer : X) → first_answer f xs ≡ Some answer → IsFirstAnswer f xs answer
first_is f [] answer e = cc
first_is {X = X} f (x ∷ xs) answer e = at (f x) refl e (λ h. first_is f xs answer h)
  where
    at : (o : Option X) → f x ≡ o → option_or o (first_answer f xs) ≡ Some answer → (first_answer f xs ≡ Some answer → IsFirstAnswer f xs answer) → IsFirstAnswer f (x ∷ xs) answer
    at (Some z) own e later = record { before = []; entry = x; after = xs; whole = refl; answers = own ∙ e; none = λ y i. absurd (contains_none y i) }
    at None own e later =
        let h : IsFirstAnswer f xs answer = later e in
        record {
          before = x ∷ h.before;
          entry = h.entry;
          after = h.after;
          whole = ap (λ ys. x ∷ ys) h.whole;
          answers = h.answers;
          none = λ y i. elim (contains_cases x h.before y i) [ inl same ↦ ap f same ∙ own | inr j ↦ h.none y j ];
        }

first_from : {X : Type 0} (f : ℕ → Option X) (xs : List ℕ) (answer : X) → IsFirstAnswer f xs answer → first_answer f xs ≡ Some answer
first_from f xs answer h =
    ap (first_answer f) h.whole
    ∙ first_answer-append f h.before (h.entry ∷ h.after)
    ∙ ap (λ o. option_or o (option_or (f h.entry) (first_answer f h.after))) (all_none f h.before h.none)
    ∙ ap (λ o. option_or o (first_answer f h.after)) h.answers

pub first_answers_are_least : (X : Type 0) → FirstAnswersAreLeast X
first_answers_are_least X f xs = (λ answer. (first_is f xs answer, first_from f xs answer), (no_answer f xs, all_none f xs))

-- ---- along the letters

-- the answer at some letter, where no letter below it has any
abbrev pub IsFirstLetter : {X : Type 0} → ℕ → (ℕ → Option X) → X → Type 0
IsFirstLetter n f answer = (i : ℕ) × IsLetterOf n i × (f i ≡ Some answer) × ((a : ℕ) → IsLetterOf n a → a < i → f a ≡ None)

pub first_letter : {X : Type 0} (n : ℕ) (f : ℕ → Option X) (answer : X) → first_answer f (up_to n) ≡ Some answer → IsFirstLetter n f answer
first_letter zero f answer e = cc
first_letter {X = X} (suc n) f answer e = at (first_answer f (up_to n)) refl (f (suc n)) refl (sym (first_answer-append f (up_to n) (suc n ∷ [])) ∙ e) (λ h. first_letter n f answer h)
  where
    at : (o : Option X) → first_answer f (up_to n) ≡ o → (p : Option X) → f (suc n) ≡ p → option_or o (option_or p None) ≡ Some answer → (first_answer f (up_to n) ≡ Some answer → IsFirstLetter n f answer) → IsFirstLetter (suc n) f answer
    at (Some z) below p own e earlier =
        let (i, li, answers, none) = earlier (below ∙ e) in
        (i, (li.0, omega (arith, li.1)), answers, λ a la less. none a (la.0, omega (arith, li.1)) less)
    at None below None own e earlier = cc
    at None below (Some z) own e earlier = (suc n, (omega arith, omega arith), own ∙ e, λ a la less. no_answer f (up_to n) below a (in_up_to n a (la.0, omega arith)))

from_first_letter : {X : Type 0} (n : ℕ) (f : ℕ → Option X) (answer : X) → IsFirstLetter n f answer → first_answer f (up_to n) ≡ Some answer
from_first_letter n f answer (zero, li, answers, none) = absurd (omega (arith, li.0))
from_first_letter n f answer (suc i, li, answers, none) =
    let here : f (i + 1) ≡ Some answer = ap f (let e : i + 1 ≡ suc i = omega arith in e) ∙ answers in
    first_answer-found f i n (omega (arith, li.1))
    (all_none f (up_to i) (λ a j. let la : IsLetterOf i a = from_up_to i a j in none a (la.0, omega (arith, la.1, li.1)) (omega (arith, la.1))))
    (ap is_some here) ∙ here

-- ---- at three letters

pub no_triple_answers : {X : Type 0} (n : ℕ) (f : ℕ → ℕ → ℕ → Option X) → first_triple n f ≡ None → (i j k : ℕ) → IsLetterOf n i → IsLetterOf n j → IsLetterOf n k → f i j k ≡ None
no_triple_answers n f none i j k li lj lk =
    no_answer (f i j) (up_to n)
    (no_answer (λ j. first_answer (f i j) (up_to n)) (up_to n)
    (no_answer (λ i. first_answer (λ j. first_answer (f i j) (up_to n)) (up_to n)) (up_to n) none i (in_up_to n i li))
    j (in_up_to n j lj))
    k (in_up_to n k lk)

pub no_triple : {X : Type 0} (n : ℕ) (f : ℕ → ℕ → ℕ → Option X) → ((i j k : ℕ) → IsLetterOf n i → IsLetterOf n j → IsLetterOf n k → f i j k ≡ None) → first_triple n f ≡ None
no_triple n f h =
    all_none (λ i. first_answer (λ j. first_answer (f i j) (up_to n)) (up_to n)) (up_to n) (λ i li.
    all_none (λ j. first_answer (f i j) (up_to n)) (up_to n) (λ j lj.
    all_none (f i j) (up_to n) (λ k lk. h i j k (from_up_to n i li) (from_up_to n j lj) (from_up_to n k lk))))

triple_is : {X : Type 0} (n : ℕ) (f : ℕ → ℕ → ℕ → Option X) (answer : X) → first_triple n f ≡ Some answer → IsFirstTriple n f answer
triple_is {X = X} n f answer e =
    let (i, li, at_i, none_i) = first_letter n rows answer e in
    let (j, lj, at_j, none_j) = first_letter n (row i) answer at_i in
    let (k, lk, at_k, none_k) = first_letter n (f i j) answer at_j in
    record { i = i; j = j; k = k; first = li; second = lj; third = lk; answers = at_k; none = earlier i j k none_i none_j none_k }
  where
    row : ℕ → ℕ → Option X
    row i j = first_answer (f i j) (up_to n)

    rows : ℕ → Option X
    rows i = first_answer (row i) (up_to n)

    earlier : (i j k : ℕ) → ((a : ℕ) → IsLetterOf n a → a < i → rows a ≡ None) → ((b : ℕ) → IsLetterOf n b → b < j → row i b ≡ None) → ((c : ℕ) → IsLetterOf n c → c < k → f i j c ≡ None) →
        (a b c : ℕ) → IsLetterOf n a → IsLetterOf n b → IsLetterOf n c → IsEarlierTriple a b c i j k → f a b c ≡ None
    earlier i j k none_i none_j none_k a b c la lb lc (inl less) = no_answer (f a b) (up_to n) (no_answer (row a) (up_to n) (none_i a la less) b (in_up_to n b lb)) c (in_up_to n c lc)
    earlier i j k none_i none_j none_k a b c la lb lc (inr (same, inl less)) = ap (λ a. f a b c) same ∙ no_answer (f i b) (up_to n) (none_j b lb less) c (in_up_to n c lc)
    earlier i j k none_i none_j none_k a b c la lb lc (inr (same, inr (alike, less))) = ap₂ (λ a b. f a b c) same alike ∙ none_k c lc less

from_triple : {X : Type 0} (n : ℕ) (f : ℕ → ℕ → ℕ → Option X) (answer : X) → IsFirstTriple n f answer → first_triple n f ≡ Some answer
from_triple {X = X} n f answer h =
    from_first_letter n rows answer (
      h.i,
      h.first,
      from_first_letter n (row h.i) answer (
        h.j,
        h.second,
        from_first_letter n (f h.i h.j) answer (h.k, h.third, h.answers, λ c lc less. h.none h.i h.j c h.first h.second lc (inr (refl, inr (refl, less)))),
        λ b lb less. all_none (f h.i b) (up_to n) (λ c ic. h.none h.i b c h.first lb (from_up_to n c ic) (inr (refl, inl less))),
      ),
      λ a la less. all_none (row a) (up_to n) (λ b ib. all_none (f a b) (up_to n) (λ c ic. h.none a b c la (from_up_to n b ib) (from_up_to n c ic) (inl less))),
    )
  where
    row : ℕ → ℕ → Option X
    row i j = first_answer (f i j) (up_to n)

    rows : ℕ → Option X
    rows i = first_answer (row i) (up_to n)

pub first_triples_are_least : (X : Type 0) → FirstTriplesAreLeast X
first_triples_are_least X n f = (λ answer. (triple_is n f answer, from_triple n f answer), (no_triple_answers n f, no_triple n f))
