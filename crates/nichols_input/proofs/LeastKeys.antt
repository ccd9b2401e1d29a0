-- The first of rising texts that meets a test is the least that does.
use Rattle.std.proofs.Common.{◌≡◌, suc, Bool, true, false, cond, Ordering, Less, Equal, Greater, nat_cmp, is_lt, List, ◌∷◌, [], ℕ, Option, Some, None, refl, sym, ap, ◌∙◌, inl, inr, arith}
use Rattle.nichols_tensor.proofs.Entries.{contains_cases, finds}
use Rattle.std.proofs.lemmas.Bool.{true≢false}
use Rattle.std.proofs.lemmas.Cmp.{nat_list_cmp_total, tied_itself}
use Rattle.std.proofs.lemmas.List.Elements.{All-contains, All-from_recursion}
use Rattle.std.proofs.lemmas.Option.{none-some, same_Some}
use Rattle.std.specs.Cmp.Lexicographic.{slice_cmp}
use Rattle.std.specs.FinMap.{slice_cmp-IsAntisymmetric, nat_cmp-IsAntisymmetric}
use Rattle.std.specs.List.{find}
use Rattle.std.specs.List.Sorted.{IsStrictlySortedBy}
use Rattle.std.specs.Ordering.{ordering_reverse}
use Rattle.nichols_input.specs.Laws.{IsLeast}

pub first_is_least : (test : List ℕ → Bool) (texts : List (List ℕ)) (text : List ℕ) → IsStrictlySortedBy (slice_cmp nat_cmp) texts → find test texts ≡ Some text → IsLeast test texts text
unfolding IsStrictlySortedBy
first_is_least test [] text sorted is = absurd (none-some text is)
first_is_least test (y ∷ ys) text sorted is = at (test y) refl is (first_is_least test ys text sorted.1)
  where
    at : (b : Bool) → test y ≡ b → cond b (Some y) (find test ys) ≡ Some text → (find test ys ≡ Some text → IsLeast test ys text) → IsLeast test (y ∷ ys) text
    at true here e later =
        let same : y ≡ text = same_Some y text e in
        record {
          here = (0, omega arith, same);
          meets = ap test (sym same) ∙ here;
          least = λ other among passes.
              elim (contains_cases y ys other among) [
                | inl front ↦ ap (λ z. is_lt (slice_cmp nat_cmp z text)) (front ∙ same) ∙ ap is_lt (tied_itself nat_list_cmp_total text)
                | inr behind ↦
                    ap (λ z. is_lt (slice_cmp nat_cmp other z)) (sym same)
                    ∙ ap is_lt (nat_list_cmp_total.antisymm other y ∙ ap ordering_reverse (All-contains (λ l. slice_cmp nat_cmp y l ≡ Less) ys other (All-from_recursion (λ l. slice_cmp nat_cmp y l ≡ Less) ys sorted.0) behind))
              ];
        }
    at false here e later =
        let h : IsLeast test ys text = later e in
        record {
          here = (suc h.here.0, omega (arith, h.here.1), h.here.2);
          meets = h.meets;
          least = λ other among passes.
              elim (contains_cases y ys other among) [
                | inl front ↦ absurd (true≢false (sym passes ∙ ap test front ∙ here))
                | inr behind ↦ h.least other behind passes
              ];
        }

-- there is one least text at most
one_is_least : (test : List ℕ → Bool) (texts : List (List ℕ)) (a b : List ℕ) → IsLeast test texts a → IsLeast test texts b → a ≡ b
one_is_least test texts a b is_a is_b = at (slice_cmp nat_cmp a b) refl
  where
    at : (o : Ordering) → slice_cmp nat_cmp a b ≡ o → a ≡ b
    at Less e = absurd (true≢false (sym (ap is_lt e) ∙ is_b.least a is_a.here is_a.meets))
    at Equal e = slice_cmp-IsAntisymmetric nat_cmp-IsAntisymmetric a b e
    at Greater e = absurd (true≢false (sym (ap is_lt (nat_list_cmp_total.antisymm b a ∙ ap ordering_reverse e)) ∙ is_a.least b is_b.here is_b.meets))

pub least_is_first : (test : List ℕ → Bool) (texts : List (List ℕ)) (text : List ℕ) → IsStrictlySortedBy (slice_cmp nat_cmp) texts → IsLeast test texts text → find test texts ≡ Some text
least_is_first test texts text sorted h = at (find test texts) refl
  where
    at : (o : Option (List ℕ)) → find test texts ≡ o → find test texts ≡ Some text
    at None e = let (other, is) = finds test texts text h.here h.meets in absurd (none-some other (sym e ∙ is))
    at (Some other) e = e ∙ ap Some (one_is_least test texts other text (first_is_least test texts other sorted e) h)
