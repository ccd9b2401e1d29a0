-- The answers for the first factor, for the first two, and so on.
use Rattle.std.proofs.Common.{◌≡◌, ◌<◌, ℕ, zero, suc, ◌+◌, List, [], ◌∷◌, ◌++◌, length, get_or, map, take, sym, ◌∙◌, ap, subst, arith}
use Rattle.std.specs.List.{AllByRecursion, range_with_len}
use Rattle.std.proofs.lemmas.List.{take_more}
use Rattle.std.proofs.lemmas.List.FromFn.{map-range_with_len_more}
use Rattle.nichols_tensor.specs.Combination.{Combination}
use Rattle.nichols_tensor.specs.Words.{IsOver}
use Rattle.nichols_braid.specs.Braid.{BraidValue}
use Rattle.nichols_reduce.specs.declared.answer.Normal.{Normal}
use Rattle.nichols_product.specs.Parts.{IsProductOf, IsRunning}
use Rattle.nichols_product.specs.Products.{normal_of_product, products_of}
use Rattle.nichols_product.specs.declared.running.Running.{Running}

-- what is kept after the first i factors
pub record HasAnswers (braid : BraidValue) (last : ℕ) (fs : List Combination) (i : ℕ) (r : Running) (found : List Normal) : Type 0 where
  pub kept : IsRunning braid last r
  pub product : IsProductOf braid last (take i fs) r
  pub own : found ≡ map (λ k. normal_of_product braid last (take k fs)) (range_with_len 1 i)

pub over_take : (n i : ℕ) (fs : List Combination) → AllByRecursion (IsOver n) fs → AllByRecursion (IsOver n) (take i fs)
over_take n zero fs all = tt
over_take n (suc i) [] all = tt
over_take n (suc i) (f ∷ fs) all = (all.0, over_take n i fs all.1)

pub answers_more : (braid : BraidValue) (last : ℕ) (fs : List Combination) (i : ℕ) (f : Combination) (r q : Running) (old new : List Normal) (answer : Normal) → AllByRecursion (IsOver braid.letters) fs → i < length fs → f ≡ get_or fs i f → HasAnswers braid last fs i r old → IsRunning braid last q →
    ((gs : List Combination) → AllByRecursion (IsOver braid.letters) gs → IsProductOf braid last gs r → IsProductOf braid last (gs ++ f ∷ []) q) →
    ((gs : List Combination) → AllByRecursion (IsOver braid.letters) gs → IsProductOf braid last gs q → answer ≡ normal_of_product braid last gs) → new ≡ old ++ answer ∷ [] → HasAnswers braid last fs (i + 1) q new
answers_more braid last fs i f r q old new answer all less at h kept step known e =
    let longer : take i fs ++ f ∷ [] ≡ take (i + 1) fs = sym (take_more fs i f less ∙ ap (λ x. take i fs ++ x ∷ []) (sym at)) in
    let product : IsProductOf braid last (take (i + 1) fs) q = subst (λ gs. IsProductOf braid last gs q) longer (step (take i fs) (over_take braid.letters i fs all) h.product) in
    record {
      kept = kept;
      product = product;
      own =
          e ∙ ap (λ ns. ns ++ answer ∷ []) h.own ∙ ap (λ n. map (λ k. normal_of_product braid last (take k fs)) (range_with_len 1 i) ++ n ∷ []) (known (take (i + 1) fs) (over_take braid.letters (i + 1) fs all) product)
          ∙ sym (map-range_with_len_more (λ k. normal_of_product braid last (take k fs)) 1 i (i + 1) (omega arith));
    }

pub answers_none : (braid : BraidValue) (last : ℕ) (fs : List Combination) (r : Running) (found : List Normal) → IsRunning braid last r → IsProductOf braid last [] r → found ≡ [] → HasAnswers braid last fs 0 r found
answers_none braid last fs r found kept product none = record { kept = kept; product = product; own = none }

pub answers_all : (braid : BraidValue) (last : ℕ) (fs : List Combination) (i : ℕ) (r : Running) (found : List Normal) → HasAnswers braid last fs i r found → i ≡ length fs → found ≡ products_of braid last fs
unfolding products_of
answers_all braid last fs i r found h e = h.own ∙ ap (λ n. map (λ k. normal_of_product braid last (take k fs)) (range_with_len 1 n)) e
