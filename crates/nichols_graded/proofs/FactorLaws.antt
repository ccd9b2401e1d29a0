-- The factors are the greatest, and multiply to the polynomial.
use Rattle.std.proofs.Common.{◌≡◌, ℕ, zero, suc, ◌+◌, ◌-◌, ◌<◌, ◌≤◌, Bool, true, false, cond, List, [], ◌∷◌, length, replicate, refl, sym, ◌∙◌, ap, subst, arith, Some, None, inl, inr}
use Rattle.std.specs.Prelude.{Option, option_map}
use Rattle.std.proofs.lemmas.Bool.{cases_lt}
use Rattle.std.proofs.lemmas.Bool.Decides.{Decides-eqb}
use Rattle.std.proofs.lemmas.List.{length-take-le}
use Rattle.nichols_graded.specs.Factors.{times_interval, quotient, factors_within, is_one, series_of, factors_of}
use Rattle.nichols_graded.specs.FactorLaws.{QuotientIsExact, product_of_intervals, FallFrom, FactorsMultiply, AreGreatest, FactorsAreGreatest}
use Rattle.nichols_graded.proofs.Division.{quotient_multiplies, product_divides, interval_length}
use Rattle.nichols_graded.proofs.FactorSteps.{factor_found, no_factor, last_factors}

pub quotient_is_exact : QuotientIsExact
quotient_is_exact k p q some = (quotient_multiplies k p q some, product_divides k p q some)

one_is : (p : List ℕ) → is_one p ≡ true → p ≡ 1 ∷ []
one_is [] e = let c : false ≡ true = e in cc
one_is (a ∷ []) e = ap (λ x. x ∷ []) ((Decides-eqb a 1).0 e)
one_is (a ∷ b ∷ p) e = let c : false ≡ true = e in cc

-- the factors are the greatest, once nothing above `most` is looked for
found_are_greatest : (steps most : ℕ) (p ks : List ℕ) → factors_within steps most p ≡ Some ks → AreGreatest most p ks
unfolding factors_within
found_are_greatest zero most p ks e = let c : None ≡ Some ks = e in cc
found_are_greatest (suc steps) most p ks e =
    elim (cases_lt most 2) [
      | inl less ↦ ending (is_one p) refl ks (sym (last_factors steps most p less) ∙ e)
      | inr some ↦ step (quotient most p) refl (omega arith) (λ q ls f. found_are_greatest steps most q ls f) (λ f. found_are_greatest steps (most - 1) p ks f)
    ]
  where
    ending : (b : Bool) → is_one p ≡ b → (ls : List ℕ) → cond b (Some []) None ≡ Some ls → AreGreatest most p ls
    ending false t ls f = let c : None ≡ Some ls = f in cc
    ending true t [] f = one_is p t
    ending true t (k ∷ ls) f = let c : Some [] ≡ Some (k ∷ ls) = f in cc

    wider : (ls : List ℕ) → 2 ≤ most → quotient most p ≡ None → AreGreatest (most - 1) p ls → AreGreatest most p ls
    wider [] some none h = h
    wider (k ∷ ls) some none (least, within, other, rest) = (
      least,
      omega arith,
      λ j q above within e. elim (cases_lt j most) [
        | inl below ↦ other j q above (omega arith) e
        | inr here ↦ let same : j ≡ most = omega arith in let c : Some q ≡ None = sym (product_divides most p q (omega arith) (subst (λ i. times_interval i q ≡ p) same e)) ∙ none in cc
      ],
      rest,
    )

    first : (q : List ℕ) (o : Option (List ℕ)) (ls : List ℕ) → 2 ≤ most → times_interval most q ≡ p → option_map (λ ns. most ∷ ns) o ≡ Some ls → ((ns : List ℕ) → o ≡ Some ns → AreGreatest most q ns) → AreGreatest most p ls
    first q None ls some e f rest = let c : None ≡ Some ls = f in cc
    first q (Some ns) ls some e f rest =
        let whole : most ∷ ns ≡ ls = cc in
        subst (AreGreatest most p) whole (some, omega arith, (λ j r above within g. absurd (omega arith)), (q, e, rest ns refl))

    step : (o : Option (List ℕ)) → quotient most p ≡ o → 2 ≤ most → ((q ls : List ℕ) → factors_within steps most q ≡ Some ls → AreGreatest most q ls) → (factors_within steps (most - 1) p ≡ Some ks → AreGreatest (most - 1) p ks) → AreGreatest most p ks
    step (Some q) t some here below =
        first q (factors_within steps most q) ks some (quotient_multiplies most p q (omega arith) t) (sym (factor_found steps most p q some t) ∙ e) (λ ns f. here q ns f)
    step None t some here below = wider ks some t (below (sym (no_factor steps most p some t) ∙ e))

-- and the greatest are found, with steps enough
no_one_in_zeros : (n : ℕ) → replicate {A = ℕ} n 0 ≡ 1 ∷ [] → ⊥
no_one_in_zeros zero e = cc
no_one_in_zeros (suc n) e = cc

no_interval_is_one : (k : ℕ) (q : List ℕ) → 2 ≤ k → times_interval k q ≡ 1 ∷ [] → ⊥
unfolding times_interval
no_interval_is_one k [] some e = no_one_in_zeros (k - 1) e
no_interval_is_one k (a ∷ q) some e =
    let size : length (times_interval k (a ∷ q)) ≡ suc (length q) + (k - 1) = interval_length k (a ∷ q) (omega arith) in let one : length (times_interval k (a ∷ q)) ≡ 1 = ap length e in omega arith

no_quotient : (most : ℕ) (p : List ℕ) → 2 ≤ most → ((q : List ℕ) → times_interval most q ≡ p → ⊥) → quotient most p ≡ None
no_quotient most p some none = at (quotient most p) refl
  where
    at : (o : Option (List ℕ)) → quotient most p ≡ o → quotient most p ≡ None
    at None e = e
    at (Some q) e = absurd (none q (quotient_multiplies most p q (omega arith) e))

greatest_are_found : (steps most : ℕ) (p ks : List ℕ) → most + length p < steps → AreGreatest most p ks → factors_within steps most p ≡ Some ks
greatest_are_found zero most p ks enough h = absurd (omega arith)
greatest_are_found (suc steps) most p [] enough h =
    elim (cases_lt most 2) [
      | inl less ↦ last_factors steps most p less ∙ ap (λ r. cond (is_one r) (Some []) None) h
      | inr some ↦
          no_factor steps most p (omega arith) (no_quotient most p (omega arith) (λ q e. no_interval_is_one most q (omega arith) (e ∙ h)))
          ∙ greatest_are_found steps (most - 1) p [] (omega arith) h
    ]
greatest_are_found (suc steps) most p (k ∷ ks) enough (least, within, other, (q, e, rest)) =
    elim (cases_lt k most) [
      | inl less ↦
          no_factor steps most p (omega arith) (no_quotient most p (omega arith) (λ r f. other most r less (omega arith) f))
          ∙ greatest_are_found steps (most - 1) p (k ∷ ks) (omega arith) (least, omega arith, (λ j r above below f. other j r above (omega arith) f), (q, e, rest))
      | inr more ↦
          let same : k ≡ most = omega arith in
          let size : length p ≡ length q + (k - 1) = ap length (sym e) ∙ interval_length k q (omega arith) in
          ap (λ n. factors_within (suc steps) n p) (sym same) ∙ factor_found steps k p q least (product_divides k p q (omega arith) e) ∙ ap (option_map (λ ns. k ∷ ns)) (greatest_are_found steps k q ks (omega arith) rest)
    ]

greatest_multiply : (most : ℕ) (p ks : List ℕ) → AreGreatest most p ks → FallFrom most ks × (product_of_intervals ks ≡ p)
greatest_multiply most p [] h = (tt, sym h)
greatest_multiply most p (k ∷ ks) (least, within, other, (q, e, rest)) =
    let (fall, product) = greatest_multiply k q ks rest in
    ((least, within, fall), ap (times_interval k) product ∙ e)

pub factors_multiply : FactorsMultiply
unfolding factors_of
factors_multiply dimensions ks e =
    greatest_multiply (length (series_of dimensions)) (series_of dimensions) ks (found_are_greatest (suc (length dimensions + length dimensions)) (length (series_of dimensions)) (series_of dimensions) ks e)

series_length : (dimensions : List ℕ) → length (series_of dimensions) ≡ length dimensions - 1
series_length dimensions = length-take-le (length dimensions - 1) dimensions (omega arith)

pub factors_are_greatest : FactorsAreGreatest
unfolding factors_of
factors_are_greatest dimensions ks = (
  (λ e. found_are_greatest (suc (length dimensions + length dimensions)) (length (series_of dimensions)) (series_of dimensions) ks e),
  λ h. let size : length (series_of dimensions) ≡ length dimensions - 1 = series_length dimensions in
      greatest_are_found (suc (length dimensions + length dimensions)) (length (series_of dimensions)) (series_of dimensions) ks (omega arith) h,
)
