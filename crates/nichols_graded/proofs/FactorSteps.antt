-- The steps by which the factors of a polynomial are found.
use Rattle.std.proofs.Common.{◌≡◌, ℕ, zero, suc, ◌+◌, ◌-◌, ◌<◌, ◌≤◌, true, false, cond, List, [], ◌∷◌, ◌++◌, length, take, refl, sym, ◌∙◌, ap, arith, Some, None, nat_lt}
use Rattle.std.specs.Prelude.{Option, option_map}
use Rattle.std.specs.Option.{MatchOption}
use Rattle.std.proofs.lemmas.Bool.Decides.{nat_tests}
use Rattle.std.proofs.lemmas.Iterator.Adapters.{option_map_id}
use Rattle.nichols_graded.specs.Factors.{quotient, factors_within, is_one, series_of, factors_of}
use Rattle.std.proofs.lemmas.List.{length-take-le}
use Rattle.nichols_graded.proofs.Division.{front_more, quotient_length}

pub factor_found : (steps k : ℕ) (p q : List ℕ) → 2 ≤ k → quotient k p ≡ Some q → factors_within (suc steps) k p ≡ option_map (λ ks. k ∷ ks) (factors_within steps k q)
unfolding factors_within
factor_found steps k p q some e =
    ap (λ b. cond b (cond (is_one p) (Some []) None) (elim (quotient k p) [ Some q ↦ option_map (λ ks. k ∷ ks) (factors_within steps k q) | None ↦ factors_within steps (k - 1) p ]))
    (let t : nat_lt k 2 ≡ false = grind (arith, nat_tests) in t)
    ∙ ap (λ o. elim o as (λ _. Option (List ℕ)) [ Some q ↦ option_map (λ ks. k ∷ ks) (factors_within steps k q) | None ↦ factors_within steps (k - 1) p ]) e

pub no_factor : (steps k : ℕ) (p : List ℕ) → 2 ≤ k → quotient k p ≡ None → factors_within (suc steps) k p ≡ factors_within steps (k - 1) p
unfolding factors_within
no_factor steps k p some e =
    ap (λ b. cond b (cond (is_one p) (Some []) None) (elim (quotient k p) [ Some q ↦ option_map (λ ks. k ∷ ks) (factors_within steps k q) | None ↦ factors_within steps (k - 1) p ]))
    (let t : nat_lt k 2 ≡ false = grind (arith, nat_tests) in t)
    ∙ ap (λ o. elim o as (λ _. Option (List ℕ)) [ Some q ↦ option_map (λ ks. k ∷ ks) (factors_within steps k q) | None ↦ factors_within steps (k - 1) p ]) e

pub last_factors : (steps k : ℕ) (p : List ℕ) → k < 2 → factors_within (suc steps) k p ≡ cond (is_one p) (Some []) None
unfolding factors_within
last_factors steps k p less =
    ap (λ b. cond b (cond (is_one p) (Some []) None) (elim (quotient k p) [ Some q ↦ option_map (λ ks. k ∷ ks) (factors_within steps k q) | None ↦ factors_within steps (k - 1) p ]))
    (let t : nat_lt k 2 ≡ true = grind (arith, nat_tests) in t)

-- ---- the loop

-- these factors were found, and those of p up to k are left to be found
abbrev pub AreFoundUpTo : Option (List ℕ) → List ℕ → ℕ → List ℕ → Type 0
AreFoundUpTo all found k p = (steps : ℕ) × (k + length p < steps) × (all ≡ option_map (λ ks. found ++ ks) (factors_within steps k p))

pub found_next : (all : Option (List ℕ)) (found : List ℕ) (k : ℕ) (p q : List ℕ) → 2 ≤ k → quotient k p ≡ Some q → AreFoundUpTo all found k p → AreFoundUpTo all (found ++ k ∷ []) k q
found_next all found k p q some e (zero, below, is) = absurd (omega arith)
found_next all found k p q some e (suc steps, below, is) =
    let shorter : length p ≡ length q + (k - 1) = quotient_length k p q (omega arith) e in
    (steps, omega arith, is ∙ ap (option_map (λ ks. found ++ ks)) (factor_found steps k p q some e) ∙ front_more found k (factors_within steps k q))

pub found_none : (all : Option (List ℕ)) (found : List ℕ) (k : ℕ) (p : List ℕ) → 2 ≤ k → quotient k p ≡ None → AreFoundUpTo all found k p → AreFoundUpTo all found (k - 1) p
found_none all found k p some e (zero, below, is) = absurd (omega arith)
found_none all found k p some e (suc steps, below, is) = (steps, omega arith, is ∙ ap (option_map (λ ks. found ++ ks)) (no_factor steps k p some e))

pub found_all : (all : Option (List ℕ)) (found : List ℕ) (k : ℕ) (p : List ℕ) → k < 2 → AreFoundUpTo all found k p → all ≡ option_map (λ ks. found ++ ks) (cond (is_one p) (Some []) None)
found_all all found k p less (zero, below, is) = absurd (omega arith)
found_all all found k p less (suc steps, below, is) = is ∙ ap (option_map (λ ks. found ++ ks)) (last_factors steps k p less)

pub found_first : (dimensions p : List ℕ) (cut k : ℕ) (found : List ℕ) → cut ≡ length dimensions - 1 → p ≡ take cut dimensions → k ≡ length p → found ≡ [] → AreFoundUpTo (factors_of dimensions) found k p
unfolding factors_of
found_first dimensions p cut k found at is most none =
    let series : p ≡ series_of dimensions = is ∙ ap (λ n. take n dimensions) at in
    let size : length p ≡ length dimensions - 1 = ap length series ∙ length-take-le (length dimensions - 1) dimensions (omega arith) in (
      suc (length dimensions + length dimensions),
      omega arith,
      ap (λ q. factors_within (suc (length dimensions + length dimensions)) (length q) q) (sym series)
          ∙ ap (λ n. factors_within (suc (length dimensions + length dimensions)) n p) (sym most)
          ∙ sym (option_map_id (factors_within (suc (length dimensions + length dimensions)) k p))
          ∙ ap (λ f. option_map (λ ks. f ++ ks) (factors_within (suc (length dimensions + length dimensions)) k p)) (sym none),
    )

-- ---- one division, as the loop sees it

pub division_is : (o : Option (List ℕ)) (p : List ℕ) → MatchOption o (true ≡ false) (λ q. (true ≡ true) × (p ≡ q)) → o ≡ Some p
division_is None p h = cc
division_is (Some q) p h = ap Some (sym h.1)

pub division_is_none : (o : Option (List ℕ)) (p : List ℕ) → MatchOption o (false ≡ false) (λ q. (false ≡ true) × (p ≡ q)) → o ≡ None
division_is_none None p h = refl
division_is_none (Some q) p h = let c : false ≡ true = h.0 in cc
