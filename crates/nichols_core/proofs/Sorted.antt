-- Edges in rising order: how many share a block and a letter.
use Rattle.std.proofs.Common.{◌≡◌, inl, inr, ℕ, zero, suc, ◌+◌, ◌*◌, ◌<◌, ◌≤◌, Bool, true, false, cond, eqb, ◌&&◌, List, [], ◌∷◌, length, zero-add, refl, sym, ap, ◌∙◌, subst, eq-eqb, arith}
use Rattle.std.proofs.lemmas.Bool.{eqb-true, false_from_ne_true, and_from, and_parts}
use Rattle.std.proofs.lemmas.List.Sums.{get_or-le-sum_by, sum_by-cons}
use Rattle.std.specs.List.{count_by}
use Rattle.std.specs.List.Sorted.{IsNonDecreasingBy}
use mathlib.Core.Logic.{dite}
use native.Mathlib.Decide.{ℕ_discrete}
use Rattle.nichols_tensor.specs.declared.TheConstants.{LETTER_LIMIT}
use Rattle.nichols_core.specs.declared.edge.Edge.{Edge}
use Rattle.nichols_core.specs.Layout.{no_edge, edge_at, entry_place, IsRisingBy, IsBefore}

-- what stands before the next stands before all that follow
pub rising : (n : Edge → ℕ) (es : List Edge) → IsRisingBy n es → (j k : ℕ) → j < k → k < length es → n (edge_at es j) < n (edge_at es k)
rising n es up j zero before inside = absurd (omega arith)
rising n es up j (suc k) before inside =
    let one_more : k + 1 ≡ suc k = omega arith in
    let next : n (edge_at es k) < n (edge_at es (suc k)) = subst (λ z. n (edge_at es k) < n (edge_at es z)) one_more (up k (omega arith)) in
    dite (ℕ_discrete j k)
    (λ same. subst (λ z. n (edge_at es z) < n (edge_at es (suc k))) (sym same) next)
    (λ other. let earlier = rising n es up j k (omega arith) (omega arith) in omega arith)

count-cons : (p : Edge → Bool) (e : Edge) (es : List Edge) → count_by p (e ∷ es) ≡ cond (p e) 1 0 + count_by p es
count-cons p e es = sum_by-cons (λ f. cond (p f) 1 0) e es

count_zero : (p : Edge → Bool) (es : List Edge) → ((k : ℕ) → k < length es → p (edge_at es k) ≡ false) → count_by p es ≡ 0
count_zero p [] none = refl
count_zero p (e ∷ es) none =
    let rest : count_by p es ≡ 0 = count_zero p es (λ k inside. none (suc k) (omega arith)) in
    let first : p e ≡ false = none 0 (omega arith) in
    count-cons p e es ∙ (ap (λ t. cond t 1 0 + count_by p es) first ∙ (zero-add (count_by p es) ∙ rest))

-- a test that edges with different numbers don't both pass counts at most one among edges that rise
pub count_one : (n : Edge → ℕ) (p : Edge → Bool) → ((e f : Edge) → p e ≡ true → p f ≡ true → n e ≡ n f)
    → (es : List Edge) → ((j k : ℕ) → j < k → k < length es → n (edge_at es j) < n (edge_at es k)) → count_by p es ≤ 1
count_one n p same [] up = omega arith
count_one n p same (e ∷ es) up = subst (λ c. c ≤ 1) (sym (count-cons p e es)) (two (p e) refl (count_one n p same es (λ j k before inside. up (suc j) (suc k) (omega arith) (omega arith))))
  where
    two : (t : Bool) → p e ≡ t → count_by p es ≤ 1 → cond t 1 0 + count_by p es ≤ 1
    two true is rest =
        let none : count_by p es ≡ 0 = count_zero p es (λ k inside. false_from_ne_true (p (edge_at es k)) (λ h. let less = up 0 (suc k) (omega arith) (omega arith) in let equal = same e (edge_at es k) is h in absurd (omega arith))) in
        omega arith
    two false is rest = omega arith

-- two edges that pass a test count two
pub count_two : (p : Edge → Bool) (es : List Edge) (j k : ℕ) → j < k → k < length es → p (edge_at es j) ≡ true → p (edge_at es k) ≡ true → 2 ≤ count_by p es
count_two p [] j k before inside first second = absurd (omega arith)
count_two p (e ∷ es) j zero before inside first second = absurd (omega arith)
count_two p (e ∷ es) zero (suc k) before inside first second =
    let one : cond {A = ℕ} (p (edge_at es k)) 1 0 ≤ count_by p es = get_or-le-sum_by (λ f. cond (p f) 1 0) es k no_edge (omega arith) in
    let here : cond {A = ℕ} (p e) 1 0 ≡ 1 = ap (λ t. cond {A = ℕ} t 1 0) first in
    let there : cond {A = ℕ} (p (edge_at es k)) 1 0 ≡ 1 = ap (λ t. cond {A = ℕ} t 1 0) second in
    let total : count_by p (e ∷ es) ≡ cond {A = ℕ} (p e) 1 0 + count_by p es = count-cons p e es in
    omega arith
count_two p (e ∷ es) (suc j) (suc k) before inside first second =
    let rest : 2 ≤ count_by p es = count_two p es j k (omega arith) (omega arith) first second in
    let total : count_by p (e ∷ es) ≡ cond {A = ℕ} (p e) 1 0 + count_by p es = count-cons p e es in
    omega arith

-- both tests by block and letter, over the block that counts
module _ (block : Edge → ℕ) where
  abbrev pub by : ℕ → ℕ → Edge → Bool
  by b a e = eqb (block e) b && eqb e.letter a

  abbrev pub place : Edge → ℕ
  place e = block e * 256 + e.letter

  pub by_same : (b a : ℕ) (e f : Edge) → by b a e ≡ true → by b a f ≡ true → place e ≡ place f
  by_same b a e f p q =
      let in_e = and_parts (eqb (block e) b) (eqb e.letter a) p in
      let in_f = and_parts (eqb (block f) b) (eqb f.letter a) q in
      let block_e = eqb-true (block e) b in_e.0 in
      let block_f = eqb-true (block f) b in_f.0 in
      let letter_e = eqb-true e.letter a in_e.1 in
      let letter_f = eqb-true f.letter a in_f.1 in
      omega arith

  pub same_by : (e f : Edge) → e.letter ≤ LETTER_LIMIT → f.letter ≤ LETTER_LIMIT → place e ≡ place f → (by (block e) e.letter e ≡ true) × (by (block e) e.letter f ≡ true)
  same_by e f small less equal =
      let blocks : block f ≡ block e = omega arith in
      let letters : f.letter ≡ e.letter = omega arith in
      (and_from (eqb (block e) (block e)) (eqb e.letter e.letter) (eq-eqb (block e) (block e) refl) (eq-eqb e.letter e.letter refl), and_from (eqb (block f) (block e)) (eqb f.letter e.letter) (eq-eqb (block f) (block e) blocks) (eq-eqb f.letter e.letter letters))

  pub one_each : (es : List Edge) → IsRisingBy place es → (b a : ℕ) → count_by (by b a) es ≤ 1
  one_each es up b a = count_one place (by b a) (by_same b a) es (rising place es up)

  pub rises : (es : List Edge) → ((k : ℕ) → k < length es → (edge_at es k).letter ≤ LETTER_LIMIT) → ((b a : ℕ) → count_by (by b a) es ≤ 1) → IsNonDecreasingBy place es → IsRisingBy place es
  rises es small one sorted k inside =
      let e : Edge = edge_at es k in
      let f : Edge = edge_at es (k + 1) in
      let at_most : place e ≤ place f = sorted k (k + 1) no_edge (omega arith) inside in
      let next : ℕ = k + 1 in
      dite (ℕ_discrete (place e) (place f))
      (λ equal.
      let both = same_by e f (small k (omega arith)) (small (k + 1) inside) equal in
      let two = count_two (by (block e) e.letter) es k (k + 1) (omega arith) inside both.0 both.1 in
      let most = one (block e) e.letter in
      absurd (omega arith))
      (λ other. omega arith)

-- what stands before by its number stands before by upper block and letter
pub before : (e f : Edge) → e.letter ≤ LETTER_LIMIT → f.letter ≤ LETTER_LIMIT → entry_place e < entry_place f → IsBefore e f
before e f small less h = dite (ℕ_discrete e.upper f.upper) (λ same. inr (same, omega arith)) (λ other. inl (omega arith))
