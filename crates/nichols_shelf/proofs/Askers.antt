-- The blocks whose askers' bits a wait word has.
use Rattle.std.proofs.Common.{◌≡◌, ℕ, zero, suc, ◌-◌, ◌<◌, Bool, true, false, true≢false, cond, eqb, ◌&&◌, ◌||◌, List, [], ◌∷◌, length, refl, sym, ap, ◌∙◌, ⊎_elim, eq-eqb, arith}
use Rattle.std.specs.Int.{bit_at}
use Rattle.std.proofs.lemmas.Bool.{eqb-true, or_cases, or_right, and_parts}
use Rattle.nichols_core.specs.declared.edge.Edge.{Edge}
use Rattle.nichols_core.specs.Layout.{edge_at}
use Rattle.nichols_shelf.specs.Lists.{is_in}
use Rattle.nichols_shelf.specs.Views.{askers}

-- an asker has an edge with its bit
pub record Asks (es : List Edge) (b word c : ℕ) : Type 0 where
  pub number : ℕ
  pub inside : number < length es
  pub lower : (edge_at es number).lower ≡ b
  pub upper : (edge_at es number).upper ≡ c
  pub bit : bit_at word ((edge_at es number).letter - 1) ≡ 1

later : {es : List Edge} {b word c : ℕ} (e : Edge) → Asks es b word c → Asks (e ∷ es) b word c
later e a = let i = a.inside in record { number = suc a.number; inside = omega arith; lower = a.lower; upper = a.upper; bit = a.bit }

pub asks : (es : List Edge) (b word c : ℕ) → is_in c (askers es b word) ≡ true → Asks es b word c
asks [] b word c m = absurd (true≢false (sym m))
asks (e ∷ es) b word c m = one (eqb e.lower b && eqb (bit_at word (e.letter - 1)) 1) refl m (asks es b word c)
  where
    one : (t : Bool) → (eqb e.lower b && eqb (bit_at word (e.letter - 1)) 1) ≡ t → is_in c (cond t (e.upper ∷ askers es b word) (askers es b word)) ≡ true → (is_in c (askers es b word) ≡ true → Asks es b word c) → Asks (e ∷ es) b word c
    one true is n rest = let a = and_parts (eqb e.lower b) (eqb (bit_at word (e.letter - 1)) 1) is in
        ⊎_elim (λ q. record { number = 0; inside = omega arith; lower = eqb-true e.lower b a.0; upper = sym (eqb-true c e.upper q); bit = eqb-true (bit_at word (e.letter - 1)) 1 a.1 })
        (λ q. later e (rest q)) (or_cases (eqb c e.upper) (is_in c (askers es b word)) n)
    one false is n rest = later e (rest n)

pub asked_for : (es : List Edge) (b word k : ℕ) → k < length es → (edge_at es k).lower ≡ b → bit_at word ((edge_at es k).letter - 1) ≡ 1 → is_in (edge_at es k).upper (askers es b word) ≡ true
asked_for [] b word k inside low bit = absurd (omega arith)
asked_for (e ∷ es) b word zero inside low bit =
    let t : (eqb e.lower b && eqb (bit_at word (e.letter - 1)) 1) ≡ true = ap (λ x. x && eqb (bit_at word (e.letter - 1)) 1) (eq-eqb e.lower b low) ∙ eq-eqb (bit_at word (e.letter - 1)) 1 bit in
    ap (λ x. is_in e.upper (cond x (e.upper ∷ askers es b word) (askers es b word))) t ∙ ap (λ x. x || is_in e.upper (askers es b word)) (eq-eqb e.upper e.upper refl)
asked_for (e ∷ es) b word (suc k) inside low bit = further (eqb e.lower b && eqb (bit_at word (e.letter - 1)) 1) (asked_for es b word k (omega arith) low bit)
  where
    further : (t : Bool) → is_in (edge_at es k).upper (askers es b word) ≡ true → is_in (edge_at es k).upper (cond t (e.upper ∷ askers es b word) (askers es b word)) ≡ true
    further true h = or_right (eqb (edge_at es k).upper e.upper) (is_in (edge_at es k).upper (askers es b word)) h
    further false h = h
