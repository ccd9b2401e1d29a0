-- In a layout an edge is found by its letter.
use Rattle.std.proofs.Common.{◌≡◌, ℕ, zero, suc, ◌+◌, ◌<◌, ◌≤◌, Bool, true, false, true≢false, cond, eqb, not, List, [], ◌∷◌, length, refl, sym, ap, ◌∙◌, subst, eq-eqb, lt-ltb, arith}
use Rattle.std.specs.Prelude.{Option, Some, None}
use Rattle.std.specs.List.{position, position_or_len, count_by}
use Rattle.std.proofs.lemmas.Bool.{eqb-true, and_from, and_parts}
use Rattle.std.proofs.lemmas.List.Quantifiers.{position-Some}
use mathlib.Core.Logic.{dite}
use native.Mathlib.Decide.{dec_le}
use Rattle.nichols_core.specs.declared.edge.Edge.{Edge}
use Rattle.nichols_core.specs.Layout.{LayoutValue, IsLayout, no_edge, edge_at, edge_into, edge_out, enters, leaves}
use Rattle.nichols_core.specs.Machine.{some_edge}
use Rattle.nichols_core.specs.Conditions.{IsInto, IsOutOf, AnEdgeIsFoundByItsLetter}
use Rattle.nichols_core.proofs.Sorted.{count_two}

-- the first that passes is no later than one that does
first_le : (p : Edge → Bool) (es : List Edge) (k : ℕ) → k < length es → p (edge_at es k) ≡ true → position_or_len p es ≤ k
first_le p [] k inside passes = absurd (omega arith)
first_le p (e ∷ es) zero inside passes = subst (λ t. cond (not t) (1 + position_or_len p es) 0 ≤ 0) (sym passes) (omega arith)
first_le p (e ∷ es) (suc k) inside passes = two (p e) (first_le p es k (omega arith) passes)
  where
    two : (t : Bool) → position_or_len p es ≤ k → cond (not t) (1 + position_or_len p es) 0 ≤ suc k
    two true rest = omega arith
    two false rest = omega arith

-- where at most one edge passes, the one that does is found
found_once : (p : Edge → Bool) (es : List Edge) (k : ℕ) → k < length es → p (edge_at es k) ≡ true → count_by p es ≤ 1 → position p es ≡ Some k
found_once p es k inside passes once =
    let first : ℕ = position_or_len p es in
    let no_later : first ≤ k = first_le p es k inside passes in
    let is : position p es ≡ Some first = ap (λ t. cond t (Some first) None) (lt-ltb first (length es) (omega arith)) in
    let there = position-Some p es first no_edge is in
    dite (dec_le (suc first) k)
    (λ earlier. let two = count_two p es first k earlier inside there.1 passes in absurd (omega arith))
    (λ late. let same : first ≡ k = omega arith in is ∙ ap Some same)

pub into_found : (l : LayoutValue) → IsLayout l → (b a k : ℕ) → IsInto l.edges b a k → edge_into l.edges b a ≡ Some k
into_found l rules b a k at =
    found_once (enters b a) l.edges k at.inside
    (and_from (eqb (edge_at l.edges k).upper b) (eqb (edge_at l.edges k).letter a) (eq-eqb (edge_at l.edges k).upper b at.upper) (eq-eqb (edge_at l.edges k).letter a at.letter))
    (rules.good.one_into b a)

pub out_found : (l : LayoutValue) → IsLayout l → (b a k : ℕ) → IsOutOf l.edges b a k → edge_out l.edges b a ≡ Some k
out_found l rules b a k at =
    found_once (leaves b a) l.edges k at.inside
    (and_from (eqb (edge_at l.edges k).lower b) (eqb (edge_at l.edges k).letter a) (eq-eqb (edge_at l.edges k).lower b at.lower) (eq-eqb (edge_at l.edges k).letter a at.letter))
    (rules.good.one_out b a)

pub an_edge_is_found_by_its_letter : AnEdgeIsFoundByItsLetter
an_edge_is_found_by_its_letter l rules k inside = (
  into_found l rules (edge_at l.edges k).upper (edge_at l.edges k).letter k (record { inside = inside; upper = refl; letter = refl }),
  out_found l rules (edge_at l.edges k).lower (edge_at l.edges k).letter k (record { inside = inside; lower = refl; letter = refl }),
)

-- and what is found is such an edge
pub into_is : (es : List Edge) (b a k : ℕ) → edge_into es b a ≡ Some k → IsInto es b a k
into_is es b a k is =
    let r = position-Some (enters b a) es k no_edge is in
    let both = and_parts (eqb (edge_at es k).upper b) (eqb (edge_at es k).letter a) r.1 in
    record { inside = r.0; upper = eqb-true (edge_at es k).upper b both.0; letter = eqb-true (edge_at es k).letter a both.1 }

pub out_is : (es : List Edge) (b a k : ℕ) → edge_out es b a ≡ Some k → IsOutOf es b a k
out_is es b a k is =
    let r = position-Some (leaves b a) es k no_edge is in
    let both = and_parts (eqb (edge_at es k).lower b) (eqb (edge_at es k).letter a) r.1 in
    record { inside = r.0; lower = eqb-true (edge_at es k).lower b both.0; letter = eqb-true (edge_at es k).letter a both.1 }

-- an edge for which a test passes, from the test of what was found
pub some_found : (at : Option ℕ) (test : ℕ → Bool) → some_edge at test ≡ true → (k : ℕ) × ((at ≡ Some k) × (test k ≡ true))
some_found None test h = absurd (true≢false (sym h))
some_found (Some k) test h = (k, (refl, h))

pub found_some : (at : Option ℕ) (test : ℕ → Bool) (k : ℕ) → at ≡ Some k → test k ≡ true → some_edge at test ≡ true
found_some at test k is h = ap (λ o. some_edge o test) is ∙ h
