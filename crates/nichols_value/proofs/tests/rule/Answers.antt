use Rattle.std.proofs.Common.{rules, ◌≡◌, ◌<◌, ◌≤◌, ◌+◌, ◌-◌, ◌∙◌, ℕ, zero, suc, List, [], ◌∷◌, ◌++◌, ap, arith, drop, get_or, length, map, refl, subst, sym}
use Rattle.std.specs.List.{Contains}
use Rattle.nichols_tensor.specs.Positions.{word_at}
use Rattle.nichols_echelon.specs.Rows.{RowsValue}
use Rattle.nichols_value.specs.Kept.{AreEnds, AreEndsOf, IsShaped, candidate_at}
use Rattle.nichols_value.specs.Rule.{by_letter}
use Rattle.nichols_value.specs.declared.ends.Ends.{Ends}
use Rattle.nichols_value.specs.declared.spot.Spot.{Spot}
use Rattle.nichols_value.proofs.tests.rule.Goals as goal

-- the words 1 and 2, and their lists
abbrev ones : List (List ℕ)
ones = (1 ∷ []) ∷ (2 ∷ []) ∷ []

-- a word of two letters without its last one
last_of : (x y b : ℕ) (u : List ℕ) → x ∷ y ∷ [] ≡ u ++ b ∷ [] → (b ≡ y) × (u ≡ x ∷ [])
last_of x y b [] e = let size : 2 ≡ 1 = ap length e in absurd (omega (arith, size))
last_of x y b (z ∷ []) e = (sym (ap (λ l. get_or l 1 0) e), ap (λ n. n ∷ []) (sym (ap (λ l. get_or l 0 0) e)))
last_of x y b (z ∷ w ∷ u) e = let size : 2 ≡ length (z ∷ w ∷ u ++ b ∷ []) = ap length e in absurd (many u size)
  where
    many : (u : List ℕ) → 2 ≡ length (z ∷ w ∷ u ++ b ∷ []) → ⊥
    many [] h = omega (arith, h)
    many (v ∷ vs) h = omega (arith, h)

below_two : (b : ℕ) → 1 ≤ b → b ≤ 2 → by_letter (ones ∷ ones ∷ []) b ≡ ones
below_two zero some most = absurd (omega (arith, some))
below_two (suc zero) some most = refl
below_two (suc (suc zero)) some most = refl
below_two (suc (suc (suc b))) some most = absurd (omega (arith, most))

ends_of_two : (x y : ℕ) (ends : Ends) → 1 ≤ y → y ≤ 2 → ends.front < 2 → word_at ones ends.front ≡ x ∷ [] → ends.back < 2 → word_at ones ends.back ≡ y ∷ [] → AreEndsOf (1 ∷ 2 ∷ []) (ones ∷ ones ∷ []) (x ∷ y ∷ []) ends
ends_of_two x y ends some most front front_word back back_word = record {
  front = λ b u e.
      let p : (b ≡ y) × (u ≡ x ∷ []) = last_of x y b u e in
      let list : by_letter (ones ∷ ones ∷ []) b ≡ ones = below_two b (omega (arith, p.0, some)) (omega (arith, p.0, most)) in
      (subst (λ (ws : List (List ℕ)). ends.front < length ws) (sym list) front, ap (λ (ws : List (List ℕ)). word_at ws ends.front) list ∙ front_word ∙ sym p.1);
  back = λ c v low high e.
      let list : by_letter (ones ∷ ones ∷ []) c ≡ ones = below_two c low high in
      (subst (λ (ws : List (List ℕ)). ends.back < length ws) (sym list) back, ap (λ (ws : List (List ℕ)). word_at ws ends.back) list ∙ back_word ∙ ap (drop 1) e);
}

all_ends : AreEnds (1 ∷ 2 ∷ []) (ones ∷ ones ∷ []) ((1 ∷ 1 ∷ []) ∷ (1 ∷ 2 ∷ []) ∷ (2 ∷ 2 ∷ []) ∷ []) (record { front = 0; back = 0 } ∷ record { front = 0; back = 1 } ∷ record { front = 1; back = 1 } ∷ [])
all_ends = (
  ends_of_two 1 1 (record { front = 0; back = 0 }) (omega arith) (omega arith) (omega arith) refl (omega arith) refl,
  (
    ends_of_two 1 2 (record { front = 0; back = 1 }) (omega arith) (omega arith) (omega arith) refl (omega arith) refl,
    (ends_of_two 2 2 (record { front = 1; back = 1 }) (omega arith) (omega arith) (omega arith) refl (omega arith) refl, tt),
  ),
)

pub new-requires-clause-ends : goal.new-requires-clause-ends
new-requires-clause-ends c = rw (c.identity.ensures.value, c.in_ok-basis.ensures, c.in_ok-below.ensures, c.in_ok-ends.ensures) all_ends

-- ---- its shape

abbrev least : List (List ℕ)
least = (1 ∷ 1 ∷ []) ∷ (1 ∷ 2 ∷ []) ∷ (2 ∷ 2 ∷ []) ∷ []

abbrev two_one : List Spot
two_one = record { letter = 1; place = 1 } ∷ []

-- a word of two letters is in the basis or it is 2.1
whole_at : (b k : ℕ) → 0 < b → b - 1 < 2 → k < length (by_letter (ones ∷ ones ∷ []) b) → (Contains least (word_at (by_letter (ones ∷ ones ∷ []) b) k ++ b ∷ []) → ⊥) →
    Contains (map (candidate_at (ones ∷ ones ∷ [])) two_one) (word_at (by_letter (ones ∷ ones ∷ []) b) k ++ b ∷ [])
whole_at zero k some letter place none = absurd (omega (arith, some))
whole_at (suc zero) zero some letter place none = absurd (none (0, omega arith, refl))
whole_at (suc zero) (suc zero) some letter place none = (0, omega arith, refl)
whole_at (suc zero) (suc (suc k)) some letter place none = absurd (omega (arith, place))
whole_at (suc (suc zero)) zero some letter place none = absurd (none (1, omega arith, refl))
whole_at (suc (suc zero)) (suc zero) some letter place none = absurd (none (2, omega arith, refl))
whole_at (suc (suc zero)) (suc (suc k)) some letter place none = absurd (omega (arith, place))
whole_at (suc (suc (suc b))) k some letter place none = absurd (omega (arith, letter))

abbrev form_rows : List RowsValue
form_rows = record { rows = (record { column = 0; coefficient = 1 } ∷ []) ∷ (record { column = 1; coefficient = 1 } ∷ []) ∷ []; begun = [] }
    ∷ record { rows = (record { column = 1; coefficient = 1 } ∷ []) ∷ (record { column = 2; coefficient = 1 } ∷ []) ∷ []; begun = [] } ∷ []

shape : IsShaped (record { degree = 2; product = 1 ∷ 2 ∷ [] }) least (ones ∷ ones ∷ []) form_rows two_one
shape = record {
  letters = search rules;
  rising = search rules;
  lists_rise = search rules;
  short = search rules;
  forms = search rules;
  rows = search rules;
  inside = search rules;
  whole = λ s spot none. let (some, letter, place) = spot in whole_at s.letter s.place some letter place none;
}

pub new-requires-clause-shape : goal.new-requires-clause-shape
new-requires-clause-shape c = rw (c.identity.ensures.value, c.in_ok-basis.ensures, c.in_ok-below.ensures, c.in_ok-right.ensures, c.in_ok-spots.ensures) shape
