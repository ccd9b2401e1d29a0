-- The laws of the end of the algebra: which degrees are finished, where the algebra is closed, and what stops it where it isn't.
use Rattle.std.proofs.Common.{◌≡◌, ℕ, zero, suc, ◌+◌, ◌<◌, ◌≤◌, Bool, true, false, cond, List, [], ◌∷◌, length, refl, sym, ◌∙◌, ap, subst, arith, ◌⊎◌, inl, inr, Some, None}
use Rattle.std.specs.Prelude.{Option, is_some}
use Rattle.std.specs.List.{range_with_len, Contains}
use Rattle.std.proofs.lemmas.Bool.{cases_lt}
use Rattle.nichols_tensor.proofs.Entries.{contains_none, contains_first, contains_later, contains_cases, any_of, some_of}
use Rattle.nichols_braid.specs.declared.TheConstants.{MOST_DEGREES}
use Rattle.nichols_braid.specs.Braid.{BraidValue}
use Rattle.nichols_braid.specs.Kernel.{Vanishing}
use Rattle.nichols_braid.specs.End.{is_empty_degree, finished_from, degrees_finished, is_closed, stop_of}
use Rattle.nichols_braid.specs.EndLaws.{AreFreeUpTo, FinishedDegrees, ClosedWhereADegreeIsEmpty, IsStoppedAt, AnEndIsReached}

-- no degree from m on and below n is empty
abbrev AreFilledBetween : Vanishing → BraidValue → ℕ → ℕ → Type 0
AreFilledBetween vanishes braid m n = (j : ℕ) → m ≤ j → j < n → is_empty_degree vanishes braid j ≡ false

-- no degree below n is empty
abbrev AreFilledBelow : Vanishing → BraidValue → ℕ → Type 0
AreFilledBelow vanishes braid n = (j : ℕ) → j < n → is_empty_degree vanishes braid j ≡ false

-- no degree from m to n is stopped
abbrev AreFreeBetween : {X : Type 0} → (ℕ → Option X) → ℕ → ℕ → Type 0
AreFreeBetween stops m n = (j : ℕ) → m ≤ j → j ≤ n → stops j ≡ None

-- what is finished from degree m on, by whether m is stopped and whether it is empty
abbrev next_finished : ℕ → Bool → Bool → List ℕ → List ℕ
next_finished m stopped empty later = cond stopped [] (m ∷ cond empty [] later)

none_is_no_stop : {X : Type 0} (o : Option X) → o ≡ None → is_some o ≡ false
none_is_no_stop None e = refl
none_is_no_stop (Some x) e = cc

in_finished_from : {X : Type 0} (vanishes : Vanishing) (braid : BraidValue) (stops : ℕ → Option X) (left m n : ℕ) → m ≤ n → n < m + left → AreFreeBetween stops m n → AreFilledBetween vanishes braid m n →
    Contains (finished_from vanishes braid stops left m) n
unfolding finished_from
in_finished_from vanishes braid stops zero m n from below free filled = absurd (omega arith)
in_finished_from vanishes braid stops (suc left) m n from below free filled =
    subst (λ b. Contains (next_finished m b (is_empty_degree vanishes braid m) (finished_from vanishes braid stops left (suc m))) n)
    (sym (none_is_no_stop (stops m) (free m (omega arith) from)))
    (elim (cases_lt m n) [
      | inl less ↦
          let rest : Contains (finished_from vanishes braid stops left (suc m)) n =
          in_finished_from vanishes braid stops left (suc m) n (omega arith) (omega arith) (λ j h k. free j (omega arith) k) (λ j h less. filled j (omega arith) less) in
          contains_later m (cond (is_empty_degree vanishes braid m) [] (finished_from vanishes braid stops left (suc m))) n
          (subst (λ b. Contains (cond b [] (finished_from vanishes braid stops left (suc m))) n) (sym (filled m (omega arith) less)) rest)
      | inr more ↦ let same : n ≡ m = omega arith in subst (λ k. Contains (k ∷ cond (is_empty_degree vanishes braid m) [] (finished_from vanishes braid stops left (suc m))) n) same (contains_first n (cond (is_empty_degree vanishes braid m) [] (finished_from vanishes braid stops left (suc m))))
    ])

-- degree n is one of those from m on, and all before it are free and filled
abbrev IsReached : {X : Type 0} → Vanishing → BraidValue → (ℕ → Option X) → ℕ → ℕ → ℕ → Type 0
IsReached vanishes braid stops left m n = (m ≤ n) × (n < m + left) × AreFreeBetween stops m n × AreFilledBetween vanishes braid m n

from_finished_from : {X : Type 0} (vanishes : Vanishing) (braid : BraidValue) (stops : ℕ → Option X) (left m n : ℕ) → Contains (finished_from vanishes braid stops left m) n → IsReached vanishes braid stops left m n
unfolding finished_from
from_finished_from {X = X} vanishes braid stops zero m n i = absurd (contains_none n i)
from_finished_from {X = X} vanishes braid stops (suc left) m n i = at (stops m) refl (is_empty_degree vanishes braid m) refl i (λ k. from_finished_from vanishes braid stops left (suc m) n k)
  where
    at : (o : Option X) → stops m ≡ o → (b : Bool) → is_empty_degree vanishes braid m ≡ b → Contains (next_finished m (is_some o) b (finished_from vanishes braid stops left (suc m))) n →
        (Contains (finished_from vanishes braid stops left (suc m)) n → IsReached vanishes braid stops left (suc m) n) → IsReached vanishes braid stops (suc left) m n
    at (Some s) e b f i rest = absurd (contains_none n i)
    at None e b f i rest =
        elim (contains_cases m (cond b [] (finished_from vanishes braid stops left (suc m))) n i) [
          | inl same ↦ (
            omega arith,
            omega arith,
            λ j h k. let here : m ≡ j = omega arith in subst (λ d. stops d ≡ None) here e,
            λ j h k. absurd (omega arith),
          )
          | inr k ↦ later b f k
        ]
      where
        later : (b : Bool) → is_empty_degree vanishes braid m ≡ b → Contains (cond b [] (finished_from vanishes braid stops left (suc m))) n → IsReached vanishes braid stops (suc left) m n
        later true f k = absurd (contains_none n k)
        later false f k =
            let (from, below, free, filled) = rest k in (
              omega arith,
              omega arith,
              λ j h most. elim (cases_lt m j) [
                | inl after ↦ free j (omega arith) most
                | inr here ↦ let same : m ≡ j = omega arith in subst (λ d. stops d ≡ None) same e
              ],
              λ j h less. elim (cases_lt m j) [
                | inl after ↦ filled j (omega arith) less
                | inr here ↦ let same : m ≡ j = omega arith in subst (λ d. is_empty_degree vanishes braid d ≡ false) same f
              ],
            )

finished_from_numbers : {X : Type 0} (vanishes : Vanishing) (braid : BraidValue) (stops : ℕ → Option X) (left m : ℕ) →
    finished_from vanishes braid stops left m ≡ range_with_len m (length (finished_from vanishes braid stops left m))
unfolding finished_from
finished_from_numbers vanishes braid stops zero m = refl
finished_from_numbers vanishes braid stops (suc left) m = at (is_some (stops m)) (is_empty_degree vanishes braid m) (finished_from vanishes braid stops left (suc m)) (finished_from_numbers vanishes braid stops left (suc m))
  where
    at : (s b : Bool) (ms : List ℕ) → ms ≡ range_with_len (suc m) (length ms) → next_finished m s b ms ≡ range_with_len m (length (next_finished m s b ms))
    at true b ms e = refl
    at false true ms e = refl
    at false false ms e = let next : suc m ≡ m + 1 = omega arith in ap (λ ks. m ∷ ks) (e ∙ ap (λ k. range_with_len k (length ms)) next)

pub in_finished : {X : Type 0} (vanishes : Vanishing) (braid : BraidValue) (stops : ℕ → Option X) (m : ℕ) → m ≤ MOST_DEGREES → AreFreeUpTo stops m → AreFilledBelow vanishes braid m → Contains (degrees_finished vanishes braid stops) m
unfolding degrees_finished
in_finished vanishes braid stops m within free filled = in_finished_from vanishes braid stops (suc MOST_DEGREES) 0 m (omega arith) (omega arith) (λ j h most. free j most) (λ j h less. filled j less)

pub from_finished : {X : Type 0} (vanishes : Vanishing) (braid : BraidValue) (stops : ℕ → Option X) (m : ℕ) → Contains (degrees_finished vanishes braid stops) m → (m ≤ MOST_DEGREES) × AreFreeUpTo stops m × AreFilledBelow vanishes braid m
unfolding degrees_finished
from_finished vanishes braid stops m i =
    let (from, below, free, filled) = from_finished_from vanishes braid stops (suc MOST_DEGREES) 0 m i in
    (omega arith, (λ j most. free j (omega arith) most), λ j less. filled j (omega arith) less)

finished_numbers : {X : Type 0} (vanishes : Vanishing) (braid : BraidValue) (stops : ℕ → Option X) → degrees_finished vanishes braid stops ≡ range_with_len 0 (length (degrees_finished vanishes braid stops))
unfolding degrees_finished
finished_numbers vanishes braid stops = finished_from_numbers vanishes braid stops (suc MOST_DEGREES) 0

pub finished_degrees : (X : Type 0) → FinishedDegrees X
finished_degrees X vanishes braid stops = (
  λ m. ((λ i. from_finished vanishes braid stops m i), (λ h. in_finished vanishes braid stops m h.0 h.1 h.2)),
  finished_numbers vanishes braid stops,
)

-- ---- the number of finished degrees

pub in_numbers : (a n k : ℕ) → a ≤ k → k < a + n → Contains (range_with_len a n) k
in_numbers a zero k from below = absurd (omega arith)
in_numbers a (suc n) k from below =
    elim (cases_lt a k) [
      | inl less ↦ contains_later a (range_with_len (a + 1) n) k (in_numbers (a + 1) n k (omega arith) (omega arith))
      | inr more ↦ let same : k ≡ a = omega arith in subst (λ b. Contains (b ∷ range_with_len (a + 1) n) k) same (contains_first k (range_with_len (a + 1) n))
    ]

from_numbers : (a n k : ℕ) → Contains (range_with_len a n) k → k < a + n
from_numbers a zero k i = absurd (contains_none k i)
from_numbers a (suc n) k i =
    elim (contains_cases a (range_with_len (a + 1) n) k i) [
      | inl same ↦ omega arith
      | inr later ↦ let less : k < a + 1 + n = from_numbers (a + 1) n k later in omega arith
    ]

-- a degree is finished exactly where it is below the number of finished degrees
pub finished_below_count : {X : Type 0} (vanishes : Vanishing) (braid : BraidValue) (stops : ℕ → Option X) (m : ℕ) → Contains (degrees_finished vanishes braid stops) m → m < length (degrees_finished vanishes braid stops)
finished_below_count vanishes braid stops m i =
    let less : m < 0 + length (degrees_finished vanishes braid stops) = from_numbers 0 (length (degrees_finished vanishes braid stops)) m (subst (λ ms. Contains ms m) (finished_numbers vanishes braid stops) i) in
    omega arith

pub below_count_finished : {X : Type 0} (vanishes : Vanishing) (braid : BraidValue) (stops : ℕ → Option X) (m : ℕ) → m < length (degrees_finished vanishes braid stops) → Contains (degrees_finished vanishes braid stops) m
below_count_finished vanishes braid stops m less = subst (λ ms. Contains ms m) (sym (finished_numbers vanishes braid stops)) (in_numbers 0 (length (degrees_finished vanishes braid stops)) m (omega arith) (omega arith))

-- ---- closed

-- below n a test holds of no number, or of a first one
first_below : (t : ℕ → Bool) (n : ℕ) → ((j : ℕ) → j < n → t j ≡ false) ⊎ ((k : ℕ) × (k < n) × (t k ≡ true) × ((j : ℕ) → j < k → t j ≡ false))
first_below t zero = inl (λ j less. absurd (omega arith))
first_below t (suc n) = at (t n) refl (first_below t n)
  where
    at : (b : Bool) → t n ≡ b → ((j : ℕ) → j < n → t j ≡ false) ⊎ ((k : ℕ) × (k < n) × (t k ≡ true) × ((j : ℕ) → j < k → t j ≡ false)) →
        ((j : ℕ) → j < suc n → t j ≡ false) ⊎ ((k : ℕ) × (k < suc n) × (t k ≡ true) × ((j : ℕ) → j < k → t j ≡ false))
    at b e (inr (k, less, holds, first)) = inr (k, omega arith, holds, first)
    at true e (inl none) = inr (n, omega arith, e, none)
    at false e (inl none) = inl (λ j less. elim (cases_lt j n) [
      | inl below ↦ none j below
      | inr here ↦ let same : n ≡ j = omega arith in subst (λ k. t k ≡ false) same e
    ])

closed_if_empty : {X : Type 0} (vanishes : Vanishing) (braid : BraidValue) (stops : ℕ → Option X) (m : ℕ) → m ≤ MOST_DEGREES → AreFreeUpTo stops m → is_empty_degree vanishes braid m ≡ true → is_closed vanishes braid stops ≡ true
unfolding is_closed
closed_if_empty vanishes braid stops m within free empty =
    elim (first_below (is_empty_degree vanishes braid) m) [
      | inl filled ↦ any_of (is_empty_degree vanishes braid) m (degrees_finished vanishes braid stops) (in_finished vanishes braid stops m within free filled) empty
      | inr (k, less, holds, first) ↦
          any_of (is_empty_degree vanishes braid) k (degrees_finished vanishes braid stops) (in_finished vanishes braid stops k (omega arith) (λ j most. free j (omega arith)) first) holds
    ]

empty_if_closed : {X : Type 0} (vanishes : Vanishing) (braid : BraidValue) (stops : ℕ → Option X) → is_closed vanishes braid stops ≡ true →
    (m : ℕ) × (m ≤ MOST_DEGREES) × AreFreeUpTo stops m × (is_empty_degree vanishes braid m ≡ true)
unfolding is_closed
empty_if_closed vanishes braid stops closed =
    let (m, i, empty) = some_of (is_empty_degree vanishes braid) (degrees_finished vanishes braid stops) closed in
    let (within, free, filled) = from_finished vanishes braid stops m i in
    (m, within, free, empty)

pub closed_where_a_degree_is_empty : (X : Type 0) → ClosedWhereADegreeIsEmpty X
closed_where_a_degree_is_empty X vanishes braid stops = (empty_if_closed vanishes braid stops, λ h. closed_if_empty vanishes braid stops h.0 h.1 h.2 h.3)

-- ---- what stops the algebra

-- the number of finished degrees, which is the first degree that isn't finished
abbrev count : {X : Type 0} → Vanishing → BraidValue → (ℕ → Option X) → ℕ
count vanishes braid stops = length (degrees_finished vanishes braid stops)

-- no finished degree of an algebra that isn't closed is empty
filled_below_count : {X : Type 0} (vanishes : Vanishing) (braid : BraidValue) (stops : ℕ → Option X) → is_closed vanishes braid stops ≡ false → AreFilledBelow vanishes braid (count vanishes braid stops)
unfolding is_closed
filled_below_count vanishes braid stops unclosed j less = at (is_empty_degree vanishes braid j) refl
  where
    at : (b : Bool) → is_empty_degree vanishes braid j ≡ b → is_empty_degree vanishes braid j ≡ false
    at true e =
        let closed : is_closed vanishes braid stops ≡ true = any_of (is_empty_degree vanishes braid) j (degrees_finished vanishes braid stops) (below_count_finished vanishes braid stops j less) e in
        cc
    at false e = e

free_below_count : {X : Type 0} (vanishes : Vanishing) (braid : BraidValue) (stops : ℕ → Option X) (j : ℕ) → j < count vanishes braid stops → stops j ≡ None
free_below_count vanishes braid stops j less = (from_finished vanishes braid stops j (below_count_finished vanishes braid stops j less)).1 j (omega arith)

not_beyond_count : {X : Type 0} (vanishes : Vanishing) (braid : BraidValue) (stops : ℕ → Option X) → Contains (degrees_finished vanishes braid stops) (count vanishes braid stops) → ⊥
not_beyond_count vanishes braid stops i = let less : count vanishes braid stops < count vanishes braid stops = finished_below_count vanishes braid stops (count vanishes braid stops) i in omega arith

-- where the algebra isn't closed, the first degree that isn't finished is stopped, or beyond the greatest
stopped_at_count : {X : Type 0} (vanishes : Vanishing) (braid : BraidValue) (stops : ℕ → Option X) → ((m : ℕ) → MOST_DEGREES < m → (s : X) × (stops m ≡ Some s)) → is_closed vanishes braid stops ≡ false →
    (s : X) × (stops (count vanishes braid stops) ≡ Some s)
stopped_at_count {X = X} vanishes braid stops above unclosed =
    elim (cases_lt MOST_DEGREES (count vanishes braid stops)) [
      | inl beyond ↦ above (count vanishes braid stops) beyond
      | inr within ↦ at (stops (count vanishes braid stops)) refl within
    ]
  where
    at : (o : Option X) → stops (count vanishes braid stops) ≡ o → count vanishes braid stops ≤ MOST_DEGREES → (s : X) × (stops (count vanishes braid stops) ≡ Some s)
    at (Some s) e within = (s, e)
    at None e within =
        absurd (not_beyond_count vanishes braid stops (in_finished vanishes braid stops (count vanishes braid stops) within
        (λ j most. elim (cases_lt j (count vanishes braid stops)) [
          | inl less ↦ free_below_count vanishes braid stops j less
          | inr here ↦ let same : count vanishes braid stops ≡ j = omega arith in subst (λ d. stops d ≡ None) same e
        ])
        (filled_below_count vanishes braid stops unclosed)))

stop_if_open : {X : Type 0} (vanishes : Vanishing) (braid : BraidValue) (stops : ℕ → Option X) → is_closed vanishes braid stops ≡ false → stop_of vanishes braid stops ≡ stops (count vanishes braid stops)
unfolding stop_of
stop_if_open vanishes braid stops unclosed = ap (λ b. cond b None (stops (count vanishes braid stops))) unclosed

ends : {X : Type 0} (vanishes : Vanishing) (braid : BraidValue) (stops : ℕ → Option X) → ((m : ℕ) → MOST_DEGREES < m → (s : X) × (stops m ≡ Some s)) →
    (is_closed vanishes braid stops ≡ true) ⊎ ((s : X) × (stop_of vanishes braid stops ≡ Some s))
ends {X = X} vanishes braid stops above = at (is_closed vanishes braid stops) refl
  where
    at : (b : Bool) → is_closed vanishes braid stops ≡ b → (is_closed vanishes braid stops ≡ true) ⊎ ((s : X) × (stop_of vanishes braid stops ≡ Some s))
    at true e = inl e
    at false e = let (s, stop) = stopped_at_count vanishes braid stops above e in inr (s, stop_if_open vanishes braid stops e ∙ stop)

stop_is : {X : Type 0} (vanishes : Vanishing) (braid : BraidValue) (stops : ℕ → Option X) (s : X) → stop_of vanishes braid stops ≡ Some s →
    (is_closed vanishes braid stops ≡ false) × ((m : ℕ) × IsStoppedAt vanishes braid stops m s)
unfolding stop_of
stop_is {X = X} vanishes braid stops s e = at (is_closed vanishes braid stops) refl e
  where
    at : (b : Bool) → is_closed vanishes braid stops ≡ b → cond b None (stops (count vanishes braid stops)) ≡ Some s → (is_closed vanishes braid stops ≡ false) × ((m : ℕ) × IsStoppedAt vanishes braid stops m s)
    at true closed e = cc
    at false unclosed e =
        (unclosed, (count vanishes braid stops, record { below = λ j less. below_count_finished vanishes braid stops j less; unfinished = not_beyond_count vanishes braid stops; stop = e }))

-- the first degree that isn't finished is the number of finished degrees
first_is_count : {X : Type 0} (vanishes : Vanishing) (braid : BraidValue) (stops : ℕ → Option X) (m : ℕ) (s : X) → IsStoppedAt vanishes braid stops m s → count vanishes braid stops ≡ m
first_is_count vanishes braid stops m s at =
    elim (cases_lt m (count vanishes braid stops)) [
      | inl less ↦ absurd (at.unfinished (below_count_finished vanishes braid stops m less))
      | inr most ↦ elim (cases_lt (count vanishes braid stops) m) [
        | inl less ↦ absurd (not_beyond_count vanishes braid stops (at.below (count vanishes braid stops) less))
        | inr more ↦ omega arith
      ]
    ]

stop_from : {X : Type 0} (vanishes : Vanishing) (braid : BraidValue) (stops : ℕ → Option X) (m : ℕ) (s : X) → is_closed vanishes braid stops ≡ false → IsStoppedAt vanishes braid stops m s → stop_of vanishes braid stops ≡ Some s
stop_from vanishes braid stops m s unclosed at = stop_if_open vanishes braid stops unclosed ∙ ap stops (first_is_count vanishes braid stops m s at) ∙ at.stop

pub an_end_is_reached : (X : Type 0) → AnEndIsReached X
an_end_is_reached X vanishes braid stops = (
  ends vanishes braid stops,
  λ s. (stop_is vanishes braid stops s, λ h. stop_from vanishes braid stops h.1.0 s h.0 h.1.1),
)
