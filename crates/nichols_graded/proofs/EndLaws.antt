-- The end is reached after an empty degree, and where the next one is stopped.
use Rattle.std.proofs.Common.{◌≡◌, ℕ, suc, ◌<◌, ◌≤◌, Bool, true, false, cond, List, length, refl, sym, ◌∙◌, ap, subst, arith, Some, None, nat_eq, nat_lt, inl, inr}
use Rattle.std.specs.Prelude.{Option, option_map}
use Rattle.std.specs.List.{Contains}
use Rattle.std.proofs.lemmas.Bool.{cases_lt, false_from_ne_true}
use Rattle.std.proofs.lemmas.Bool.Decides.{nat_tests}
use Rattle.nichols_braid.specs.declared.TheConstants.{MOST_DEGREES, MOST_PRODUCTS}
use Rattle.nichols_braid.specs.Braid.{BraidValue}
use Rattle.nichols_braid.specs.Kernel.{is_in_kernel}
use Rattle.nichols_braid.specs.Products.{products}
use Rattle.nichols_braid.specs.End.{is_empty_degree, degrees_finished, is_closed, stop_of}
use Rattle.nichols_braid.proofs.EndLaws.{in_finished, from_finished, finished_below_count, below_count_finished, closed_where_a_degree_is_empty}
use Rattle.nichols_graded.specs.declared.ends.End.TheVariants.{Closed, Stopped}
use Rattle.nichols_graded.specs.declared.ends.Stop.{Stop}
use Rattle.nichols_graded.specs.declared.ends.Stop.TheVariants.{DegreeLimit, Wide}
use Rattle.nichols_graded.specs.Ends.{rows_stop, rows_of_products, stops_at, finished_degrees, end_by, algebra_end, end_reached}
use Rattle.nichols_graded.specs.Laws.{EndIsReached}

-- ---- the three reasons, one after the other

pub stop_by_limit : (braid : BraidValue) (limit rows_limit m : ℕ) → limit < m → stops_at braid limit rows_limit m ≡ Some DegreeLimit
unfolding stops_at
stop_by_limit braid limit rows_limit m beyond =
    ap (λ b. cond b (Some DegreeLimit) (cond (nat_lt MOST_PRODUCTS (length (products braid m))) (Some (Wide m)) (rows_stop rows_limit m 1 (rows_of_products braid m))))
    (let t : nat_lt limit m ≡ true = grind (arith, nat_tests) in t)

pub stop_by_products : (braid : BraidValue) (limit rows_limit m : ℕ) → m ≤ limit → MOST_PRODUCTS < length (products braid m) → stops_at braid limit rows_limit m ≡ Some (Wide m)
unfolding stops_at
stop_by_products braid limit rows_limit m within many =
    ap (λ b. cond b (Some DegreeLimit) (cond (nat_lt MOST_PRODUCTS (length (products braid m))) (Some (Wide m)) (rows_stop rows_limit m 1 (rows_of_products braid m))))
    (let t : nat_lt limit m ≡ false = grind (arith, nat_tests) in t)
    ∙ ap (λ b. cond b (Some (Wide m)) (rows_stop rows_limit m 1 (rows_of_products braid m))) (let t : nat_lt MOST_PRODUCTS (length (products braid m)) ≡ true = grind (arith, nat_tests) in t)

pub stop_by_rows : (braid : BraidValue) (limit rows_limit m : ℕ) → m ≤ limit → length (products braid m) ≤ MOST_PRODUCTS → stops_at braid limit rows_limit m ≡ rows_stop rows_limit m 1 (rows_of_products braid m)
unfolding stops_at
stop_by_rows braid limit rows_limit m within few =
    ap (λ b. cond b (Some DegreeLimit) (cond (nat_lt MOST_PRODUCTS (length (products braid m))) (Some (Wide m)) (rows_stop rows_limit m 1 (rows_of_products braid m))))
    (let t : nat_lt limit m ≡ false = grind (arith, nat_tests) in t)
    ∙ ap (λ b. cond b (Some (Wide m)) (rows_stop rows_limit m 1 (rows_of_products braid m))) (let t : nat_lt MOST_PRODUCTS (length (products braid m)) ≡ false = grind (arith, nat_tests) in t)

-- a degree that isn't stopped is within the limit
pub free_is_within : (braid : BraidValue) (limit rows_limit m : ℕ) → stops_at braid limit rows_limit m ≡ None → m ≤ limit
free_is_within braid limit rows_limit m free =
    elim (cases_lt limit m) [
      | inl beyond ↦ let c : Some DegreeLimit ≡ None = sym (stop_by_limit braid limit rows_limit m beyond) ∙ free in cc
      | inr within ↦ omega arith
    ]

-- ---- the next degree, for any reasons to stop

-- the degrees that are finished, and their number
abbrev degrees_of : BraidValue → (ℕ → Option Stop) → List ℕ
degrees_of braid stops = degrees_finished is_in_kernel braid stops

abbrev count : BraidValue → (ℕ → Option Stop) → ℕ
count braid stops = length (degrees_finished is_in_kernel braid stops)

pub free_if_finished : (braid : BraidValue) (stops : ℕ → Option Stop) (m : ℕ) → Contains (degrees_of braid stops) m → stops m ≡ None
free_if_finished braid stops m i = (from_finished is_in_kernel braid stops m i).1 m (omega arith)

-- a degree behind a finished one that isn't empty is finished, where nothing stops it
pub next_is_finished : (braid : BraidValue) (stops : ℕ → Option Stop) (m : ℕ) → suc m ≤ MOST_DEGREES → Contains (degrees_of braid stops) m → is_empty_degree is_in_kernel braid m ≡ false → stops (suc m) ≡ None →
    Contains (degrees_of braid stops) (suc m)
next_is_finished braid stops m within i full free =
    in_finished is_in_kernel braid stops (suc m) within
    (λ j most. elim (cases_lt m j) [
      | inl beyond ↦ let same : suc m ≡ j = omega arith in subst (λ k. stops k ≡ None) same free
      | inr up_to ↦ (from_finished is_in_kernel braid stops m i).1 j (omega arith)
    ])
    (λ j below. elim (cases_lt j m) [
      | inl before ↦ (from_finished is_in_kernel braid stops m i).2 j before
      | inr here ↦ let same : m ≡ j = omega arith in subst (λ k. is_empty_degree is_in_kernel braid k ≡ false) same full
    ])

is_last : (braid : BraidValue) (stops : ℕ → Option Stop) (m : ℕ) → Contains (degrees_of braid stops) m → (Contains (degrees_of braid stops) (suc m) → ⊥) → count braid stops ≡ suc m
is_last braid stops m here none =
    let reached : m < count braid stops = finished_below_count is_in_kernel braid stops m here in
    elim (cases_lt (suc m) (count braid stops)) [
      | inl more ↦ absurd (none (below_count_finished is_in_kernel braid stops (suc m) more))
      | inr most ↦ omega arith
    ]

-- no degree follows an empty one
none_after_empty : (braid : BraidValue) (stops : ℕ → Option Stop) (m : ℕ) → is_empty_degree is_in_kernel braid m ≡ true → Contains (degrees_of braid stops) (suc m) → ⊥
none_after_empty braid stops m empty i =
    let full : is_empty_degree is_in_kernel braid m ≡ false = (from_finished is_in_kernel braid stops (suc m) i).2 m (omega arith) in
    let c : true ≡ false = sym empty ∙ full in
    cc

-- a degree that is stopped isn't finished
none_where_stopped : (braid : BraidValue) (stops : ℕ → Option Stop) (m : ℕ) (stop : Stop) → stops m ≡ Some stop → Contains (degrees_of braid stops) m → ⊥
none_where_stopped braid stops m stop e i = let c : Some stop ≡ None = sym e ∙ free_if_finished braid stops m i in cc

not_closed : (braid : BraidValue) (stops : ℕ → Option Stop) (m : ℕ) (stop : Stop) → stops (suc m) ≡ Some stop → Contains (degrees_of braid stops) m → is_empty_degree is_in_kernel braid m ≡ false → is_closed is_in_kernel braid stops ≡ false
not_closed braid stops m stop e i full =
    false_from_ne_true (is_closed is_in_kernel braid stops) (λ closed.
    let (k, within, free, empty) = (closed_where_a_degree_is_empty Stop is_in_kernel braid stops).0 closed in
    elim (cases_lt k m) [
      | inl before ↦ let c : true ≡ false = sym empty ∙ (from_finished is_in_kernel braid stops m i).2 k before in cc
      | inr behind ↦
          elim (cases_lt m k) [
            | inl beyond ↦ let c : None ≡ Some stop = sym (free (suc m) (omega arith)) ∙ e in cc
            | inr here ↦ let same : k ≡ m = omega arith in let c : true ≡ false = sym empty ∙ ap (is_empty_degree is_in_kernel braid) same ∙ full in cc
          ]
    ])

-- ---- the end

-- the end, where the number of finished degrees is known, and what stops them
at_last : (braid : BraidValue) (limit rows_limit m : ℕ) (stop : Option Stop) → count braid (stops_at braid limit rows_limit) ≡ suc m → stop_of is_in_kernel braid (stops_at braid limit rows_limit) ≡ stop →
    end_reached braid limit rows_limit m ≡ Some (end_by stop)
unfolding end_reached algebra_end
at_last braid limit rows_limit m stop same e =
    let t : nat_eq (count braid (stops_at braid limit rows_limit)) (suc m) ≡ true = grind (arith, nat_tests) in
    ap (λ b. cond b (Some (end_by (stop_of is_in_kernel braid (stops_at braid limit rows_limit)))) None) t ∙ ap (λ o. Some (end_by o)) e

pub end_closed : (braid : BraidValue) (limit rows_limit m : ℕ) → Contains (finished_degrees braid limit rows_limit) m → is_empty_degree is_in_kernel braid m ≡ true → end_reached braid limit rows_limit m ≡ Some Closed
unfolding stop_of
end_closed braid limit rows_limit m i empty =
    let stops : ℕ → Option Stop = stops_at braid limit rows_limit in
    let (within, free, filled) = from_finished is_in_kernel braid stops m i in
    let closed : is_closed is_in_kernel braid stops ≡ true = (closed_where_a_degree_is_empty Stop is_in_kernel braid stops).1 (m, within, free, empty) in
    at_last braid limit rows_limit m None (is_last braid stops m i (none_after_empty braid stops m empty)) (ap (λ b. cond b None (stops (count braid stops))) closed)

pub end_stopped : (braid : BraidValue) (limit rows_limit m : ℕ) (stop : Stop) → Contains (finished_degrees braid limit rows_limit) m → is_empty_degree is_in_kernel braid m ≡ false → stops_at braid limit rows_limit (suc m) ≡ Some stop →
    end_reached braid limit rows_limit m ≡ Some (Stopped stop)
unfolding stop_of
end_stopped braid limit rows_limit m stop i full e =
    let stops : ℕ → Option Stop = stops_at braid limit rows_limit in
    let last : count braid stops ≡ suc m = is_last braid stops m i (none_where_stopped braid stops (suc m) stop e) in
    at_last braid limit rows_limit m (Some stop) last (ap (λ b. cond b None (stops (count braid stops))) (not_closed braid stops m stop e i full) ∙ ap stops last ∙ e)

pub end_none : (braid : BraidValue) (limit rows_limit m : ℕ) → limit ≤ MOST_DEGREES → Contains (finished_degrees braid limit rows_limit) m → is_empty_degree is_in_kernel braid m ≡ false → stops_at braid limit rows_limit (suc m) ≡ None →
    end_reached braid limit rows_limit m ≡ None
unfolding end_reached
end_none braid limit rows_limit m most i full free =
    let stops : ℕ → Option Stop = stops_at braid limit rows_limit in
    let within : suc m ≤ limit = free_is_within braid limit rows_limit (suc m) free in
    let next : suc m < count braid stops = finished_below_count is_in_kernel braid stops (suc m) (next_is_finished braid stops m (omega arith) i full free) in
    ap (λ b. cond b (Some (algebra_end braid limit rows_limit)) None) (let t : nat_eq (count braid stops) (suc m) ≡ false = grind (arith, nat_tests) in t)

pub end_is_reached : EndIsReached
end_is_reached braid limit rows_limit m most i = at (is_empty_degree is_in_kernel braid m) refl (stops_at braid limit rows_limit (suc m)) refl
  where
    at : (b : Bool) → is_empty_degree is_in_kernel braid m ≡ b → (o : Option Stop) → stops_at braid limit rows_limit (suc m) ≡ o → end_reached braid limit rows_limit m ≡ cond b (Some Closed) (option_map Stopped (stops_at braid limit rows_limit (suc m)))
    at true empty o e = end_closed braid limit rows_limit m i empty
    at false full None e = end_none braid limit rows_limit m most i full e ∙ ap (option_map Stopped) (sym e)
    at false full (Some stop) e = end_stopped braid limit rows_limit m stop i full e ∙ ap (option_map Stopped) (sym e)
