-- Degrees over the symmetrizer, from the rules of the derivations; the end that is reached.
use Rattle.std.proofs.Common.{◌≡◌, ℕ, zero, suc, ◌<◌, ◌≤◌, ◌+◌, Vec, Bool, true, false, cond, [], ◌∷◌, length, map, refl, sym, ◌∙◌, ap, subst, arith, nat_lt}
use Rattle.std.specs.Prelude.{Option, None, Some, option_map, IsTrue, ◌↔◌}
use Rattle.std.specs.List.{Contains}
use Rattle.std.proofs.lemmas.Bool.Decides.{Decides-eqb, nat_tests}
use Rattle.std.proofs.lemmas.List.{nil_from_length}
use Rattle.nichols_braid.specs.declared.TheConstants.{MOST_DEGREES, MOST_ROWS}
use Rattle.nichols_braid.specs.Braid.{BraidValue, IsBraid}
use Rattle.nichols_braid.specs.Kernel.{is_in_kernel, is_killed}
use Rattle.nichols_braid.specs.Least.{basis}
use Rattle.nichols_braid.specs.Product.{product_of}
use Rattle.nichols_braid.specs.Products.{products, rows}
use Rattle.nichols_braid.specs.End.{dimension, is_empty_degree}
use Rattle.nichols_braid.proofs.EndLaws.{in_finished}
use Rattle.nichols_braid.proofs.FirstDegree.{basis_first, first_rows}
use Rattle.nichols_braid.proofs.NextProducts.{products_first}
use Rattle.nichols_lift.proofs.Readings.{one_reading}
use Rattle.nichols_graded.specs.declared.ahead.Ahead.{Ahead}
use Rattle.nichols_graded.specs.declared.ahead.Ahead.TheVariants as ahead
use Rattle.nichols_graded.specs.declared.ends.End.TheVariants.{Closed, Stopped, Starved}
use Rattle.nichols_graded.specs.declared.ends.Stop.{Stop}
use Rattle.nichols_graded.specs.declared.ends.Stop.TheVariants.{Rows}
use Rattle.nichols_graded.specs.Ends.{rows_stop, rows_of_products, stops_at, finished_degrees, end_reached}
use Rattle.nichols_graded.specs.Ahead.{AreOpen, IsAhead, end_after}
use Rattle.nichols_braid.specs.declared.products.Products.{Products}
use Rattle.nichols_layout.specs.declared.TheConstants.{MOST_WINDOW}
use Rattle.std.specs.Global.{Global}
use Rattle.nichols_graded.specs.Graded.{GradedValue, IsGraded}
use Rattle.nichols_graded.proofs.EndLaws.{stop_by_rows, free_is_within, free_if_finished, next_is_finished, end_stopped, end_is_reached}

-- ---- empty degrees

pub empty_is : (braid : BraidValue) → IsBraid braid → (m : ℕ) → basis is_killed braid m ≡ [] → is_empty_degree is_in_kernel braid m ≡ true
empty_is braid is m e = (Decides-eqb _ _).1 (ap length ((one_reading braid is).alike.bases m ∙ e))

pub filled_is : (braid : BraidValue) → IsBraid braid → (m : ℕ) → (basis is_killed braid m ≡ [] → ⊥) → is_empty_degree is_in_kernel braid m ≡ false
filled_is braid is m some = at (is_empty_degree is_in_kernel braid m) refl
  where
    at : (b : Bool) → is_empty_degree is_in_kernel braid m ≡ b → is_empty_degree is_in_kernel braid m ≡ false
    at true e = absurd (some (nil_from_length (basis is_killed braid m) (ap length (sym ((one_reading braid is).alike.bases m)) ∙ (Decides-eqb (dimension is_in_kernel braid m) 0).0 e)))
    at false e = e

pub closed_is : (braid : BraidValue) → IsBraid braid → (m : ℕ) (b : Bool) → IsTrue b ↔ (basis is_killed braid m ≡ []) → b ≡ is_empty_degree is_in_kernel braid m
closed_is braid is m true h = sym (empty_is braid is m (h.0 refl))
closed_is braid is m false h = sym (filled_is braid is m (λ e. let t : false ≡ true = h.1 e in cc))

first_is_filled : (braid : BraidValue) → IsBraid braid → is_empty_degree is_in_kernel braid 0 ≡ false
first_is_filled braid is = filled_is braid is 0 (λ none. let c : [] ∷ [] ≡ [] = sym (basis_first braid is.field) ∙ none in cc)

-- ---- degree 0

one_row_stop : (limit m number count : ℕ) → count ≤ limit → rows_stop limit m number (count ∷ []) ≡ None
unfolding rows_stop
one_row_stop limit m number count few = ap (λ b. cond b (Some (Rows m number count)) None) (let t : nat_lt limit count ≡ false = grind (arith, nat_tests) in t)

first_is_free : (braid : BraidValue) (limit rows_limit : ℕ) → 1 ≤ rows_limit → stops_at braid limit rows_limit 0 ≡ None
unfolding rows_of_products
first_is_free braid limit rows_limit some =
    let one : length (products braid 0) ≡ 1 = ap length (products_first braid) in
    let few : rows is_in_kernel braid 0 (product_of braid []) ≤ 1 = first_rows is_in_kernel braid (product_of braid []) in
    stop_by_rows braid limit rows_limit 0 (omega arith) (omega arith)
    ∙ ap (λ gs. rows_stop rows_limit 0 1 (map (rows is_in_kernel braid 0) gs)) (products_first braid)
    ∙ one_row_stop rows_limit 0 1 (rows is_in_kernel braid 0 (product_of braid [])) (omega arith)

-- ---- what holds between calls

pub graded_start : (braid : BraidValue) → IsBraid braid → (limit rows_limit window last : ℕ) → limit ≤ MOST_DEGREES → 1 ≤ rows_limit → rows_limit ≤ MOST_ROWS → 1 ≤ window → window ≤ MOST_WINDOW → last ≡ 0 →
    IsGraded (record { braid = braid; limit = limit; rows = rows_limit; window = window; last = last; ended = false })
graded_start braid is limit rows_limit window last most some few some_window few_window e = record {
  some_window = some_window;
  few_window = few_window;
  braid = is;
  most = most;
  some_rows = some;
  few_rows = few;
  finished =
      subst (Contains (finished_degrees braid limit rows_limit)) (sym e)
      (in_finished is_in_kernel braid (stops_at braid limit rows_limit) 0 (omega arith) (λ j below. let same : 0 ≡ j = omega arith in subst (λ k. stops_at braid limit rows_limit k ≡ None) same (first_is_free braid limit rows_limit some))
      (λ j less. absurd (omega arith)));
  going = λ going. ap (is_empty_degree is_in_kernel braid) e ∙ first_is_filled braid is;
}

pub last_within : (g : GradedValue) → IsGraded g → (g.last ≤ g.limit) × (g.limit ≤ MOST_DEGREES)
last_within g h = (free_is_within g.braid g.limit g.rows g.last (free_if_finished g.braid (stops_at g.braid g.limit g.rows) g.last h.finished), h.most)

-- a degree that isn't stopped is within the limits
pub next_within : (g : GradedValue) → IsGraded g → stops_at g.braid g.limit g.rows (suc g.last) ≡ None → suc g.last ≤ MOST_DEGREES
next_within g h free = let within : suc g.last ≤ g.limit = free_is_within g.braid g.limit g.rows (suc g.last) free in let most = h.most in omega arith

-- where the end was not reached the next degree is finished, if nothing stops it
next_finished : (g : GradedValue) → IsGraded g → g.ended ≡ false → stops_at g.braid g.limit g.rows (suc g.last) ≡ None → Contains (finished_degrees g.braid g.limit g.rows) (suc g.last)
next_finished g h going free = next_is_finished g.braid (stops_at g.braid g.limit g.rows) g.last (next_within g h free) h.finished (h.going going) free

-- and otherwise that is the end
pub stop_ends : (g : GradedValue) (stop : Stop) → IsGraded g → g.ended ≡ false → stops_at g.braid g.limit g.rows (suc g.last) ≡ Some stop → end_reached g.braid g.limit g.rows g.last ≡ Some (Stopped stop)
stop_ends g stop h going e = end_stopped g.braid g.limit g.rows g.last stop h.finished (h.going going) e

-- the end after a finished degree, where it is reached
pub end_is : (braid : BraidValue) (limit rows_limit m : ℕ) → limit ≤ MOST_DEGREES → Contains (finished_degrees braid limit rows_limit) m → end_after braid limit rows_limit m ≡ end_reached braid limit rows_limit m
unfolding end_after
end_is braid limit rows_limit m most i = sym (end_is_reached braid limit rows_limit m most i)

-- where no end is reached after a degree, it isn't empty and the next isn't stopped
pub going_on : (braid : BraidValue) (limit rows_limit m : ℕ) → end_after braid limit rows_limit m ≡ None → (is_empty_degree is_in_kernel braid m ≡ false) × (stops_at braid limit rows_limit (suc m) ≡ None)
unfolding end_after
going_on braid limit rows_limit m e = at (is_empty_degree is_in_kernel braid m) refl (stops_at braid limit rows_limit (suc m)) refl e
  where
    at : (b : Bool) → is_empty_degree is_in_kernel braid m ≡ b → (o : Option Stop) → stops_at braid limit rows_limit (suc m) ≡ o → cond b (Some Closed) (option_map Stopped o) ≡ None → (is_empty_degree is_in_kernel braid m ≡ false) × (stops_at braid limit rows_limit (suc m) ≡ None)
    at true empty o eo e = absurd (let c : Some Closed ≡ None = e in cc)
    at false full None eo e = (full, eo)
    at false full (Some stop) eo e = absurd (let c : Some (Stopped stop) ≡ None = e in cc)

-- the degrees of a wave up to the first after which the end is reached are finished
pub wave_finished : (g : GradedValue) → IsGraded g → g.ended ≡ false → stops_at g.braid g.limit g.rows (suc g.last) ≡ None → (k : ℕ) → ((i : ℕ) → suc i < k → end_after g.braid g.limit g.rows (suc g.last + i) ≡ None) →
    Contains (finished_degrees g.braid g.limit g.rows) (g.last + k)
wave_finished g h going free zero before = let same : g.last ≡ g.last + 0 = omega arith in subst (Contains (finished_degrees g.braid g.limit g.rows)) same h.finished
wave_finished g h going free (suc zero) before = let same : suc g.last ≡ g.last + 1 = omega arith in subst (Contains (finished_degrees g.braid g.limit g.rows)) same (next_finished g h going free)
wave_finished g h going free (suc (suc k)) before =
    let below : Contains (finished_degrees g.braid g.limit g.rows) (g.last + suc k) = wave_finished g h going free (suc k) (λ i less. before i (omega (arith, less))) in
    let here : suc g.last + k ≡ g.last + suc k = omega arith in
    let ends : end_after g.braid g.limit g.rows (g.last + suc k) ≡ None = ap (end_after g.braid g.limit g.rows) (sym here) ∙ before k (omega arith) in
    let (full, next) = going_on g.braid g.limit g.rows (g.last + suc k) ends in
    let most = h.most in
    let within = free_is_within g.braid g.limit g.rows (suc (g.last + suc k)) next in
    let same : suc (g.last + suc k) ≡ g.last + suc (suc k) = omega arith in
    subst (Contains (finished_degrees g.braid g.limit g.rows)) same (next_is_finished g.braid (stops_at g.braid g.limit g.rows) (g.last + suc k) (omega (arith, within, most)) below full next)

-- ---- what is known of a degree

pub stopped_ahead : (braid : BraidValue) (limit rows_limit m : ℕ) (next : Ahead) (stop : Stop) → next ≡ ahead.Stopped stop → IsAhead braid limit rows_limit m next → stops_at braid limit rows_limit m ≡ Some stop
stopped_ahead braid limit rows_limit m next stop e known = subst (IsAhead braid limit rows_limit m) e known

pub open_ahead : (braid : BraidValue) (limit rows_limit m : ℕ) (next : Ahead) (ps : Vec Products Global) → next ≡ ahead.Open ps → IsAhead braid limit rows_limit m next → (stops_at braid limit rows_limit m ≡ None) × AreOpen braid limit m ps.items
open_ahead braid limit rows_limit m next ps e known = subst (IsAhead braid limit rows_limit m) e known

pub same_ahead : (a b : BraidValue) (limit rows_limit m n : ℕ) (next : Ahead) → a ≡ b → m ≡ n → IsAhead a limit rows_limit (suc m) next → IsAhead b limit rows_limit (suc n) next
same_ahead a b limit rows_limit m n next same e known = subst (λ k. IsAhead b limit rows_limit (suc k) next) e (subst (λ x. IsAhead x limit rows_limit (suc m) next) same known)

-- ---- the end after a degree

pub after_empty : (braid : BraidValue) (limit rows_limit m : ℕ) → is_empty_degree is_in_kernel braid m ≡ true → end_after braid limit rows_limit m ≡ Some Closed
unfolding end_after
after_empty braid limit rows_limit m empty = ap (λ b. cond b (Some Closed) (option_map Stopped (stops_at braid limit rows_limit (suc m)))) empty

pub after_filled : (braid : BraidValue) (limit rows_limit m : ℕ) (stop : Option Stop) → is_empty_degree is_in_kernel braid m ≡ false → stop ≡ stops_at braid limit rows_limit (suc m) → end_after braid limit rows_limit m ≡ option_map Stopped stop
unfolding end_after
after_filled braid limit rows_limit m stop full e = ap (λ b. cond b (Some Closed) (option_map Stopped (stops_at braid limit rows_limit (suc m)))) full ∙ ap (option_map Stopped) (sym e)

pub never_starved : (braid : BraidValue) (limit rows_limit m : ℕ) → end_after braid limit rows_limit m ≡ Some Starved → ⊥
unfolding end_after
never_starved braid limit rows_limit m e = at (is_empty_degree is_in_kernel braid m) (stops_at braid limit rows_limit (suc m)) e
  where
    at : (b : Bool) (o : Option Stop) → cond b (Some Closed) (option_map Stopped o) ≡ Some Starved → ⊥
    at true o e = cc
    at false None e = cc
    at false (Some stop) e = cc
