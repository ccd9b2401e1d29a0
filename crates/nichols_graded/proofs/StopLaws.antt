-- What stops a degree is the first reason that holds, and the end comes at the first degree that something stops.
use Rattle.std.proofs.Common.{◌≡◌, ℕ, suc, ◌+◌, ◌<◌, ◌≤◌, Bool, true, false, cond, List, [], ◌∷◌, ◌++◌, length, map, refl, sym, ◌∙◌, ap, subst, arith, Some, None, nat_lt, inl, inr}
use Rattle.std.specs.Prelude.{Option}
use Rattle.std.specs.List.{Contains}
use Rattle.std.proofs.lemmas.Bool.{cases_lt, false_from_ne_true}
use Rattle.std.proofs.lemmas.Bool.Decides.{nat_tests}
use Rattle.nichols_tensor.proofs.Entries.{contains_none, contains_first, contains_later, contains_cases}
use Rattle.nichols_braid.specs.declared.TheConstants.{MOST_DEGREES, MOST_PRODUCTS}
use Rattle.nichols_braid.specs.Braid.{BraidValue}
use Rattle.nichols_braid.specs.Kernel.{is_in_kernel}
use Rattle.nichols_braid.specs.Products.{products, rows}
use Rattle.nichols_braid.specs.End.{is_empty_degree, degrees_finished, is_closed, stop_of}
use Rattle.nichols_braid.specs.EndLaws.{IsStoppedAt}
use Rattle.nichols_braid.proofs.EndLaws.{in_finished, from_finished, closed_where_a_degree_is_empty, an_end_is_reached}
use Rattle.nichols_graded.specs.declared.ends.End.TheVariants.{Closed, Stopped}
use Rattle.nichols_graded.specs.declared.ends.Stop.{Stop}
use Rattle.nichols_graded.specs.declared.ends.Stop.TheVariants.{DegreeLimit, Wide, Rows}
use Rattle.nichols_graded.specs.Ends.{rows_stop, rows_of_products, stops_at, end_by, algebra_end}
use Rattle.nichols_graded.specs.StopLaws.{IsStop, StopsAreTheFirst, IsFirstStopped, IsEmptyUnstopped, EndIsAtTheFirst}
use Rattle.nichols_graded.proofs.EndLaws.{stop_by_limit, stop_by_products, stop_by_rows, free_is_within, free_if_finished}

-- ---- the first product that has too many rows

-- the first of some products whose rows exceed the limit; the numbers count from a number on
record IsFirstFrom (f : List ℕ → ℕ) (limit from : ℕ) (gs : List (List ℕ)) (number count : ℕ) : Type 0 where
  before : List (List ℕ)
  product : List ℕ
  behind : List (List ℕ)
  listed : gs ≡ before ++ product ∷ behind
  within : (g : List ℕ) → Contains before g → f g ≤ limit
  over : limit < f product
  place : number ≡ from + length before
  counted : count ≡ f product

-- what the search tells
data Tells (f : List ℕ → ℕ) (limit m from : ℕ) (gs : List (List ℕ)) : Option Stop → Type 0 where
  all_within : ((g : List ℕ) → Contains gs g → f g ≤ limit) → Tells f limit m from gs None
  one_over : (number count : ℕ) → IsFirstFrom f limit from gs number count → Tells f limit m from gs (Some (Rows m number count))

tells : (f : List ℕ → ℕ) (limit m from : ℕ) (gs : List (List ℕ)) → Tells f limit m from gs (rows_stop limit m from (map f gs))
unfolding rows_stop
tells f limit m from [] = all_within (λ g i. absurd (contains_none g i))
tells f limit m from (g ∷ gs) = at (nat_lt limit (f g)) refl (rows_stop limit m (suc from) (map f gs)) (tells f limit m (suc from) gs)
  where
    at : (b : Bool) → nat_lt limit (f g) ≡ b → (o : Option Stop) → Tells f limit m (suc from) gs o → Tells f limit m from (g ∷ gs) (cond b (Some (Rows m from (f g))) o)
    at true e o rest =
        one_over from (f g) (record { before = []; product = g; behind = gs; listed = refl; within = λ h i. absurd (contains_none h i); over = (let t : limit < f g = grind (arith, nat_tests) in t); place = omega arith; counted = refl })
    at false e _ (all_within all) =
        let here : f g ≤ limit = grind (arith, nat_tests) in
        all_within (λ h i. elim (contains_cases g gs h i) [
          | inl same ↦ subst (λ k. f k ≤ limit) (sym same) here
          | inr later ↦ all h later
        ])
    at false e _ (one_over number count first) =
        let here : f g ≤ limit = grind (arith, nat_tests) in
        one_over number count (record {
          before = g ∷ first.before;
          product = first.product;
          behind = first.behind;
          listed = ap (λ hs. g ∷ hs) first.listed;
          within = λ h i. elim (contains_cases g first.before h i) [
            | inl same ↦ subst (λ k. f k ≤ limit) (sym same) here
            | inr later ↦ first.within h later
          ];
          over = first.over;
          place = omega (arith, first.place);
          counted = first.counted;
        })

passes : (f : List ℕ → ℕ) (limit m from : ℕ) (before : List (List ℕ)) (product : List ℕ) (behind : List (List ℕ)) → ((g : List ℕ) → Contains before g → f g ≤ limit) → limit < f product →
    rows_stop limit m from (map f (before ++ product ∷ behind)) ≡ Some (Rows m (from + length before) (f product))
unfolding rows_stop
passes f limit m from [] product behind within over =
    let here : from ≡ from + length {A = List ℕ} [] = omega arith in
    ap (λ b. cond b (Some (Rows m from (f product))) (rows_stop limit m (suc from) (map f behind))) (let t : nat_lt limit (f product) ≡ true = grind (arith, nat_tests) in t)
    ∙ ap (λ n. Some (Rows m n (f product))) here
passes f limit m from (g ∷ before) product behind within over =
    let few : f g ≤ limit = within g (contains_first g before) in
    let next : suc from + length before ≡ from + length (g ∷ before) = omega arith in
    ap (λ b. cond b (Some (Rows m from (f g))) (rows_stop limit m (suc from) (map f (before ++ product ∷ behind)))) (let t : nat_lt limit (f g) ≡ false = grind (arith, nat_tests) in t)
    ∙ passes f limit m (suc from) before product behind (λ h i. within h (contains_later g before h i)) over ∙ ap (λ n. Some (Rows m n (f product))) next

passes_all : (f : List ℕ → ℕ) (limit m from : ℕ) (gs : List (List ℕ)) → ((g : List ℕ) → Contains gs g → f g ≤ limit) → rows_stop limit m from (map f gs) ≡ None
unfolding rows_stop
passes_all f limit m from [] within = refl
passes_all f limit m from (g ∷ gs) within =
    let few : f g ≤ limit = within g (contains_first g gs) in
    ap (λ b. cond b (Some (Rows m from (f g))) (rows_stop limit m (suc from) (map f gs))) (let t : nat_lt limit (f g) ≡ false = grind (arith, nat_tests) in t)
    ∙ passes_all f limit m (suc from) gs (λ h i. within h (contains_later g gs h i))

-- ---- what stops a degree

-- the degree is within the limit and has few products
listed_stop : (braid : BraidValue) (limit rows_limit m : ℕ) → m ≤ limit → length (products braid m) ≤ MOST_PRODUCTS → stops_at braid limit rows_limit m ≡ rows_stop rows_limit m 1 (map (rows is_in_kernel braid m) (products braid m))
unfolding rows_of_products
listed_stop braid limit rows_limit m within few = stop_by_rows braid limit rows_limit m within few

-- there is a reason that holds, or none does
abbrev HasStop : BraidValue → ℕ → ℕ → ℕ → Type 0
HasStop braid limit rows_limit m = (stop : Option Stop) × (stops_at braid limit rows_limit m ≡ stop) × IsStop braid limit rows_limit m stop

has_row_stop : (braid : BraidValue) (limit rows_limit m : ℕ) → m ≤ limit → length (products braid m) ≤ MOST_PRODUCTS → HasStop braid limit rows_limit m
has_row_stop braid limit rows_limit m within few =
    at (rows_stop rows_limit m 1 (map (rows is_in_kernel braid m) (products braid m))) (listed_stop braid limit rows_limit m within few) (tells (rows is_in_kernel braid m) rows_limit m 1 (products braid m))
  where
    at : (stop : Option Stop) → stops_at braid limit rows_limit m ≡ stop → Tells (rows is_in_kernel braid m) rows_limit m 1 (products braid m) stop → HasStop braid limit rows_limit m
    at _ e (all_within all) = (None, e, (within, few, all))
    at _ e (one_over number count first) = (
      Some (Rows m number count),
      e,
      (
        within,
        few,
        refl,
        record {
          before = first.before;
          product = first.product;
          behind = first.behind;
          listed = first.listed;
          within = first.within;
          over = first.over;
          place = omega (arith, first.place);
          counted = first.counted;
        },
      ),
    )

has_stop : (braid : BraidValue) (limit rows_limit m : ℕ) → HasStop braid limit rows_limit m
has_stop braid limit rows_limit m =
    elim (cases_lt limit m) [
      | inl beyond ↦ (Some DegreeLimit, stop_by_limit braid limit rows_limit m beyond, beyond)
      | inr within ↦
          elim (cases_lt MOST_PRODUCTS (length (products braid m))) [
            | inl many ↦ (Some (Wide m), stop_by_products braid limit rows_limit m within many, (within, many, refl))
            | inr few ↦ has_row_stop braid limit rows_limit m within few
          ]
    ]

from_stop : (braid : BraidValue) (limit rows_limit m : ℕ) (stop : Option Stop) → IsStop braid limit rows_limit m stop → stops_at braid limit rows_limit m ≡ stop
from_stop braid limit rows_limit m (Some DegreeLimit) beyond = stop_by_limit braid limit rows_limit m beyond
from_stop braid limit rows_limit m (Some (Wide n)) h = stop_by_products braid limit rows_limit m h.0 h.1 ∙ ap (λ k. Some (Wide k)) (sym h.2)
from_stop braid limit rows_limit m (Some (Rows n number count)) h =
    let first = h.3 in
    let from : 1 + length first.before ≡ number = omega (arith, first.place) in
    listed_stop braid limit rows_limit m h.0 h.1 ∙ ap (λ gs. rows_stop rows_limit m 1 (map (rows is_in_kernel braid m) gs)) first.listed
    ∙ passes (rows is_in_kernel braid m) rows_limit m 1 first.before first.product first.behind first.within first.over
    ∙ ap (λ k. Some (Rows k (1 + length first.before) (rows is_in_kernel braid m first.product))) (sym h.2) ∙ ap (λ k. Some (Rows n k (rows is_in_kernel braid m first.product))) from
    ∙ ap (λ k. Some (Rows n number k)) (sym first.counted)
from_stop braid limit rows_limit m None h = listed_stop braid limit rows_limit m h.0 h.1 ∙ passes_all (rows is_in_kernel braid m) rows_limit m 1 (products braid m) h.2

pub stops_are_the_first : StopsAreTheFirst
stops_are_the_first braid limit rows_limit m stop =
    (λ e. let h = has_stop braid limit rows_limit m in subst (IsStop braid limit rows_limit m) (sym h.1 ∙ e) h.2, from_stop braid limit rows_limit m stop)

-- ---- the end

-- each degree above the greatest is stopped
above_is_stopped : (braid : BraidValue) (limit rows_limit : ℕ) → limit ≤ MOST_DEGREES → (m : ℕ) → MOST_DEGREES < m → (s : Stop) × (stops_at braid limit rows_limit m ≡ Some s)
above_is_stopped braid limit rows_limit most m beyond = (DegreeLimit, stop_by_limit braid limit rows_limit m (omega arith))

-- where something stops a degree and no degree before it is empty, the algebra isn't closed
not_closed : (braid : BraidValue) (limit rows_limit m : ℕ) (stop : Stop) → IsFirstStopped braid limit rows_limit m stop → is_closed is_in_kernel braid (stops_at braid limit rows_limit) ≡ false
not_closed braid limit rows_limit m stop h =
    let stops : ℕ → Option Stop = stops_at braid limit rows_limit in
    false_from_ne_true (is_closed is_in_kernel braid stops) (λ closed.
    let (k, within, free, empty) = (closed_where_a_degree_is_empty Stop is_in_kernel braid stops).0 closed in
    elim (cases_lt k m) [
      | inl before ↦ let c : true ≡ false = sym empty ∙ h.filled k before in cc
      | inr behind ↦ let c : None ≡ Some stop = sym (free m (omega arith)) ∙ h.cause in cc
    ])

stopped_at : (braid : BraidValue) (limit rows_limit m : ℕ) (stop : Stop) → limit ≤ MOST_DEGREES → IsFirstStopped braid limit rows_limit m stop → IsStoppedAt is_in_kernel braid (stops_at braid limit rows_limit) m stop
stopped_at braid limit rows_limit m stop most h =
    let stops : ℕ → Option Stop = stops_at braid limit rows_limit in
    record {
      below = λ j less.
          let within : j ≤ limit = free_is_within braid limit rows_limit j (h.free j less) in
          in_finished is_in_kernel braid stops j (omega (arith, within, most)) (λ k up. h.free k (omega (arith, up, less))) (λ k before. h.filled k (omega (arith, before, less)));
      unfinished = λ i. let c : None ≡ Some stop = sym (free_if_finished braid stops m i) ∙ h.cause in cc;
      stop = h.cause;
    }

end_stopped : (braid : BraidValue) (limit rows_limit : ℕ) (stop : Stop) → limit ≤ MOST_DEGREES → (m : ℕ) × IsFirstStopped braid limit rows_limit m stop → algebra_end braid limit rows_limit ≡ Stopped stop
unfolding algebra_end
end_stopped braid limit rows_limit stop most h =
    ap end_by (((an_end_is_reached Stop is_in_kernel braid (stops_at braid limit rows_limit)).1 stop).1 (not_closed braid limit rows_limit h.0 stop h.1, (h.0, stopped_at braid limit rows_limit h.0 stop most h.1)))

stopped_where : (braid : BraidValue) (limit rows_limit : ℕ) (stop : Stop) → algebra_end braid limit rows_limit ≡ Stopped stop → (m : ℕ) × IsFirstStopped braid limit rows_limit m stop
unfolding algebra_end
stopped_where braid limit rows_limit stop e = at (stop_of is_in_kernel braid (stops_at braid limit rows_limit)) refl e
  where
    first : (o : Stop) → stop_of is_in_kernel braid (stops_at braid limit rows_limit) ≡ Some o → (m : ℕ) × IsFirstStopped braid limit rows_limit m o
    first o found =
        let stops : ℕ → Option Stop = stops_at braid limit rows_limit in
        let (unclosed, (m, h)) = ((an_end_is_reached Stop is_in_kernel braid stops).1 o).0 found in (
          m,
          record {
            cause = h.stop;
            free = λ j less. free_if_finished braid stops j (h.below j less);
            filled = λ j less. false_from_ne_true (is_empty_degree is_in_kernel braid j) (λ empty.
                let (within, free, filled) = from_finished is_in_kernel braid stops j (h.below j less) in
                let c : true ≡ false = sym ((closed_where_a_degree_is_empty Stop is_in_kernel braid stops).1 (j, within, free, empty)) ∙ unclosed in
                cc);
          },
        )

    at : (o : Option Stop) → stop_of is_in_kernel braid (stops_at braid limit rows_limit) ≡ o → end_by o ≡ Stopped stop → (m : ℕ) × IsFirstStopped braid limit rows_limit m stop
    at None found e = let c : Closed ≡ Stopped stop = e in cc
    at (Some o) found e = let same : o ≡ stop = (let t : Stopped o ≡ Stopped stop = e in cc) in first stop (found ∙ ap Some same)

end_closed : (braid : BraidValue) (limit rows_limit : ℕ) → limit ≤ MOST_DEGREES → (m : ℕ) × IsEmptyUnstopped braid limit rows_limit m → algebra_end braid limit rows_limit ≡ Closed
unfolding algebra_end stop_of
end_closed braid limit rows_limit most (m, h) =
    let stops : ℕ → Option Stop = stops_at braid limit rows_limit in
    let here : m ≤ m = omega arith in
    let within : m ≤ limit = free_is_within braid limit rows_limit m (h.free m here) in
    let closed : is_closed is_in_kernel braid stops ≡ true = (closed_where_a_degree_is_empty Stop is_in_kernel braid stops).1 (m, omega (arith, within, most), h.free, h.empty) in
    ap (λ b. end_by (cond b None (stops (length (degrees_finished is_in_kernel braid stops))))) closed

closed_where : (braid : BraidValue) (limit rows_limit : ℕ) → limit ≤ MOST_DEGREES → algebra_end braid limit rows_limit ≡ Closed → (m : ℕ) × IsEmptyUnstopped braid limit rows_limit m
unfolding algebra_end
closed_where braid limit rows_limit most e =
    let stops : ℕ → Option Stop = stops_at braid limit rows_limit in
    elim ((an_end_is_reached Stop is_in_kernel braid stops).0 (above_is_stopped braid limit rows_limit most)) [
      | inl closed ↦ let (m, within, free, empty) = (closed_where_a_degree_is_empty Stop is_in_kernel braid stops).0 closed in (m, record { empty = empty; free = free })
      | inr (s, stop) ↦ let c : Stopped s ≡ Closed = sym (ap end_by stop) ∙ e in cc
    ]

pub end_is_at_the_first : EndIsAtTheFirst
end_is_at_the_first braid limit rows_limit most = record {
  stopped = λ stop. (stopped_where braid limit rows_limit stop, end_stopped braid limit rows_limit stop most);
  closed = (closed_where braid limit rows_limit most, end_closed braid limit rows_limit most);
}
