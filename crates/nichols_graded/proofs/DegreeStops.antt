-- What stops a degree, from the rows of its products; what nothing stops is within the limits.
use Rattle.std.proofs.Common.{◌≡◌, ℕ, suc, ◌≤◌, Bool, true, false, cond, List, [], ◌∷◌, length, map, filter, refl, sym, ◌∙◌, ap, subst, arith, nat_lt, inl, inr}
use Rattle.std.specs.Prelude.{None, Some}
use Rattle.std.specs.List.{Contains}
use Rattle.std.proofs.lemmas.Bool.{cases_lt}
use Rattle.std.proofs.lemmas.Bool.Decides.{nat_tests}
use Rattle.nichols_tensor.proofs.Entries.{contains_none, contains_cases, in_map}
use Rattle.nichols_tensor.proofs.Tests.{map_same}
use Rattle.nichols_braid.specs.declared.TheConstants.{MOST_PRODUCTS}
use Rattle.nichols_braid.specs.Braid.{BraidValue, IsBraid}
use Rattle.nichols_braid.specs.Kernel.{is_in_kernel, is_killed}
use Rattle.nichols_braid.specs.Product.{has_product}
use Rattle.nichols_braid.specs.Products.{products, rows}
use Rattle.nichols_braid.proofs.EndLaws.{from_finished}
use Rattle.nichols_lift.proofs.Readings.{one_reading}
use Rattle.nichols_graded.specs.declared.ends.Stop.TheVariants.{Wide, Rows}
use Rattle.nichols_graded.specs.Ends.{rows_of_products, rows_stop, stops_at}
use Rattle.nichols_crew.specs.Wave.{AreWithin}
use Rattle.nichols_graded.specs.Graded.{GradedValue, IsGraded}
use Rattle.nichols_graded.proofs.EndLaws.{free_is_within, stop_by_products, stop_by_rows}

-- ---- what stops a degree

pub rows_alike : (braid : BraidValue) → IsBraid braid → (m : ℕ) (g : List ℕ) → rows is_in_kernel braid m g ≡ rows is_killed braid m g
unfolding rows
rows_alike braid is m g = ap (λ ws. length (filter (has_product braid g) ws)) ((one_reading braid is).alike.candidate_lists m)

pub stop_is : (braid : BraidValue) → IsBraid braid → (limit rows_limit m : ℕ) (next : List (List ℕ)) → suc m ≤ limit → next ≡ products braid (suc m) → length next ≤ MOST_PRODUCTS →
    rows_stop rows_limit (suc m) 1 (map (rows is_killed braid (suc m)) next) ≡ stops_at braid limit rows_limit (suc m)
unfolding rows_of_products
stop_is braid is limit rows_limit m next within listed few =
    let size : length next ≡ length (products braid (suc m)) = ap length listed in
    ap (rows_stop rows_limit (suc m) 1) (ap (map (rows is_killed braid (suc m))) listed ∙ map_same (rows is_killed braid (suc m)) (rows is_in_kernel braid (suc m)) (products braid (suc m)) (λ g i. sym (rows_alike braid is (suc m) g)))
    ∙ sym (stop_by_rows braid limit rows_limit (suc m) (omega arith) (omega arith))

-- ---- what nothing stops is within the limits

-- a degree that isn't stopped has few products
free_is_narrow : (braid : BraidValue) (limit rows_limit m : ℕ) → stops_at braid limit rows_limit m ≡ None → length (products braid m) ≤ MOST_PRODUCTS
free_is_narrow braid limit rows_limit m free =
    elim (cases_lt MOST_PRODUCTS (length (products braid m))) [
      | inl many ↦ let c : Some (Wide m) ≡ None = sym (stop_by_products braid limit rows_limit m (free_is_within braid limit rows_limit m free) many) ∙ free in cc
      | inr few ↦ few
    ]

-- and no product of too many rows
counts_within : (limit m number : ℕ) (counts : List ℕ) → rows_stop limit m number counts ≡ None → (n : ℕ) → Contains counts n → n ≤ limit
unfolding rows_stop
counts_within limit m number [] free n i = absurd (contains_none n i)
counts_within limit m number (count ∷ counts) free n i = at (nat_lt limit count) refl free (λ rest j. counts_within limit m (suc number) counts rest n j)
  where
    at : (b : Bool) → nat_lt limit count ≡ b → cond b (Some (Rows m number count)) (rows_stop limit m (suc number) counts) ≡ None → (rows_stop limit m (suc number) counts ≡ None → Contains counts n → n ≤ limit) → n ≤ limit
    at true over stop rest = absurd (let c : Some (Rows m number count) ≡ None = stop in cc)
    at false within stop rest =
        elim (contains_cases count counts n i) [
          | inl same ↦ let t : count ≤ limit = grind (arith, nat_tests) in omega (arith, same, t)
          | inr later ↦ rest stop later
        ]

free_within : (braid : BraidValue) → IsBraid braid → (limit rows_limit m : ℕ) → stops_at braid limit rows_limit m ≡ None → (g : List ℕ) → Contains (products braid m) g → rows is_killed braid m g ≤ rows_limit
unfolding rows_of_products
free_within braid is limit rows_limit m free g i =
    let counts = counts_within rows_limit m 1 (map (rows is_in_kernel braid m) (products braid m))
    (sym (stop_by_rows braid limit rows_limit m (free_is_within braid limit rows_limit m free) (free_is_narrow braid limit rows_limit m free)) ∙ free)
    (rows is_in_kernel braid m g) (in_map (rows is_in_kernel braid m) g (products braid m) i) in
    subst (λ n. n ≤ rows_limit) (rows_alike braid is m g) counts

-- a finished degree and those below it are within the limits
pub finished_within : (g : GradedValue) → IsGraded g → AreWithin g.braid g.rows g.last
finished_within g h j below p i = free_within g.braid h.braid g.limit g.rows j ((from_finished is_in_kernel g.braid (stops_at g.braid g.limit g.rows) g.last h.finished).1 j below) p i

-- and so is the next, where nothing stops it
pub next_is_within : (g : GradedValue) → IsGraded g → stops_at g.braid g.limit g.rows (suc g.last) ≡ None → AreWithin g.braid g.rows (suc g.last)
next_is_within g h free j below p i =
    elim (cases_lt j (suc g.last)) [
      | inl less ↦ finished_within g h j (omega arith) p i
      | inr last ↦ let here : suc g.last ≡ j = omega arith in free_within g.braid h.braid g.limit g.rows j (subst (λ k. stops_at g.braid g.limit g.rows k ≡ None) here free) p i
    ]
