-- The end that an algebra reached.
use Rattle.std.proofs.Common.{◌≡◌, ℕ, suc, Bool, true, false, cond, List, [], ◌∷◌, length, refl, sym, ◌∙◌, subst, arith, Some, None, nat_lt}
use Rattle.std.specs.Prelude.{⊤, Option, option_map}
use Rattle.nichols_braid.specs.declared.TheConstants.{MOST_PRODUCTS}
use Rattle.nichols_braid.specs.Braid.{BraidValue}
use Rattle.nichols_braid.specs.Kernel.{is_in_kernel}
use Rattle.nichols_braid.specs.End.{is_empty_degree}
use Rattle.nichols_braid.specs.Products.{products}
use Rattle.nichols_graded.specs.Ends.{end_by, rows_stop, rows_of_products, stops_at}
use Rattle.nichols_graded.specs.Graded.{GradedValue, IsGraded}
use Rattle.nichols_graded.specs.declared.ends.End.TheVariants as ends
use Rattle.nichols_graded.specs.declared.ends.Stop.{Stop}
use Rattle.nichols_graded.specs.declared.ends.Stop.TheVariants.{DegreeLimit, Wide, Rows}
use Rattle.nichols_graded.proofs.EndLaws.{end_is_reached}
use Rattle.nichols_text.specs.Pieces.{StopsLater}
use Rattle.nichols_top.specs.Algebra.{end_line_of}
use Rattle.nichols_top.specs.Ended.{HasEnd}

-- ---- what the end tells of the last finished degree

-- the end by the last finished degree
end_is : (g : GradedValue) (stop : Option Stop) → IsGraded g → HasEnd g stop → cond (is_empty_degree is_in_kernel g.braid g.last) (Some ends.Closed) (option_map ends.Stopped (stops_at g.braid g.limit g.rows (suc g.last))) ≡ Some (end_by stop)
end_is g stop is reached = sym (end_is_reached g.braid g.limit g.rows g.last is.most is.finished) ∙ reached

-- a closed algebra ends with an empty degree
pub closed_is_empty : (g : GradedValue) → IsGraded g → HasEnd g None → is_empty_degree is_in_kernel g.braid g.last ≡ true
closed_is_empty g is reached = at (is_empty_degree is_in_kernel g.braid g.last) (stops_at g.braid g.limit g.rows (suc g.last)) (end_is g None is reached)
  where
    at : (b : Bool) (stop : Option Stop) → cond b (Some ends.Closed) (option_map ends.Stopped stop) ≡ Some ends.Closed → b ≡ true
    at true stop e = refl
    at false None e = cc
    at false (Some s) e = cc

-- one that is stopped doesn't, and the next degree is stopped
pub record IsStoppedBy (g : GradedValue) (stop : Stop) : Type 0 where
  pub filled : is_empty_degree is_in_kernel g.braid g.last ≡ false
  pub stops : stops_at g.braid g.limit g.rows (suc g.last) ≡ Some stop

pub stopped_is_filled : (g : GradedValue) (stop : Stop) → IsGraded g → HasEnd g (Some stop) → IsStoppedBy g stop
stopped_is_filled g stop is reached = at (is_empty_degree is_in_kernel g.braid g.last) (stops_at g.braid g.limit g.rows (suc g.last)) refl refl (end_is g (Some stop) is reached)
  where
    at : (b : Bool) (found : Option Stop) → is_empty_degree is_in_kernel g.braid g.last ≡ b → stops_at g.braid g.limit g.rows (suc g.last) ≡ found → cond b (Some ends.Closed) (option_map ends.Stopped found) ≡ Some (ends.Stopped stop) → IsStoppedBy g stop
    at true found filled stops e = cc
    at false None filled stops e = cc
    at false (Some s) filled stops e = record { filled = filled; stops = stops ∙ (let c : Some (ends.Stopped s) ≡ Some (ends.Stopped stop) = e in cc) }

-- ---- the degree that a stop names

-- a stop that names a degree names this one
abbrev IsStopOf : ℕ → Stop → Type 0
IsStopOf m DegreeLimit = ⊤
IsStopOf m (Wide degree) = degree ≡ m
IsStopOf m (Rows degree product count) = degree ≡ m

stopped_by_rows : (limit m number : ℕ) (counts : List ℕ) (stop : Stop) → rows_stop limit m number counts ≡ Some stop → IsStopOf m stop
unfolding rows_stop
stopped_by_rows limit m number [] stop e = cc
stopped_by_rows limit m number (count ∷ counts) stop e = at (nat_lt limit count) (stopped_by_rows limit m (suc number) counts stop) e
  where
    at : (b : Bool) → (rows_stop limit m (suc number) counts ≡ Some stop → IsStopOf m stop) → cond b (Some (Rows m number count)) (rows_stop limit m (suc number) counts) ≡ Some stop → IsStopOf m stop
    at true further e = let same : Rows m number count ≡ stop = cc in subst (IsStopOf m) same refl
    at false further e = further e

names_its_degree : (braid : BraidValue) (limit rows m : ℕ) (stop : Stop) → stops_at braid limit rows m ≡ Some stop → IsStopOf m stop
unfolding stops_at
names_its_degree braid limit rows m stop e = at (nat_lt limit m) (nat_lt MOST_PRODUCTS (length (products braid m))) e
  where
    at : (beyond wide : Bool) → cond beyond (Some DegreeLimit) (cond wide (Some (Wide m)) (rows_stop rows m 1 (rows_of_products braid m))) ≡ Some stop → IsStopOf m stop
    at true wide e = let same : DegreeLimit ≡ stop = cc in subst (IsStopOf m) same tt
    at false true e = let same : Wide m ≡ stop = cc in subst (IsStopOf m) same refl
    at false false e = stopped_by_rows rows m 1 (rows_of_products braid m) stop e

-- the end line of an end that was reached
pub later_line : (g : GradedValue) (stop : Option Stop) (last : ℕ) (dimensions : List ℕ) → IsGraded g → HasEnd g stop → StopsLater (end_line_of stop last dimensions)
later_line g None last dimensions is reached = tt
later_line g (Some stop) last dimensions is reached = at stop (names_its_degree g.braid g.limit g.rows (suc g.last) stop (stopped_is_filled g stop is reached).stops)
  where
    at : (s : Stop) → IsStopOf (suc g.last) s → StopsLater (end_line_of (Some s) last dimensions)
    at DegreeLimit h = tt
    at (Wide degree) h = omega (arith, h)
    at (Rows degree product count) h = omega (arith, h)
