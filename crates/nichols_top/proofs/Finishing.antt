-- The finished degrees, and the pieces of a report from one of them on.
use Rattle.std.proofs.Common.{◌≡◌, ℕ, zero, suc, ◌+◌, ◌-◌, ◌<◌, ◌≤◌, Bool, true, false, cond, List, [], ◌∷◌, ◌++◌, map, length, refl, sym, ◌∙◌, ap, subst, arith, append_assoc, length-append, Some, None, nat_eq, inl, inr}
use Rattle.std.proofs.lemmas.List.{map-append}
use Rattle.std.specs.Prelude.{Option}
use Rattle.std.specs.List.{range_with_len}
use Rattle.std.proofs.lemmas.Bool.Decides.{Decides-eqb}
use Rattle.std.proofs.lemmas.List.FromFn.{length-range_with_len, map-range_with_len_more}
use Rattle.nichols_braid.specs.Braid.{BraidValue}
use Rattle.nichols_braid.specs.Kernel.{is_in_kernel}
use Rattle.nichols_braid.proofs.EndLaws as braid_laws
use Rattle.nichols_graded.specs.Ends.{algebra_end, end_by, stops_at, finished_degrees, end_reached}
use Rattle.nichols_graded.specs.Graded.{GradedValue, IsGraded, TellsEnd}
use Rattle.nichols_graded.specs.declared.ends.Advance.{Advance}
use Rattle.nichols_graded.specs.declared.ends.End.{End}
use Rattle.nichols_graded.specs.declared.ends.End.TheVariants as ends
use Rattle.nichols_graded.specs.declared.ends.Stop.{Stop}
use Rattle.nichols_text.specs.declared.end.EndLine.{EndLine}
use Rattle.nichols_text.specs.Pieces.{end_piece}
use Rattle.nichols_top.specs.Report.{Piece, piece}
use Rattle.nichols_top.specs.Algebra.{Scope, degrees_in, stop_in, header_due, degree_due, dimensions_of, end_line_of, factors_at, end_due, pieces_due}
use Rattle.nichols_top.specs.Ended.{HasEnd, IsEnded}
use Rattle.nichols_top.specs.Written.{Written, Takes, BreaksIn}
use Rattle.nichols_top.specs.declared.writer.Break.{Break}
use Rattle.nichols_top.specs.declared.writer.Break.TheVariants.{Memory}
use Rattle.nichols_top.proofs.Taking.{HasTaken, taken_nothing, taken_more, taken_whole, taken_broken, taken_no_memory}

-- ---- lists of numbers

range_parts : (a j k n : ℕ) → n ≡ j + k → range_with_len a n ≡ range_with_len a j ++ range_with_len (a + j) k
range_parts a zero k n e =
    let same : n ≡ k = omega arith in
    let here : a ≡ a + 0 = omega arith in
    ap (range_with_len a) same ∙ ap (λ b. range_with_len b k) here
range_parts a (suc j) k n e =
    let count : n ≡ suc (j + k) = omega arith in
    let next : a + 1 + j ≡ a + suc j = omega arith in
    ap (range_with_len a) count ∙ ap (λ ns. a ∷ ns) (range_parts (a + 1) j k (j + k) refl) ∙ ap (λ b. a ∷ (range_with_len (a + 1) j ++ range_with_len b k)) next

-- ---- the finished degrees

-- how many degrees are finished
abbrev pub count : BraidValue → Scope → ℕ
count braid scope = length (degrees_in braid scope)

pub degrees_are : (braid : BraidValue) (scope : Scope) → degrees_in braid scope ≡ range_with_len 0 (count braid scope)
degrees_are braid scope = (braid_laws.finished_degrees Stop is_in_kernel braid (stops_at braid scope.degree_limit scope.rows_limit)).1

pub last_is_finished : (g : GradedValue) → IsGraded g → g.last < length (finished_degrees g.braid g.limit g.rows)
last_is_finished g is = braid_laws.finished_below_count is_in_kernel g.braid (stops_at g.braid g.limit g.rows) g.last is.finished

-- the algebra of this braid under these limits
pub record IsAlgebra (braid : BraidValue) (scope : Scope) (g : GradedValue) : Type 0 where
  pub braid_is : g.braid ≡ braid
  pub limit_is : g.limit ≡ scope.degree_limit
  pub rows_is : g.rows ≡ scope.rows_limit

-- a step that keeps braid and limits
pub algebra_kept : {braid : BraidValue} {scope : Scope} {g h : GradedValue} → IsAlgebra braid scope g → h.braid ≡ g.braid → h.limit ≡ g.limit → h.rows ≡ g.rows → IsAlgebra braid scope h
algebra_kept is same_braid same_limit same_rows = record { braid_is = same_braid ∙ is.braid_is; limit_is = same_limit ∙ is.limit_is; rows_is = same_rows ∙ is.rows_is }

-- what is said of its limits is said of these
same_limits : {X : Type 0} (f : BraidValue → ℕ → ℕ → X) (braid : BraidValue) (scope : Scope) (g : GradedValue) → IsAlgebra braid scope g → f g.braid g.limit g.rows ≡ f braid scope.degree_limit scope.rows_limit
same_limits f braid scope g is = ap (λ b. f b g.limit g.rows) is.braid_is ∙ ap (λ n. f braid n g.rows) is.limit_is ∙ ap (f braid scope.degree_limit) is.rows_is

below_count : (braid : BraidValue) (scope : Scope) (g : GradedValue) → IsAlgebra braid scope g → g.last < length (finished_degrees g.braid g.limit g.rows) → g.last < count braid scope
below_count braid scope g is below = subst (λ n. g.last < n) (ap length (same_limits finished_degrees braid scope g is)) below

-- the finished degrees from m on, and the end
abbrev pub rest_from : BraidValue → List ℕ → Scope → ℕ → List Piece
rest_from braid list scope m = map (degree_due braid list scope.brief) (range_with_len m (count braid scope - m)) ++ end_due braid (stop_in braid scope) (degrees_in braid scope) ∷ []

pub pieces_are : (braid : BraidValue) (list : List ℕ) (scope : Scope) → pieces_due braid list scope ≡ (header_due braid list scope ∷ []) ++ rest_from braid list scope 0
unfolding pieces_due
pieces_are braid list scope =
    let all : count braid scope ≡ count braid scope - 0 = omega arith in
    let degrees : degrees_in braid scope ≡ range_with_len 0 (count braid scope - 0) = degrees_are braid scope ∙ ap (range_with_len 0) all in
    ap (λ ms. header_due braid list scope ∷ (map (degree_due braid list scope.brief) ms ++ end_due braid (stop_in braid scope) (degrees_in braid scope) ∷ [])) degrees

pub rest_parts : (braid : BraidValue) (list : List ℕ) (scope : Scope) (from last : ℕ) → from ≤ suc last → last < count braid scope →
    rest_from braid list scope from ≡ map (degree_due braid list scope.brief) (range_with_len from (suc last - from)) ++ rest_from braid list scope (suc last)
rest_parts braid list scope from last order below =
    let split : count braid scope - from ≡ (suc last - from) + (count braid scope - suc last) = omega arith in
    let next : from + (suc last - from) ≡ suc last = omega arith in
    let end : List Piece = end_due braid (stop_in braid scope) (degrees_in braid scope) ∷ [] in
    let due : ℕ → Piece = degree_due braid list scope.brief in
    ap (λ ms. map due ms ++ end) (range_parts from (suc last - from) (count braid scope - suc last) (count braid scope - from) split ∙ ap (λ b. range_with_len from (suc last - from) ++ range_with_len b (count braid scope - suc last)) next)
    ∙ ap (λ ps. ps ++ end) (map-append due (range_with_len from (suc last - from)) (range_with_len (suc last) (count braid scope - suc last)))
    ∙ append_assoc (map due (range_with_len from (suc last - from))) (map due (range_with_len (suc last) (count braid scope - suc last))) end

pub some_rest : (braid : BraidValue) (list : List ℕ) (scope : Scope) (m : ℕ) → 0 < length (rest_from braid list scope m)
some_rest braid list scope m = omega (arith, length-append (map (degree_due braid list scope.brief) (range_with_len m (count braid scope - m))) (end_due braid (stop_in braid scope) (degrees_in braid scope) ∷ []))

-- behind the last finished degree stands the end alone
rest_is_end : (braid : BraidValue) (list : List ℕ) (scope : Scope) (last : ℕ) → count braid scope ≡ suc last → rest_from braid list scope (suc last) ≡ end_due braid (stop_in braid scope) (range_with_len 0 (suc last)) ∷ []
rest_is_end braid list scope last e =
    let none : count braid scope - suc last ≡ 0 = omega arith in
    ap (λ n. map (degree_due braid list scope.brief) (range_with_len (suc last) n) ++ end_due braid (stop_in braid scope) (degrees_in braid scope) ∷ []) none
    ∙ ap (λ ms. end_due braid (stop_in braid scope) ms ∷ []) (degrees_are braid scope ∙ ap (range_with_len 0) e)

-- ---- the end

-- an end tells what stops the algebra
stop_alike : (found stop : Option Stop) → end_by found ≡ end_by stop → found ≡ stop
stop_alike None None e = refl
stop_alike None (Some s) e = absurd (let c : ends.Closed ≡ ends.Stopped s = e in cc)
stop_alike (Some t) None e = absurd (let c : ends.Stopped t ≡ ends.Closed = e in cc)
stop_alike (Some t) (Some s) e = let c : ends.Stopped t ≡ ends.Stopped s = e in ap Some (let same : t ≡ s = cc in same)

pub ended_at : (braid : BraidValue) (scope : Scope) (g : GradedValue) (stop : Option Stop) → IsAlgebra braid scope g → HasEnd g stop → IsEnded braid scope g stop
unfolding end_reached algebra_end
ended_at braid scope g stop is reached = at (nat_eq (count braid scope) (suc g.last)) refl (sym (same_limits (λ b n r. end_reached b n r g.last) braid scope g is) ∙ reached)
  where
    at : (b : Bool) → nat_eq (count braid scope) (suc g.last) ≡ b → cond b (Some (end_by (stop_in braid scope))) None ≡ Some (end_by stop) → IsEnded braid scope g stop
    at true t e = record { braid_is = is.braid_is; counted = (Decides-eqb (count braid scope) (suc g.last)).0 t; stop_is = sym (stop_alike (stop_in braid scope) stop (let s : Some (end_by (stop_in braid scope)) ≡ Some (end_by stop) = e in cc)); reached = reached }
    at false t e = cc

-- an end that is told and no want of memory is the one that was reached
pub end_told : (g : GradedValue) (advance : Advance) (end : End) (stop : Option Stop) → TellsEnd g advance.end → advance.end ≡ Some end → end ≡ end_by stop → HasEnd g stop
end_told g advance end stop (inl starved) is e = absurd (never stop (let c : Some ends.Starved ≡ Some (end_by stop) = sym starved ∙ is ∙ ap Some e in cc))
  where
    never : (s : Option Stop) → ends.Starved ≡ end_by s → ⊥
    never None h = let c : ends.Starved ≡ ends.Closed = h in cc
    never (Some t) h = let c : ends.Starved ≡ ends.Stopped t = h in cc
end_told g advance end stop (inr reached) is e = sym reached ∙ is ∙ ap Some e

-- ---- degrees that are put one after the other

-- the pieces of degrees, with the one of degree m in the middle
pub degrees_parts : (f : ℕ → Piece) (from m last : ℕ) → from ≤ m → m ≤ last →
    map f (range_with_len from (suc last - from)) ≡ map f (range_with_len from (m - from)) ++ ((f m ∷ []) ++ map f (range_with_len (m + 1) (last - m)))
degrees_parts f from m last order within =
    let split : suc last - from ≡ (m - from) + suc (last - m) = omega arith in
    let next : from + (m - from) ≡ m = omega arith in
    ap (map f) (range_parts from (m - from) (suc (last - m)) (suc last - from) split ∙ ap (λ b. range_with_len from (m - from) ++ range_with_len b (suc (last - m))) next)
    ∙ map-append f (range_with_len from (m - from)) (range_with_len m (suc (last - m)))

pub degrees_more : (f : ℕ → Piece) (from m : ℕ) → from ≤ m → map f (range_with_len from (m - from)) ++ (f m ∷ []) ≡ map f (range_with_len from (m + 1 - from))
degrees_more f from m order =
    let next : m + 1 - from ≡ m - from + 1 = omega arith in
    sym (ap (λ n. map f (range_with_len from n)) next ∙ map-range_with_len_more f from (m - from) m (omega arith))

-- ---- the pieces of a report as they are put

-- the degrees up to the last finished one
pub degrees_put : (braid : BraidValue) (list : List ℕ) (scope : Scope) (from : ℕ) (g : GradedValue) {start mid now : Written} → IsAlgebra braid scope g → from ≤ suc g.last → g.last < length (finished_degrees g.braid g.limit g.rows) →
    HasTaken (pieces_due braid list scope) (rest_from braid list scope from) start mid → Takes (map (degree_due g.braid list scope.brief) (range_with_len from (suc g.last - from))) mid now →
    HasTaken (pieces_due braid list scope) (rest_from braid list scope (suc g.last)) start now
degrees_put braid list scope from g {start} {mid} {now} is order below h t =
    taken_more (rest_from braid list scope (suc g.last)) (subst (λ ps. HasTaken (pieces_due braid list scope) ps start mid) (rest_parts braid list scope from g.last order (below_count braid scope g is below)) h)
    (subst (λ x. Takes (map (degree_due x list scope.brief) (range_with_len from (suc g.last - from))) mid now) is.braid_is t)

pub degrees_break : (braid : BraidValue) (list : List ℕ) (scope : Scope) (from : ℕ) (g : GradedValue) {start mid now : Written} {cause : Break} → IsAlgebra braid scope g → from ≤ suc g.last → g.last < length (finished_degrees g.braid g.limit g.rows) →
    HasTaken (pieces_due braid list scope) (rest_from braid list scope from) start mid → BreaksIn (map (degree_due g.braid list scope.brief) (range_with_len from (suc g.last - from))) mid now cause →
    BreaksIn (pieces_due braid list scope) start now cause
degrees_break braid list scope from g {start} {mid} {now} {cause} is order below h t =
    taken_broken (rest_from braid list scope (suc g.last)) (subst (λ ps. HasTaken (pieces_due braid list scope) ps start mid) (rest_parts braid list scope from g.last order (below_count braid scope g is below)) h)
    (subst (λ x. BreaksIn (map (degree_due x list scope.brief) (range_with_len from (suc g.last - from))) mid now cause) is.braid_is t)

-- the same pieces are left
pub taken_at : (braid : BraidValue) (list : List ℕ) (scope : Scope) (n : ℕ) {m : ℕ} {start now : Written} → n ≡ m → HasTaken (pieces_due braid list scope) (rest_from braid list scope m) start now → HasTaken (pieces_due braid list scope) (rest_from braid list scope n) start now
taken_at braid list scope n {m} {start} {now} e h = subst (λ k. HasTaken (pieces_due braid list scope) (rest_from braid list scope k) start now) (sym e) h

-- fewer degrees are left
pub fewer : (braid : BraidValue) (scope : Scope) (g : GradedValue) (last : ℕ) → IsAlgebra braid scope g → g.last < length (finished_degrees g.braid g.limit g.rows) → last < g.last → count braid scope - g.last < count braid scope - last
fewer braid scope g last is below more = let few = below_count braid scope g is below in omega (arith, few)

-- the header
pub header_put : (braid : BraidValue) (list : List ℕ) (scope : Scope) {start now : Written} → Takes (header_due braid list scope ∷ []) start now → HasTaken (pieces_due braid list scope) (rest_from braid list scope 0) start now
header_put braid list scope t = taken_more (rest_from braid list scope 0) (taken_nothing (pieces_are braid list scope)) t

pub header_breaks : (braid : BraidValue) (list : List ℕ) (scope : Scope) {start now : Written} {cause : Break} → BreaksIn (header_due braid list scope ∷ []) start now cause → BreaksIn (pieces_due braid list scope) start now cause
header_breaks braid list scope t = taken_broken (rest_from braid list scope 0) (taken_nothing (pieces_are braid list scope)) t

-- where there was no memory between two pieces
pub next_breaks : (braid : BraidValue) (list : List ℕ) (scope : Scope) (m : ℕ) {start now : Written} → HasTaken (pieces_due braid list scope) (rest_from braid list scope m) start now → BreaksIn (pieces_due braid list scope) start now Memory
next_breaks braid list scope m h = taken_no_memory h (some_rest braid list scope m)

-- the end
end_left : (braid : BraidValue) (list : List ℕ) (scope : Scope) (g : GradedValue) (stop : Option Stop) {start mid : Written} → IsEnded braid scope g stop → HasTaken (pieces_due braid list scope) (rest_from braid list scope (suc g.last)) start mid →
    HasTaken (pieces_due braid list scope) ((end_due g.braid stop (range_with_len 0 (suc g.last)) ∷ []) ++ []) start mid
end_left braid list scope g stop {start} {mid} is h =
    let degrees : List ℕ = range_with_len 0 (suc g.last) in
    let piece_is : end_due g.braid stop degrees ≡ end_due braid (stop_in braid scope) degrees = ap (λ b. end_due b stop degrees) is.braid_is ∙ ap (λ e. end_due braid e degrees) is.stop_is in
    subst (λ ps. HasTaken (pieces_due braid list scope) ps start mid) (rest_is_end braid list scope g.last is.counted ∙ ap (λ p. p ∷ []) (sym piece_is)) h

pub end_put : (braid : BraidValue) (list : List ℕ) (scope : Scope) (g : GradedValue) (stop : Option Stop) {start mid now : Written} → IsEnded braid scope g stop → HasTaken (pieces_due braid list scope) (rest_from braid list scope (suc g.last)) start mid →
    Takes (end_due g.braid stop (range_with_len 0 (suc g.last)) ∷ []) mid now → Takes (pieces_due braid list scope) start now
end_put braid list scope g stop is h t = taken_whole (taken_more [] (end_left braid list scope g stop is h) t)

pub end_breaks : (braid : BraidValue) (list : List ℕ) (scope : Scope) (g : GradedValue) (stop : Option Stop) {start mid now : Written} {cause : Break} → IsEnded braid scope g stop → HasTaken (pieces_due braid list scope) (rest_from braid list scope (suc g.last)) start mid →
    BreaksIn (end_due g.braid stop (range_with_len 0 (suc g.last)) ∷ []) mid now cause → BreaksIn (pieces_due braid list scope) start now cause
end_breaks braid list scope g stop is h t = taken_broken [] (end_left braid list scope g stop is h) t

-- ---- the end piece

pub end_text_is : (braid : BraidValue) (stop : Option Stop) (last : ℕ) {text : List ℕ} {line : EndLine} {l : ℕ} {ds es : List ℕ} {factors : Option (List ℕ)} → text ≡ end_piece line es factors → line ≡ end_line_of stop l ds → l ≡ last →
    ds ≡ dimensions_of braid (range_with_len 0 (suc last)) → es ≡ dimensions_of braid (range_with_len 0 (suc last)) → factors ≡ factors_at stop (dimensions_of braid (range_with_len 0 (suc last))) →
    piece text None ≡ end_due braid stop (range_with_len 0 (suc last))
unfolding end_due
end_text_is braid stop last {text} {line} {l} {ds} {es} {factors} t i k d e f =
    let degrees : List ℕ = range_with_len 0 (suc last) in
    let dimensions : List ℕ = dimensions_of braid degrees in
    let counted : last ≡ length degrees - 1 = omega (arith, length-range_with_len 0 (suc last)) in
    ap (λ x. piece x None)
    (t ∙ ap (λ x. end_piece x es factors) (i ∙ ap (λ n. end_line_of stop n ds) (k ∙ counted) ∙ ap (end_line_of stop (length degrees - 1)) d) ∙ ap (λ x. end_piece (end_line_of stop (length degrees - 1) dimensions) x factors) e ∙ ap (end_piece (end_line_of stop (length degrees - 1) dimensions) dimensions) f)
