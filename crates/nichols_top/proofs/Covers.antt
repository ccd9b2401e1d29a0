-- The report of a quadratic cover, from its pieces as they are put.
use Rattle.std.proofs.Common.{◌≡◌, ◌<◌, ◌≤◌, ◌+◌, ◌-◌, ℕ, zero, suc, Bool, true, false, not, cond, List, [], ◌∷◌, length, map, refl, sym, ◌∙◌, ap, ap₂, subst, arith, Some, None, Ok, Err, nat_lt}
use Rattle.std.specs.Prelude.{Option, find, filter, nat_eq, slice_index, unwrap_or}
use Rattle.std.specs.List.{AllByRecursion, Contains, range_with_len}
use Rattle.std.proofs.lemmas.Bool.Decides.{nat_tests}
use Rattle.std.proofs.lemmas.List.FromFn.{length-map-range_with_len}
use Rattle.nichols_field.specs.Field.{FieldValue}
use Rattle.nichols_tensor.specs.Combination.{Combination, single}
use Rattle.nichols_tensor.specs.Relation.{PlainRelation}
use Rattle.nichols_tensor.specs.Words.{IsWordOver}
use Rattle.nichols_tensor.proofs.Entries.{from_map, from_filter}
use Rattle.nichols_tensor.proofs.Tests.{all_of_entries}
use Rattle.nichols_braid.specs.Braid.{BraidValue, IsBraid}
use Rattle.nichols_braid.specs.End.{dimension}
use Rattle.nichols_braid.specs.Kernel.{is_in_kernel}
use Rattle.nichols_braid.specs.Least.{candidates, is_least, normal_form, relations}
use Rattle.nichols_braid.specs.LeastLaws.{IsNormalForm}
use Rattle.nichols_braid.proofs.Candidates.{from_candidates, relations_are, relation_at}
use Rattle.nichols_braid.proofs.Killed.{is_in_kernel_is_linear}
use Rattle.nichols_braid.proofs.NormalForms.{form_is_normal}
use Rattle.nichols_cover.specs.Cover.{CoverValue, StopValue, candidate_count, cover_dimension, cover_of, first_wide}
use Rattle.nichols_cover.specs.Level.{IsQuadraticRelation}
use Rattle.nichols_cover.proofs.Shapes.{least_degree, least_over}
use Rattle.nichols_graded.specs.Graded.{GradedValue}
use Rattle.nichols_graded.specs.declared.ends.Stop.{Stop}
use Rattle.nichols_top.specs.Algebra.{Scope, degrees_in, in_brief, pieces_due}
use Rattle.nichols_top.specs.Cover.{cover_due, cover_piece, cover_status, cover_through, first_difference, quadratic_relations}
use Rattle.nichols_top.specs.CoverLines.{cover_lines}
use Rattle.nichols_top.specs.Ended.{IsEnded}
use Rattle.nichols_top.specs.Report.{piece}
use Rattle.nichols_top.specs.Written.{Written, Takes, BreaksIn, Writes}
use Rattle.nichols_top.specs.declared.status.Status.{Status}
use Rattle.nichols_top.specs.declared.writer.Break.{Break}
use Rattle.nichols_top.proofs.Taking.{breaks_first, breaks_more, takes_more}

-- ---- the relations of degree 2

quadratic_relation : (braid : BraidValue) → IsBraid braid → (r : PlainRelation) → Contains (relations is_in_kernel braid 2) r → IsQuadraticRelation braid.field braid.letters r
quadratic_relation braid is r i =
    let (w, l, d) = from_map (relation_at is_in_kernel braid 2) r (filter (λ v. not (is_least is_in_kernel braid v)) (candidates is_in_kernel braid 2)) (subst (λ rs. Contains rs r) (relations_are is_in_kernel braid 2) i) in
    let own : (length w ≡ 2) × IsWordOver braid.letters w = from_candidates is_in_kernel braid 2 w (from_filter (λ v. not (is_least is_in_kernel braid v)) w (candidates is_in_kernel braid 2) l).0 in
    let n : IsNormalForm is_in_kernel braid 2 (single w) (normal_form is_in_kernel braid 2 (single w)) =
    form_is_normal is_in_kernel braid is.field 2 (is_in_kernel_is_linear braid is.field 2) (single w) (own.0, tt) (own.1, tt) in
    subst (IsQuadraticRelation braid.field braid.letters) (sym d)
    (record {
      size = own.0;
      over = own.1;
      form_size = least_degree is_in_kernel braid 2 (normal_form is_in_kernel braid 2 (single w)) n.least;
      form_over = least_over is_in_kernel braid 2 (normal_form is_in_kernel braid 2 (single w)) n.least;
      elements = n.elements;
    })

-- they are relations between words of two letters
pub relations_are_quadratic : (braid : BraidValue) → IsBraid braid → AllByRecursion (IsQuadraticRelation braid.field braid.letters) (relations is_in_kernel braid 2)
relations_are_quadratic braid is = all_of_entries (IsQuadraticRelation braid.field braid.letters) (relations is_in_kernel braid 2) (quadratic_relation braid is)

-- those of an algebra, where its last finished degree is below 2 and where it isn't
pub no_relations : (braid : BraidValue) (last : ℕ) → last < 2 → quadratic_relations braid last ≡ []
no_relations braid last below = ap (λ b. cond b [] (relations is_in_kernel braid 2)) (let t : nat_lt last 2 ≡ true = grind (arith, nat_tests) in t)

pub all_relations : (braid : BraidValue) (last : ℕ) → 2 ≤ last → quadratic_relations braid last ≡ relations is_in_kernel braid 2
all_relations braid last above = ap (λ b. cond b [] (relations is_in_kernel braid 2)) (let t : nat_lt last 2 ≡ false = grind (arith, nat_tests) in t)

-- ---- the degrees of a cover

-- what is found among n numbers from a on is less than a + n
found_below : (p : ℕ → Bool) (a n m : ℕ) → find p (range_with_len a n) ≡ Some m → m < a + n
found_below p a zero m e = cc
found_below p a (suc n) m e = at (p a) (found_below p (a + 1) n m) e
  where
    at : (b : Bool) → (find p (range_with_len (a + 1) n) ≡ Some m → m < a + 1 + n) → cond b (Some a) (find p (range_with_len (a + 1) n)) ≡ Some m → m < a + suc n
    at true further e = let same : a ≡ m = cc in omega (arith, same)
    at false further e = let less : m < a + 1 + n = further e in omega (arith, less)

-- a cover has no more degrees than were asked for
pub degrees_most : (field : FieldValue) (n : ℕ) (rs : List Combination) (through limit : ℕ) → length (cover_of field n rs through limit).dimensions ≤ suc through
unfolding cover_of first_wide
degrees_most field n rs through limit = at (find (λ m. nat_lt limit (candidate_count field n rs m)) (range_with_len 1 through)) refl
  where
    at : (o : Option ℕ) → find (λ m. nat_lt limit (candidate_count field n rs m)) (range_with_len 1 through) ≡ o → length (map (cover_dimension field n rs) (range_with_len 0 (unwrap_or o (suc through)))) ≤ suc through
    at None e = let l = length-map-range_with_len (cover_dimension field n rs) 0 (suc through) in omega (arith, l)
    at (Some m) e =
        let l = length-map-range_with_len (cover_dimension field n rs) 0 m in
        let below : m < 1 + through = found_below (λ k. nat_lt limit (candidate_count field n rs k)) 1 through m e in
        omega (arith, l, below)

-- ---- the first difference

-- whether the dimension of the algebra isn't that of a list
abbrev pub differs : BraidValue → List ℕ → ℕ → Bool
differs braid dimensions m = not (nat_eq (dimension is_in_kernel braid m) (slice_index dimensions m))

-- the first difference from a degree on
abbrev pub difference_from : BraidValue → List ℕ → ℕ → Option ℕ
difference_from braid dimensions m = find (differs braid dimensions) (range_with_len m (length dimensions - m))

pub difference_start : (braid : BraidValue) (dimensions : List ℕ) → first_difference braid dimensions ≡ difference_from braid dimensions 0
unfolding first_difference
difference_start braid dimensions =
    let whole : length dimensions ≡ length dimensions - 0 = omega arith in
    ap (λ n. find (differs braid dimensions) (range_with_len 0 n)) whole

difference_step : (braid : BraidValue) (dimensions : List ℕ) (m : ℕ) → m < length dimensions → difference_from braid dimensions m ≡ cond (differs braid dimensions m) (Some m) (difference_from braid dimensions (m + 1))
difference_step braid dimensions m less =
    let more : length dimensions - m ≡ suc (length dimensions - (m + 1)) = omega arith in
    ap (λ n. find (differs braid dimensions) (range_with_len m n)) more

pub difference_here : (braid : BraidValue) (dimensions : List ℕ) (m : ℕ) → m < length dimensions → differs braid dimensions m ≡ true → difference_from braid dimensions m ≡ Some m
difference_here braid dimensions m less h = difference_step braid dimensions m less ∙ ap (λ b. cond b (Some m) (difference_from braid dimensions (m + 1))) h

pub difference_later : (braid : BraidValue) (dimensions : List ℕ) (m : ℕ) → m < length dimensions → differs braid dimensions m ≡ false → difference_from braid dimensions m ≡ difference_from braid dimensions (m + 1)
difference_later braid dimensions m less h = difference_step braid dimensions m less ∙ ap (λ b. cond b (Some m) (difference_from braid dimensions (m + 1))) h

pub no_difference : (braid : BraidValue) (dimensions : List ℕ) (m : ℕ) → length dimensions ≤ m → difference_from braid dimensions m ≡ None
no_difference braid dimensions m most =
    let none : length dimensions - m ≡ 0 = omega arith in
    ap (λ n. find (differs braid dimensions) (range_with_len m n)) none

-- ---- the report

-- the text of a cover is that of its piece
pub cover_text_is : (braid : BraidValue) (last : ℕ) {text : List ℕ} (cover : CoverValue) {difference : Option ℕ} → text ≡ cover_lines cover difference → difference ≡ first_difference braid cover.dimensions → cover ≡ cover_through braid last →
    piece text None ≡ cover_piece braid last
unfolding cover_piece
cover_text_is braid last cover t d c = ap (λ x. piece x None) (t ∙ ap (cover_lines cover) d ∙ ap (λ (v : CoverValue). cover_lines v (first_difference braid v.dimensions)) c)

-- the degree that is the last finished one of an algebra whose end was reached
last_is : (braid : BraidValue) (scope : Scope) (g : GradedValue) (stop : Option Stop) → IsEnded braid scope g stop → g.last ≡ length (degrees_in braid scope) - 1
last_is braid scope g stop is = let e = is.counted in omega (arith, e)

piece_is : (braid : BraidValue) (scope : Scope) (g : GradedValue) (stop : Option Stop) → IsEnded braid (in_brief scope) g stop → cover_piece g.braid g.last ≡ cover_piece braid (length (degrees_in braid scope) - 1)
piece_is braid scope g stop is = ap₂ cover_piece is.braid_is (last_is braid (in_brief scope) g stop is)

-- where the algebra breaks off
pub cover_first : (braid : BraidValue) (order : List ℕ) (scope : Scope) {start now : Written} {cause : Break} → BreaksIn (pieces_due braid order (in_brief scope)) start now cause → Writes (cover_due braid order scope) start now (Err cause)
unfolding cover_due
cover_first braid order scope t = breaks_first (cover_piece braid (length (degrees_in braid scope) - 1) ∷ []) t

-- where the cover does
pub cover_breaks : (braid : BraidValue) (order : List ℕ) (scope : Scope) (g : GradedValue) (stop : Option Stop) {start mid now : Written} {cause : Break} → IsEnded braid (in_brief scope) g stop → Takes (pieces_due braid order (in_brief scope)) start mid →
    BreaksIn (cover_piece g.braid g.last ∷ []) mid now cause → Writes (cover_due braid order scope) start now (Err cause)
unfolding cover_due
cover_breaks braid order scope g stop {start} {mid} {now} {cause} is before t = breaks_more before (subst (λ p. BreaksIn (p ∷ []) mid now cause) (piece_is braid scope g stop is) t)

pub cover_whole : (braid : BraidValue) (order : List ℕ) (scope : Scope) (g : GradedValue) (stop : Option Stop) {start mid now : Written} (stopped : Option StopValue) (status : Status) → IsEnded braid (in_brief scope) g stop →
    stopped ≡ (cover_through g.braid g.last).stop → status ≡ cover_status stop stopped → Takes (pieces_due braid order (in_brief scope)) start mid → Takes (cover_piece g.braid g.last ∷ []) mid now → Writes (cover_due braid order scope) start now (Ok status)
unfolding cover_due
cover_whole braid order scope g stop {start} {mid} {now} stopped status is s answer before t = (
  answer ∙ ap₂ cover_status is.stop_is (s ∙ ap (λ (c : CoverValue). c.stop) (ap₂ cover_through is.braid_is (last_is braid (in_brief scope) g stop is))),
  takes_more before (subst (λ p. Takes (p ∷ []) mid now) (piece_is braid scope g stop is) t),
)
