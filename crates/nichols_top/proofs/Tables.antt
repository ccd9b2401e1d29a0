-- The report of a table of products, from its pieces as they are put.
use Rattle.std.proofs.Common.{◌≡◌, ◌<◌, ◌≤◌, ◌+◌, ℕ, zero, suc, Bool, true, false, cond, List, [], ◌∷◌, ◌++◌, get_or, length, map, nat_lt, sum, sym, ◌∙◌, ap, ap₂, subst, arith, None, Ok, Err}
use Rattle.std.specs.Prelude.{Option}
use Rattle.std.specs.List.{AllByRecursion, Contains, range_with_len}
use Rattle.std.proofs.lemmas.Bool.Decides.{Decides-eqb, nat_tests}
use Rattle.std.proofs.lemmas.Grind.{flat_map-append}
use Rattle.std.proofs.lemmas.List.{append-nil, get_or-map, nil_from_length}
use Rattle.std.proofs.lemmas.List.Elements.{All-from_recursion}
use Rattle.std.proofs.lemmas.List.FromFn.{get_or-range_with_len, length-range_with_len}
use Rattle.nichols_field.specs.Field.{FieldValue}
use Rattle.nichols_tensor.specs.Combination.{Combination, single}
use Rattle.nichols_tensor.specs.Words.{IsWordOver}
use Rattle.nichols_tensor.proofs.Entries.{from_flat_map}
use Rattle.nichols_tensor.proofs.Over.{word_over-append}
use Rattle.nichols_tensor.proofs.Tests.{all_of_entries}
use Rattle.nichols_braid.specs.Braid.{BraidValue, IsBraid}
use Rattle.nichols_braid.specs.End.{is_empty_degree}
use Rattle.nichols_braid.specs.Kernel.{is_in_kernel, is_killed}
use Rattle.nichols_braid.specs.Least.{basis}
use Rattle.nichols_braid.proofs.FirstDegree.{basis_first}
use Rattle.nichols_braid.proofs.Reduction.{from_basis}
use Rattle.nichols_lift.proofs.Readings.{one_reading}
use Rattle.nichols_graded.specs.Graded.{GradedValue}
use Rattle.nichols_graded.specs.declared.ends.Stop.{Stop}
use Rattle.nichols_product.specs.WordProducts.{product_of_words}
use Rattle.nichols_reduce.proofs.ReduceLaws.{forms_have_one_reading}
use Rattle.nichols_top.specs.Algebra.{Scope, degrees_in, dimensions_of, in_brief, pieces_due, status_of, stop_in}
use Rattle.nichols_top.specs.Ended.{IsEnded}
use Rattle.nichols_top.specs.Report.{piece}
use Rattle.nichols_top.specs.Table.{least_words, products_due, table_at, table_due, table_pieces, times_due}
use Rattle.nichols_top.specs.TableLines.{times_line, too_large_line}
use Rattle.nichols_top.specs.Written.{Written, Takes, BreaksIn, Writes}
use Rattle.nichols_top.specs.declared.status.Status.{Status}
use Rattle.nichols_top.specs.declared.table.TheConstants.{TABLE_LIMIT}
use Rattle.nichols_top.specs.declared.writer.Break.{Break}
use Rattle.nichols_top.proofs.Finishing.{degrees_are}
use Rattle.nichols_top.proofs.Taking.{breaks_first, breaks_more, takes_more}

-- ---- the least words of an algebra

-- a degree that is empty for the symmetrizer has no least word for the derivations
pub no_least_word : (braid : BraidValue) → IsBraid braid → (m : ℕ) → is_empty_degree is_in_kernel braid m ≡ true → basis is_killed braid m ≡ []
no_least_word braid is m empty = sym ((one_reading braid is).alike.bases m) ∙ nil_from_length (basis is_in_kernel braid m) ((Decides-eqb (length (basis is_in_kernel braid m)) 0).0 empty)

-- a least word of the degrees up to the last
pub record IsMade (braid : BraidValue) (last : ℕ) (w : List ℕ) : Type 0 where
  pub over : IsWordOver braid.letters w
  pub made : length w ≤ last

made_if_least : (braid : BraidValue) (last : ℕ) (w : List ℕ) → Contains (least_words braid (range_with_len 0 (suc last))) w → IsMade braid last w
made_if_least braid last w there =
    let (m, i, least) = from_flat_map (basis is_in_kernel braid) w (range_with_len 0 (suc last)) there in
    let own = from_basis is_in_kernel braid m w least in
    let place : i.0 < suc last = subst (λ n. i.0 < n) (length-range_with_len 0 (suc last)) i.1 in
    let degree : m ≡ 0 + i.0 = sym i.2 ∙ get_or-range_with_len 0 (suc last) i.0 m place in
    record { over = own.1; made = omega (arith, own.0, degree, place) }

pub word_made : (braid : BraidValue) (last : ℕ) (words : List (List ℕ)) (i : ℕ) (w : List ℕ) → words ≡ least_words braid (range_with_len 0 (suc last)) → i < length words → w ≡ get_or words i w → IsMade braid last w
word_made braid last words i w e less at = made_if_least braid last w (subst (λ ws. Contains ws w) e (i, less, sym at))

pub words_over : (braid : BraidValue) (last : ℕ) (words : List (List ℕ)) → words ≡ least_words braid (range_with_len 0 (suc last)) → AllByRecursion (IsWordOver braid.letters) words
words_over braid last words e = all_of_entries (IsWordOver braid.letters) words (λ w there. (made_if_least braid last w (subst (λ ws. Contains ws w) e there)).over)

range_more : (a n j : ℕ) → a + n ≡ j → range_with_len a (suc n) ≡ range_with_len a n ++ j ∷ []
range_more a zero j e = let here : a ≡ j = omega (arith, e) in ap (λ k. k ∷ []) here
range_more a (suc n) j e = ap (λ ns. a ∷ ns) (range_more (a + 1) n j (omega (arith, e)))

-- those of one degree more
pub least_more : (braid : BraidValue) (m : ℕ) (words more new : List (List ℕ)) → words ≡ least_words braid (range_with_len 0 m) → more ≡ basis is_in_kernel braid m → new ≡ words ++ more → new ≡ least_words braid (range_with_len 0 (m + 1))
least_more braid m words more new before own e =
    let next : m + 1 ≡ suc m = omega arith in
    e ∙ ap₂ (λ xs ys. xs ++ ys) before (own ∙ sym (append-nil (basis is_in_kernel braid m)))
    ∙ sym (ap (least_words braid) (ap (range_with_len 0) next ∙ range_more 0 m m (omega arith)) ∙ flat_map-append (basis is_in_kernel braid) (range_with_len 0 m) (m ∷ []))

-- the first of them is the empty word
first_word : (braid : BraidValue) → IsBraid braid → (last : ℕ) → least_words braid (range_with_len 0 (suc last)) ≡ [] ∷ least_words braid (range_with_len 1 last)
first_word braid is last = ap (λ ws. ws ++ least_words braid (range_with_len 1 last)) ((one_reading braid is).alike.bases 0 ∙ basis_first braid is.field)

-- ---- the pieces of a table

pub some_products : (braid : BraidValue) → IsBraid braid → (order : List ℕ) (last : ℕ) → 0 < length (products_due braid order (least_words braid (range_with_len 0 (suc last))))
unfolding products_due
some_products braid is order last =
    let ws : List (List ℕ) = [] ∷ least_words braid (range_with_len 1 last) in
    subst (λ vs. 0 < length (products_due braid order vs)) (sym (first_word braid is last)) (let some : 0 < length (products_due braid order ws) = omega arith in some)

pub some_table : (braid : BraidValue) → IsBraid braid → (order : List ℕ) (last : ℕ) → 0 < length (table_pieces braid order (range_with_len 0 (suc last)))
unfolding table_pieces
some_table braid is order last = at (nat_lt TABLE_LIMIT (sum (dimensions_of braid (range_with_len 0 (suc last)))))
  where
    at : (b : Bool) → 0 < length (cond b (piece (too_large_line (sum (dimensions_of braid (range_with_len 0 (suc last))))) None ∷ []) (products_due braid order (least_words braid (range_with_len 0 (suc last)))))
    at true = omega arith
    at false = some_products braid is order last

pub too_large : (braid : BraidValue) (order degrees : List ℕ) (dimension : ℕ) → dimension ≡ sum (dimensions_of braid degrees) → TABLE_LIMIT < dimension → table_pieces braid order degrees ≡ piece (too_large_line dimension) None ∷ []
unfolding table_pieces
too_large braid order degrees dimension e large =
    ap (λ b. cond b (piece (too_large_line (sum (dimensions_of braid degrees))) None ∷ []) (products_due braid order (least_words braid degrees)))
    (let t : nat_lt TABLE_LIMIT (sum (dimensions_of braid degrees)) ≡ true = grind (arith, nat_tests) in t)
    ∙ ap (λ d. piece (too_large_line d) None ∷ []) (sym e)

pub small_enough : (braid : BraidValue) (order degrees : List ℕ) (dimension : ℕ) → dimension ≡ sum (dimensions_of braid degrees) → dimension ≤ TABLE_LIMIT → table_pieces braid order degrees ≡ products_due braid order (least_words braid degrees)
unfolding table_pieces
small_enough braid order degrees dimension e small =
    ap (λ b. cond b (piece (too_large_line (sum (dimensions_of braid degrees))) None ∷ []) (products_due braid order (least_words braid degrees)))
    (let t : nat_lt TABLE_LIMIT (sum (dimensions_of braid degrees)) ≡ false = grind (arith, nat_tests) in t)

-- the piece of a product
pub times_piece_is : (braid : BraidValue) → IsBraid braid → (field : FieldValue) (order u : List ℕ) (vs : List (List ℕ)) (k : ℕ) (v : List ℕ) (products : List Combination) (form : Combination) → field ≡ braid.field → IsWordOver braid.letters u → AllByRecursion (IsWordOver braid.letters) vs →
    k < length vs → v ≡ get_or vs k v → products ≡ map (product_of_words braid u) vs → form ≡ get_or products k form → piece (times_line field order u v form) None ≡ times_due braid order u v
unfolding times_due
times_piece_is braid is field order u vs k v products form field_is over others less at e own =
    let product : form ≡ product_of_words braid u v = own ∙ ap (λ ps. get_or ps k form) e ∙ get_or-map (product_of_words braid u) vs k v form less ∙ ap (product_of_words braid u) (sym at) in
    let other : IsWordOver braid.letters v = subst (IsWordOver braid.letters) (sym at) (All-from_recursion (IsWordOver braid.letters) vs others k v less) in
    ap₂ (λ f g. piece (times_line f order u v g) None) field_is (product ∙ forms_have_one_reading braid is (single (u ++ v)) (word_over-append braid.letters u v over other, tt))

-- ---- the report

table_is : (braid : BraidValue) (order : List ℕ) (scope : Scope) (g : GradedValue) (stop : Option Stop) → IsEnded braid (in_brief scope) g stop →
    table_at g.braid order stop (range_with_len 0 (suc g.last)) ≡ table_at braid order (stop_in braid scope) (degrees_in braid scope)
table_is braid order scope g stop is =
    ap (λ b. table_at b order stop (range_with_len 0 (suc g.last))) is.braid_is ∙ ap (λ e. table_at braid order e (range_with_len 0 (suc g.last))) is.stop_is
    ∙ ap (table_at braid order (stop_in braid scope)) (sym (degrees_are braid scope ∙ ap (range_with_len 0) is.counted))

-- where the algebra breaks off
pub table_first : (braid : BraidValue) (order : List ℕ) (scope : Scope) {start now : Written} {cause : Break} → BreaksIn (pieces_due braid order (in_brief scope)) start now cause → Writes (table_due braid order scope) start now (Err cause)
unfolding table_due
table_first braid order scope t = breaks_first (table_at braid order (stop_in braid scope) (degrees_in braid scope)) t

-- where the table does
pub table_breaks : (braid : BraidValue) (order : List ℕ) (scope : Scope) (g : GradedValue) (stop : Option Stop) {start mid now : Written} {cause : Break} → IsEnded braid (in_brief scope) g stop → Takes (pieces_due braid order (in_brief scope)) start mid →
    BreaksIn (table_at g.braid order stop (range_with_len 0 (suc g.last))) mid now cause → Writes (table_due braid order scope) start now (Err cause)
unfolding table_due
table_breaks braid order scope g stop {start} {mid} {now} {cause} is before t = breaks_more before (subst (λ ps. BreaksIn ps mid now cause) (table_is braid order scope g stop is) t)

pub table_whole : (braid : BraidValue) (order : List ℕ) (scope : Scope) (g : GradedValue) (stop : Option Stop) {start mid now : Written} (status : Status) → IsEnded braid (in_brief scope) g stop → status ≡ status_of stop → Takes (pieces_due braid order (in_brief scope)) start mid →
    Takes (table_at g.braid order stop (range_with_len 0 (suc g.last))) mid now → Writes (table_due braid order scope) start now (Ok status)
unfolding table_due
table_whole braid order scope g stop {start} {mid} {now} status is answer before t =
    (answer ∙ ap status_of is.stop_is, takes_more before (subst (λ ps. Takes ps mid now) (table_is braid order scope g stop is) t))
