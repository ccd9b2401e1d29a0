use Rattle.std.proofs.Common.{◌≡◌, ◌+◌, ◌<◌, ◌≤◌, ℕ, suc, List, Some, get_or, length, map, sym, ◌∙◌, ap, subst, arith}
use Rattle.std.specs.List.{Contains}
use Rattle.std.proofs.lemmas.List.{length-map}
use Rattle.nichols_tensor.proofs.Rising.{word_at_is_in}
use Rattle.nichols_braid.specs.Kernel.{is_killed}
use Rattle.nichols_braid.specs.Products.{rows}
use Rattle.nichols_braid.proofs.NextProducts.{products_size}
use Rattle.nichols_graded.specs.declared.ends.Stop.TheVariants.{Rows}
use Rattle.nichols_graded.proofs.RowStops.{row_at, row_over, row_within, rows_end}
use Rattle.nichols_graded.proofs.ahead.first_over.Goals as goal

pub row_count-count-requires-clause-product : goal.row_count-count-requires-clause-product
row_count-count-requires-clause-product c =
    let less : c.loop-k.k < length c.args.next.now = omega arith in
    products_size c.args.braid.now (suc c.args.degree) c.at.result.now
    (subst (λ gs. Contains gs c.at.result.now) c.requires.next (subst (Contains c.args.next.now) (sym c.at.ensures) (word_at_is_in c.args.next.now c.loop-k.k less)))

pub returns-then-count-from : goal.returns-then-count-from
returns-then-count-from c =
    let f : List ℕ → ℕ = rows is_killed c.args.braid.now (suc c.args.degree) in
    let counts : List ℕ = map f c.args.next.now in
    let k = c.loop-k.k in
    let limit = c.from.ensures in
    let over = c.if-count-from.true in
    let less : k < length c.args.next.now = omega arith in
    let size = length-map c.args.next.now f in
    let is : c.row_count-count.result ≡ get_or counts k 0 = c.row_count-count.ensures ∙ ap f c.at.ensures ∙ sym (row_at f c.args.next.now k less) in
    let next : suc c.args.degree ≡ c.args.degree + 1 = omega arith in
    sym (c.loop-k.invariant
    ∙ row_over c.args.limit (suc c.args.degree) k (k + 1) counts (omega (arith, less, size)) (omega (arith, limit, over, is)) (omega arith)
    ∙ ap (λ m. Some (Rows m (k + 1) (get_or counts k 0))) next
    ∙ ap (λ n. Some (Rows (c.args.degree + 1) (k + 1) n)) (sym is))

pub loop-k-preserved : goal.loop-k-preserved
loop-k-preserved c =
    let f : List ℕ → ℕ = rows is_killed c.args.braid.now (suc c.args.degree) in
    let counts : List ℕ = map f c.args.next.now in
    let k = c.loop-k.k in
    let limit = c.from.ensures in
    let few = c.if-count-from.false in
    let less : k < length c.args.next.now = omega arith in
    let size = length-map c.args.next.now f in
    let is : c.row_count-count.result ≡ get_or counts k 0 = c.row_count-count.ensures ∙ ap f c.at.ensures ∙ sym (row_at f c.args.next.now k less) in
    c.loop-k.invariant ∙ row_within c.args.limit (suc c.args.degree) k counts (omega (arith, less, size)) (omega (arith, limit, few, is))

pub returns : goal.returns
returns c =
    let f : List ℕ → ℕ = rows is_killed c.args.braid.now (suc c.args.degree) in
    let size = length-map c.args.next.now f in
    let past : length c.args.next.now ≤ c.loop-k.k = omega arith in
    sym (c.loop-k.invariant ∙ rows_end c.args.limit (suc c.args.degree) c.loop-k.k (map f c.args.next.now) (omega (arith, past, size)))
