use Rattle.std.proofs.Common.{◌≡◌, ◌<◌, ℕ, List, ◌++◌, ◌+◌, sym, ◌∙◌, ap, subst, arith, length, drop, append_assoc}
use Rattle.std.proofs.lemmas.List.{append-nil}
use Rattle.std.proofs.lemmas.List.Filters.{dedup_is}
use Rattle.std.proofs.lemmas.List.Kept.{Contains-dedup_nat}
use Rattle.std.proofs.lemmas.List.Sorted.{Contains-permutation}
use Rattle.std.proofs.lemmas.Map.Keys.{IsStrictlyIncreasing-dedup}
use Rattle.std.specs.List.{Contains}
use Rattle.nichols_echelon.specs.Cells.{Cell, columns_of}
use Rattle.nichols_echelon.specs.Combination.{row_at}
use Rattle.nichols_echelon.specs.Numbering.{all_columns}
use Rattle.nichols_echelon.proofs.Numbers.{all_columns-drop, all_columns-none, all_listed}
use Rattle.nichols_echelon.proofs.numbering.occurring_columns.Goals as goal

next_row : (rows : List (List Cell)) (i : ℕ) (cells : List Cell) (old new : List ℕ) → i < length rows → row_at rows i ≡ cells → new ≡ old ++ columns_of cells → old ++ all_columns (drop i rows) ≡ all_columns rows →
    new ++ all_columns (drop (i + 1) rows) ≡ all_columns rows
next_row rows i cells old new inside read n e =
    ap (λ (xs : List ℕ). xs ++ all_columns (drop (i + 1) rows)) (n ∙ ap (λ (cs : List Cell). old ++ columns_of cs) (sym read))
    ∙ append_assoc old (columns_of (row_at rows i)) (all_columns (drop (i + 1) rows)) ∙ ap (λ (xs : List ℕ). old ++ xs) (sym (all_columns-drop rows i inside)) ∙ e

pub loop-k-preserved : goal.loop-k-preserved
loop-k-preserved c =
    let inside : c.loop-k.k < length c.args.rows.now.rows = omega arith in
    next_row c.args.rows.now.rows c.loop-k.k c.row.result.now c.loop-k.columns.items c.add_columns.new.columns.items inside (sym c.row.ensures) c.in_ok-add_columns.ensures c.loop-k.invariant

pub returns-clause-rising : goal.returns-clause-rising
returns-clause-rising c = rw (dedup_is _ _ _ c.dedup.ensures.filtered) (IsStrictlyIncreasing-dedup _ c.sort_unstable.ensures.sorted)

pub returns-clause-all : goal.returns-clause-all
returns-clause-all c =
    all_listed c.dedup.new.self.items c.args.rows.now.rows
    (λ x h.
    rw (dedup_is _ _ _ c.dedup.ensures.filtered)
    (Contains-dedup_nat _ x
    (Contains-permutation _ _ x c.sort_unstable.ensures.permutation
    (subst (λ (xs : List ℕ). Contains xs x)
    (sym c.loop-k.invariant ∙ ap (λ (xs : List ℕ). c.loop-k.columns.items ++ xs) (all_columns-none c.args.rows.now.rows c.loop-k.k (omega arith)) ∙ append-nil c.loop-k.columns.items) h))))
