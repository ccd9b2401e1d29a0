use Rattle.std.proofs.Common.{sym, ◌∙◌, subst}
use Rattle.std.proofs.lemmas.Result.{IfOk-weaker}
use Rattle.std.specs.List.Sorted.{IsStrictlyIncreasing}
use Rattle.nichols_echelon.specs.Combination.{AllRowsBelow}
use Rattle.nichols_echelon.specs.Split.{IsSplit}
use Rattle.nichols_echelon.proofs.Numbers.{rows_shape, rows_below, rows_elements, split_to_rows}
use Rattle.nichols_echelon.proofs.split_flat_rows.Goals as goal

pub split_whole-requires-2-clause-shape : goal.split_whole-requires-2-clause-shape
split_whole-requires-2-clause-shape c =
    rows_shape c.as_slice.result.now (subst IsStrictlyIncreasing (sym c.as_slice.ensures.value) c.in_ok-columns.ensures.rising) c.args.rows.now.rows c.in_ok-numbered.numbered.rows c.in_ok-numbered.ensures.numbered c.requires.shape

pub split_whole-requires-2-clause-elements : goal.split_whole-requires-2-clause-elements
split_whole-requires-2-clause-elements c = rows_elements c.args.field c.as_slice.result.now c.args.rows.now.rows c.in_ok-numbered.numbered.rows c.in_ok-numbered.ensures.numbered c.requires.elements

pub split_whole-requires-2-clause-below : goal.split_whole-requires-2-clause-below
split_whole-requires-2-clause-below c =
    subst (λ n. AllRowsBelow n c.in_ok-numbered.numbered.rows) (c.as_slice.ensures.len ∙ sym c.len-2.ensures)
    (rows_below c.as_slice.result.now c.args.rows.now.rows c.in_ok-numbered.numbered.rows c.in_ok-numbered.ensures.numbered)

pub returns : goal.returns
returns c =
    IfOk-weaker c.split_whole-2.result (λ places. IsSplit c.args.field c.in_ok-numbered.numbered.rows places.items) (λ places. IsSplit c.args.field c.args.rows.now.rows places.items)
    (λ places split.
    split_to_rows c.args.field c.modulus-modulus.ensures.field c.as_slice.result.now (subst IsStrictlyIncreasing (sym c.as_slice.ensures.value) c.in_ok-columns.ensures.rising) c.args.rows.now.rows c.in_ok-numbered.numbered.rows
    c.in_ok-numbered.ensures.numbered places.items split)
    c.split_whole-2.ensures
