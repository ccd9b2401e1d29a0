use Rattle.std.proofs.Common.{◌≡◌, ◌<◌, ◌+◌, ◌∙◌, ap, arith, length, get_or, take_all, ℕ, List}
use Rattle.nichols_field.specs.Field.{plus, times, element_of_sum}
use Rattle.nichols_echelon.specs.Cells.{AllBelow, Cell, entry}
use Rattle.nichols_echelon.specs.Parts.{cells_behind}
use Rattle.nichols_echelon.specs.Sums.{sum_at}
use Rattle.nichols_echelon.proofs.CellsBehind.{behind_below, behind_count, behind_read}
use Rattle.nichols_echelon.proofs.Summing.{scatter_start, scatter_more, word_inside}
use Rattle.nichols_echelon.proofs.sums.scatter.Goals as goal

pub loop-cell-init : goal.loop-cell-init
loop-cell-init c = scatter_start c.args.field c.modulus-modulus.ensures.field c.args.by (cells_behind c.args.offset c.args.cells.now) c.args.values.now c.args.marks.now c.requires.marked

-- the place of a cell that was read
inside : (n m offset : ℕ) (cells : List Cell) (i : ℕ) (c : Cell) (column : ℕ) → i < length cells → c ≡ get_or cells i c → column ≡ c.column → m ≡ n → AllBelow n (cells_behind offset cells) → offset + column < m
inside n m offset cells i c column less read same width below = let here : offset + c.column < n = behind_below n offset cells i c less read below in omega (arith, here, same, width)

pub bounds-values-place : goal.bounds-values-place
bounds-values-place c = inside (length c.args.values.now) (length c.loop-cell.values) c.args.offset c.args.cells.now c.loop-cell.cell-index c.cell-item.result c.cell.inside.column (omega arith) c.cell-item.is (ap (λ (d : Cell). d.column) c.cell.view_is) c.loop-cell.auto.values c.requires.below

pub bounds-values-place-in-loop-cell : goal.bounds-values-place-in-loop-cell
bounds-values-place-in-loop-cell c = inside (length c.args.values.now) (length c.loop-cell.values) c.args.offset c.args.cells.now c.loop-cell.cell-index c.cell-item.result c.cell.inside.column (omega arith) c.cell-item.is (ap (λ (d : Cell). d.column) c.cell.view_is) c.loop-cell.auto.values c.requires.below

pub bounds-marks-place : goal.bounds-marks-place
bounds-marks-place c =
    word_inside (c.args.offset + c.cell.inside.column) (length c.loop-cell.values) (length c.loop-cell.marks)
    (inside (length c.args.values.now) (length c.loop-cell.values) c.args.offset c.args.cells.now c.loop-cell.cell-index c.cell-item.result c.cell.inside.column (omega arith) c.cell-item.is (ap (λ (d : Cell). d.column) c.cell.view_is) c.loop-cell.auto.values c.requires.below)
    c.loop-cell.invariant.marked.wide

pub bounds-marks-place-in-loop-cell : goal.bounds-marks-place-in-loop-cell
bounds-marks-place-in-loop-cell c =
    word_inside (c.args.offset + c.cell.inside.column) (length c.loop-cell.values) (length c.loop-cell.marks)
    (inside (length c.args.values.now) (length c.loop-cell.values) c.args.offset c.args.cells.now c.loop-cell.cell-index c.cell-item.result c.cell.inside.column (omega arith) c.cell-item.is (ap (λ (d : Cell). d.column) c.cell.view_is) c.loop-cell.auto.values c.requires.below)
    c.loop-cell.invariant.marked.wide

pub loop-cell-preserved : goal.loop-cell-preserved
loop-cell-preserved c =
    let read : c.cell-item.result ≡ get_or c.args.cells.now c.loop-cell.cell-index c.cell-item.result = c.cell-item.is in
    let column : c.cell.inside.column ≡ c.cell-item.result.column = ap (λ (d : Cell). d.column) c.cell.view_is in
    let below : c.args.offset + c.cell.inside.column < length c.loop-cell.values =
    inside (length c.args.values.now) (length c.loop-cell.values) c.args.offset c.args.cells.now c.loop-cell.cell-index c.cell-item.result c.cell.inside.column (omega arith) read column c.loop-cell.auto.values c.requires.below in
    scatter_more c.args.field c.modulus-modulus.ensures.field c.args.by (cells_behind c.args.offset c.args.cells.now) c.args.values.now c.loop-cell.values c.loop-cell.marks c.loop-cell.cell-index
    (record { column = c.args.offset + c.cell-item.result.column; coefficient = c.cell-item.result.coefficient }) (c.args.offset + c.cell.inside.column) c.add_product_to.result
    (omega (arith, behind_count c.args.offset c.args.cells.now)) (behind_read c.args.offset c.args.cells.now c.loop-cell.cell-index c.cell-item.result (omega arith) read) (ap (λ (n : ℕ). c.args.offset + n) column)
    below
    (c.add_product_to.ensures ∙ ap (plus c.args.field (element_of_sum c.args.field (get_or c.loop-cell.values (c.args.offset + c.cell.inside.column) 0))) (ap (λ (d : Cell). times c.args.field c.args.by d.coefficient) c.cell.view_is)) c.loop-cell.invariant

pub returns-clause-value : goal.returns-clause-value
returns-clause-value c place =
    c.loop-cell.invariant.value place
    ∙ ap (λ (cs : List Cell). plus c.args.field (sum_at c.args.field c.args.values.now place) (times c.args.field c.args.by (entry c.args.field cs place)))
    (take_all c.loop-cell.cell-index (cells_behind c.args.offset c.args.cells.now) (omega (arith, behind_count c.args.offset c.args.cells.now)))
