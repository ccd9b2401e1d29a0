use Rattle.std.proofs.Common.{◌≡◌, ◌≤◌, ◌<◌, ◌-◌, [], ℕ, suc, arith, sym, ◌∙◌, ap, subst, get_or, length}
use Rattle.nichols_field.specs.Field.{FieldValue, IsElement}
use Rattle.nichols_tensor.specs.Combination.{AllElements}
use Rattle.nichols_tensor.specs.WordOrder.{IsRising}
use Rattle.std.specs.List.{AllByRecursion}
use Rattle.nichols_field.proofs.FieldLaws.{one_is_element}
use Rattle.nichols_braid.specs.Product.{product_before}
use Rattle.nichols_echelon.specs.Cells.{AllBelow}
use Rattle.nichols_echelon.specs.Cells.{AllElements as AllCellsElements}
use Rattle.nichols_value.specs.Block.{lower_basis}
use Rattle.nichols_value.specs.Rule.{below_in, derivs_in, right_in}
use Rattle.nichols_value.proofs.Blocks.{lower_basis_rises}
use Rattle.nichols_value.proofs.FormCells.{form_cells_elements}
use Rattle.nichols_value.proofs.RuleEntries.{derivative_in_order}
use Rattle.nichols_block.proofs.SpotsBelow.{columns_there, derivative_cells, derivative_there, others_at_spot, own_at_spot, right_elements, rule_words, spot_place, spot_within}
use Rattle.nichols_block.proofs.derivatives.add_derivative.Goals as goal

pub derivative_row-requires-clause-place : goal.derivative_row-requires-clause-place
derivative_row-requires-clause-place c =
    let next : suc (c.args.key.now.degree - 1) ≡ c.args.key.now.degree = omega (arith, c.requires.block.some) in
    derivative_there c.args.braid.now (c.args.key.now.degree - 1) c.args.key.now.degree c.args.key.now.product c.args.spot c.args.own.now c.args.a next c.requires.spot c.requires.own c.requires.letter

pub add_right_rows-requires-clause-elements : goal.add_right_rows-requires-clause-elements
add_right_rows-requires-clause-elements c =
    let next : suc (c.args.key.now.degree - 1) ≡ c.args.key.now.degree = omega (arith, c.requires.block.some) in
    subst (λ (k : FieldValue). AllCellsElements k c.derivative_row.result.now) (sym c.field-field.ensures.field)
    (form_cells_elements c.args.braid.now.field (below_in c.args.own.now c.args.a) (get_or (derivs_in c.args.own.now c.args.a) c.args.spot.place []) c.derivative_row.result.now
    (derivative_in_order c.args.braid.now c.field-field.ensures.braid (c.args.key.now.degree - 1) (product_before c.args.braid.now c.args.spot.letter c.args.key.now.product) c.args.own.now c.requires.own c.args.a c.requires.letter c.args.spot.place
    (spot_within c.args.braid.now (c.args.key.now.degree - 1) c.args.key.now.degree c.args.key.now.product c.args.spot next c.requires.spot)).elements
    c.derivative_row.ensures)

pub add_right_rows-requires-clause-rising : goal.add_right_rows-requires-clause-rising
add_right_rows-requires-clause-rising c =
    let next : suc (c.args.key.now.degree - 1) ≡ c.args.key.now.degree = omega (arith, c.requires.block.some) in
    subst IsRising (sym (rule_words c.args.braid.now (c.args.key.now.degree - 1) c.args.key.now.degree c.args.key.now.product c.args.rule.now c.args.a next c.requires.rule)) (lower_basis_rises c.args.braid.now c.args.key.now.degree c.args.key.now.product c.args.a)

pub add_right_rows-requires-clause-columns : goal.add_right_rows-requires-clause-columns
add_right_rows-requires-clause-columns c =
    let next : suc (c.args.key.now.degree - 1) ≡ c.args.key.now.degree = omega (arith, c.requires.block.some) in
    subst (λ (n : ℕ). AllBelow n c.derivative_row.result.now)
    (columns_there c.args.braid.now c.field-field.ensures.braid (c.args.key.now.degree - 1) c.args.key.now.product c.args.rule.now c.args.a c.args.spot.letter c.requires.rule c.requires.letter c.requires.last ∙ ap (λ (n : ℕ). length (right_in c.args.rule.now n)) (sym c.act-c.ensures.value))
    (derivative_cells c.args.braid.now (c.args.key.now.degree - 1) c.args.key.now.degree c.args.key.now.product c.args.spot c.args.own.now c.args.a c.derivative_row.result.now next c.requires.spot c.requires.own c.requires.letter c.derivative_row.ensures).below

pub add_right_rows-requires-clause-forms : goal.add_right_rows-requires-clause-forms
add_right_rows-requires-clause-forms c =
    subst (λ (k : FieldValue). AllByRecursion (AllElements k) (right_in c.args.rule.now c.act-c.result)) (sym c.field-field.ensures.field)
    (right_elements c.args.braid.now c.field-field.ensures.braid (c.args.key.now.degree - 1) (product_before c.args.braid.now c.args.a c.args.key.now.product) c.args.rule.now c.act-c.result c.requires.rule c.act-c.ensures.letter)

pub add_right_rows-requires-clause-width : goal.add_right_rows-requires-clause-width
add_right_rows-requires-clause-width c =
    let next : suc (c.args.key.now.degree - 1) ≡ c.args.key.now.degree = omega (arith, c.requires.block.some) in
    subst (λ ws. length ws ≤ length c.args.sums.now) (sym (rule_words c.args.braid.now (c.args.key.now.degree - 1) c.args.key.now.degree c.args.key.now.product c.args.rule.now c.args.a next c.requires.rule)) c.requires.width

pub put-requires-clause-element : goal.put-requires-clause-element
put-requires-clause-element c = subst (λ (k : FieldValue). IsElement k 1) (sym c.field-field.ensures.field) (one_is_element c.args.braid.now.field c.field-field.ensures.braid.field)

pub put-requires-clause-below : goal.put-requires-clause-below
put-requires-clause-below c =
    let less : c.args.spot.place < length (lower_basis c.args.braid.now c.args.key.now.degree c.args.key.now.product c.args.a) =
    subst (λ (l : ℕ). c.args.spot.place < length (lower_basis c.args.braid.now c.args.key.now.degree c.args.key.now.product l)) (sym c.if-a-spot.true) (spot_place c.args.braid.now c.args.key.now.degree c.args.key.now.product c.args.spot c.requires.spot) in
    omega (arith, c.requires.width, c.add_right_rows.ensures.width)

pub returns-then-a-spot-clause-sums : goal.returns-then-a-spot-clause-sums
returns-then-a-spot-clause-sums c =
    own_at_spot c.args.braid.now (c.args.key.now.degree - 1) c.args.key.now.degree c.args.key.now.product c.args.a c.args.spot c.args.rule.now c.args.own.now
    (record { braid = c.field-field.ensures.braid; next = omega (arith, c.requires.block.some); letter = c.requires.letter; spot = c.requires.spot; above = c.requires.rule; below = c.requires.own }) c.field-field.result c.scalar-by.result c.act-c.result
    c.derivative_row.result.now c.add_right_rows.new.sums c.put.new.self c.field-field.ensures.field c.scalar-by.ensures.value c.act-c.ensures.value c.derivative_row.ensures c.add_right_rows.ensures.sums c.if-a-spot.true c.put.ensures.here
    c.put.ensures.elsewhere

pub returns-else-a-spot-clause-sums : goal.returns-else-a-spot-clause-sums
returns-else-a-spot-clause-sums c =
    others_at_spot c.args.braid.now (c.args.key.now.degree - 1) c.args.key.now.degree c.args.key.now.product c.args.a c.args.spot c.args.rule.now c.args.own.now
    (record { braid = c.field-field.ensures.braid; next = omega (arith, c.requires.block.some); letter = c.requires.letter; spot = c.requires.spot; above = c.requires.rule; below = c.requires.own }) c.field-field.result c.scalar-by.result c.act-c.result
    c.derivative_row.result.now c.add_right_rows.new.sums c.field-field.ensures.field c.scalar-by.ensures.value c.act-c.ensures.value c.derivative_row.ensures c.add_right_rows.ensures.sums c.if-a-spot.false
