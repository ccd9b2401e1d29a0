use Rattle.std.proofs.Common.{◌≡◌, ◌^◌, ◌<◌, ◌∙◌, length, sym, ap, ap₂, subst}
use Rattle.std.proofs.lemmas.List.Elements.{All-from_recursion}
use Rattle.nichols_field.specs.Field.{IsElement}
use Rattle.nichols_field.proofs.FieldLaws.{one_is_element}
use Rattle.nichols_tensor.specs.Combination.{Term}
use Rattle.nichols_tensor.specs.Words.{HasDegree}
use Rattle.nichols_echelon.specs.Cells.{IsRow}
use Rattle.nichols_plain.specs.Columns.{row_of}
use Rattle.nichols_plain.proofs.Numbers.{row_of_is_row}
use Rattle.nichols_plain.proofs.Steps.{row_is, row_elements, row_entries}
use Rattle.nichols_plain.proofs.images.image_row.Goals.{After-drop-single-inside-2}
use Rattle.nichols_plain.proofs.images.image_row.Goals as goal

pub single-requires : goal.single-requires
single-requires c = subst (λ k. IsElement k 1) (sym c.field-field.ensures.field) (one_is_element c.args.braid.now.field c.field-field.ensures.braid.field)

pub column_of-requires-clause-columns : goal.column_of-requires-clause-columns
column_of-requires-clause-columns c =
    let degree : HasDegree (length c.args.word.now) c.terms-term-items.result.now =
    subst (HasDegree (length c.args.word.now)) (sym c.terms-term-items.ensures.same) (c.in_ok-image.ensures.degree (length c.args.word.now) c.in_ok-single.ensures.degree) in
    let size : length c.term.inside.word ≡ length c.args.word.now =
    ap (λ (t : Term). length t.word) (c.term.view_is ∙ c.term-item.is)
    ∙ All-from_recursion (λ (t : Term). length t.word ≡ length c.args.word.now) c.terms-term-items.result.now degree c.loop-term.term-index c.term-item.result c.loop-term-test.true in
    subst (λ e. e < 2 ^ 32) (sym (ap₂ (λ n l. n ^ l) c.letters.ensures size)) c.requires.columns

pub of-requires : goal.of-requires
of-requires c =
    let cells : c.loop-term.cells.items ≡ row_of c.args.braid.now.letters c.in_ok-image.image =
    row_is c.args.braid.now.letters 0 c.loop-term.cells.items c.terms-term-items.result.now c.in_ok-image.image c.loop-term.term-index c.terms-term-items.ensures.same c.loop-term-test.false c.loop-term.invariant in
    subst IsRow (sym cells)
    (row_of_is_row c.args.braid.now.letters (length c.args.word.now) c.in_ok-image.image (c.in_ok-image.ensures.degree (length c.args.word.now) c.in_ok-single.ensures.degree) c.in_ok-image.ensures.letters
    c.in_ok-image.ensures.shape.rising c.in_ok-image.ensures.shape.nonzero)

row : (c : After-drop-single-inside-2) → c.of.result ≡ row_of c.args.braid.now.letters c.in_ok-image.image
row c =
    c.of.ensures
    ∙ row_is c.args.braid.now.letters 0 c.loop-term.cells.items c.terms-term-items.result.now c.in_ok-image.image c.loop-term.term-index c.terms-term-items.ensures.same c.loop-term-test.false c.loop-term.invariant

pub returns-clause-entries : goal.returns-clause-entries
returns-clause-entries c =
    row_entries c.args.braid.now c.field-field.ensures.braid c.args.word.now c.in_ok-single.single c.in_ok-image.image c.of.result c.in_ok-single.ensures.terms c.in_ok-image.ensures.elements c.in_ok-image.ensures.value (row c)

pub returns-clause-elements : goal.returns-clause-elements
returns-clause-elements c = row_elements c.args.braid.now.field c.args.braid.now.letters c.of.result c.in_ok-image.image (row c) c.in_ok-image.ensures.elements
