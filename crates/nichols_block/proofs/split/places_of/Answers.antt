use Rattle.std.proofs.Common.{◌∙◌, arith, subst, sym}
use Rattle.std.proofs.lemmas.Result.{IfOk-weaker}
use Rattle.nichols_field.specs.Field.{FieldValue}
use Rattle.nichols_echelon.specs.Combination.{AllRowsBelow, AllRowsElements}
use Rattle.nichols_echelon.specs.Parts.{joined_rows}
use Rattle.nichols_echelon.specs.Split.{IsSplit}
use Rattle.nichols_block.specs.NewRows.{AreOffsets}
use Rattle.nichols_block.proofs.FlatRows.{by_letter_at, new_places_say, new_rows_fit, new_rows_joined, new_rows_parts}
use Rattle.nichols_block.proofs.split.places_of.Goals as goal

pub split_parts-requires-clause-parts : goal.split_parts-requires-clause-parts
split_parts-requires-clause-parts c =
    new_rows_parts c.args.braid.now c.args.key.now.degree c.args.key.now.product c.as_slice.result.now
    (subst (AreOffsets c.args.braid.now c.args.key.now.degree c.args.key.now.product) (sym c.as_slice.ensures.value) c.in_ok-offsets.ensures.offsets) c.args.derivs.now c.requires.derivs c.len-count.result
    (c.len-count.ensures ∙ (by_letter_at c.args.braid.now c.args.key.now.degree c.args.key.now.product c.args.derivs.now c.requires.derivs 0 c.index-derivs-0.result (omega (arith, c.requires.derivs.letters, c.field-field.ensures.braid.least)) c.index-derivs-0.is).count)

pub split_parts-requires-clause-shape : goal.split_parts-requires-clause-shape
split_parts-requires-clause-shape c =
    (new_rows_fit c.args.braid.now c.field-field.ensures.braid c.args.key.now.degree c.args.key.now.product c.args.derivs.now (joined_rows c.args.derivs.now c.as_slice.result.now c.len-count.result) c.requires.block.some c.requires.derivs (new_rows_joined c.args.braid.now c.args.key.now.degree c.args.key.now.product c.as_slice.result.now (subst (AreOffsets c.args.braid.now c.args.key.now.degree c.args.key.now.product) (sym c.as_slice.ensures.value) c.in_ok-offsets.ensures.offsets) c.args.derivs.now c.requires.derivs c.len-count.result (c.len-count.ensures ∙ (by_letter_at c.args.braid.now c.args.key.now.degree c.args.key.now.product c.args.derivs.now c.requires.derivs 0 c.index-derivs-0.result (omega (arith, c.requires.derivs.letters, c.field-field.ensures.braid.least)) c.index-derivs-0.is).count))).shape

pub split_parts-requires-clause-elements : goal.split_parts-requires-clause-elements
split_parts-requires-clause-elements c =
    subst (λ (k : FieldValue). AllRowsElements k (joined_rows c.args.derivs.now c.as_slice.result.now c.len-count.result)) (sym c.field-field.ensures.field)
    (new_rows_fit c.args.braid.now c.field-field.ensures.braid c.args.key.now.degree c.args.key.now.product c.args.derivs.now (joined_rows c.args.derivs.now c.as_slice.result.now c.len-count.result) c.requires.block.some c.requires.derivs (new_rows_joined c.args.braid.now c.args.key.now.degree c.args.key.now.product c.as_slice.result.now (subst (AreOffsets c.args.braid.now c.args.key.now.degree c.args.key.now.product) (sym c.as_slice.ensures.value) c.in_ok-offsets.ensures.offsets) c.args.derivs.now c.requires.derivs c.len-count.result (c.len-count.ensures ∙ (by_letter_at c.args.braid.now c.args.key.now.degree c.args.key.now.product c.args.derivs.now c.requires.derivs 0 c.index-derivs-0.result (omega (arith, c.requires.derivs.letters, c.field-field.ensures.braid.least)) c.index-derivs-0.is).count))).elements

pub split_parts-requires-clause-below : goal.split_parts-requires-clause-below
split_parts-requires-clause-below c =
    subst (λ n. AllRowsBelow n (joined_rows c.args.derivs.now c.as_slice.result.now c.len-count.result)) (sym c.in_ok-offsets.ensures.all)
    (new_rows_fit c.args.braid.now c.field-field.ensures.braid c.args.key.now.degree c.args.key.now.product c.args.derivs.now (joined_rows c.args.derivs.now c.as_slice.result.now c.len-count.result) c.requires.block.some c.requires.derivs (new_rows_joined c.args.braid.now c.args.key.now.degree c.args.key.now.product c.as_slice.result.now (subst (AreOffsets c.args.braid.now c.args.key.now.degree c.args.key.now.product) (sym c.as_slice.ensures.value) c.in_ok-offsets.ensures.offsets) c.args.derivs.now c.requires.derivs c.len-count.result (c.len-count.ensures ∙ (by_letter_at c.args.braid.now c.args.key.now.degree c.args.key.now.product c.args.derivs.now c.requires.derivs 0 c.index-derivs-0.result (omega (arith, c.requires.derivs.letters, c.field-field.ensures.braid.least)) c.index-derivs-0.is).count))).below

pub returns : goal.returns
returns c =
    IfOk-weaker c.split_parts.result _ _
    (λ places split.
    new_places_say c.args.braid.now c.field-field.ensures.braid c.args.key.now.degree c.args.key.now.product c.args.derivs.now (joined_rows c.args.derivs.now c.as_slice.result.now c.len-count.result) places.items c.requires.block.some c.requires.derivs
    (new_rows_joined c.args.braid.now c.args.key.now.degree c.args.key.now.product c.as_slice.result.now (subst (AreOffsets c.args.braid.now c.args.key.now.degree c.args.key.now.product) (sym c.as_slice.ensures.value) c.in_ok-offsets.ensures.offsets) c.args.derivs.now c.requires.derivs c.len-count.result (c.len-count.ensures ∙ (by_letter_at c.args.braid.now c.args.key.now.degree c.args.key.now.product c.args.derivs.now c.requires.derivs 0 c.index-derivs-0.result (omega (arith, c.requires.derivs.letters, c.field-field.ensures.braid.least)) c.index-derivs-0.is).count))
    (subst (λ (k : FieldValue). IsSplit k (joined_rows c.args.derivs.now c.as_slice.result.now c.len-count.result) places.items) c.field-field.ensures.field split))
    c.split_parts.ensures
