use Rattle.std.proofs.Common.{◌∙◌, ap, ap₂, length, sym, subst}
use Rattle.nichols_tensor.specs.WordOrder.{IsRising}
use Rattle.nichols_rows.specs.Places.{independent_in}
use Rattle.nichols_value.specs.Block.{left_lower_basis}
use Rattle.nichols_value.proofs.Blocks.{block_basis_rises}
use Rattle.nichols_block.specs.Words.{ends_of}
use Rattle.nichols_block.proofs.LowerRules.{images_of_all}
use Rattle.nichols_block.proofs.NewPlaces.{backs_count, least_ends_are, spots_count}
use Rattle.nichols_block.proofs.RuleParts.{least_words, parts_are_rule, parts_of, parts_shape, parts_upper}
use Rattle.nichols_block.proofs.rule.block_rule.Goals as goal

pub of-requires : goal.of-requires
of-requires c = subst IsRising (sym (least_words _ _ _ _ _ _ _ _ c.in_ok-least.ensures c.as_slice-4.ensures.value c.as_slice-5.ensures.value c.in_ok-new.ensures.words c.in_ok-places.ensures)) (block_basis_rises c.args.braid.now c.args.key.now.degree c.args.key.now.product)

pub new-requires-clause-shape : goal.new-requires-clause-shape
new-requires-clause-shape c = parts_shape _ c.field-field.ensures.braid c.args.key.now c.requires.block.there _ _ _ _ _ _ (parts_of _ c.args.key.now _ _ _ _ _ _ c.requires.block (c.in_ok-basis.ensures ∙ least_words _ _ _ _ _ _ _ _ c.in_ok-least.ensures c.as_slice-4.ensures.value c.as_slice-5.ensures.value c.in_ok-new.ensures.words c.in_ok-places.ensures) c.in_ok-below.ensures c.in_ok-forms.ensures c.in_ok-derivs.ensures)

pub new-requires-clause-upper : goal.new-requires-clause-upper
new-requires-clause-upper c = parts_upper _ c.args.key.now _ _ _ _ _ _ (parts_of _ c.args.key.now _ _ _ _ _ _ c.requires.block (c.in_ok-basis.ensures ∙ least_words _ _ _ _ _ _ _ _ c.in_ok-least.ensures c.as_slice-4.ensures.value c.as_slice-5.ensures.value c.in_ok-new.ensures.words c.in_ok-places.ensures) c.in_ok-below.ensures c.in_ok-forms.ensures c.in_ok-derivs.ensures)

pub returns : goal.returns
returns c = c.new.ensures ∙ parts_are_rule _ c.args.key.now _ _ _ _ _ _ (parts_of _ c.args.key.now _ _ _ _ _ _ c.requires.block (c.in_ok-basis.ensures ∙ least_words _ _ _ _ _ _ _ _ c.in_ok-least.ensures c.as_slice-4.ensures.value c.as_slice-5.ensures.value c.in_ok-new.ensures.words c.in_ok-places.ensures) c.in_ok-below.ensures c.in_ok-forms.ensures c.in_ok-derivs.ensures)

pub least_ends-requires-clause-backs : goal.least_ends-requires-clause-backs
least_ends-requires-clause-backs c =
    backs_count (left_lower_basis c.args.braid.now c.args.key.now.degree c.args.key.now.product) c.in_ok-new.new.words.items c.in_ok-new.new.backs.items c.in_ok-new.ensures.new.backs ∙ sym (spots_count c.args.braid.now c.args.key.now.degree c.args.key.now.product c.in_ok-new.new.words.items c.in_ok-new.new.spots.items c.in_ok-new.new.backs.items c.in_ok-new.ensures.new)

pub new-requires-clause-ends : goal.new-requires-clause-ends
new-requires-clause-ends c =
    least_ends_are c.args.braid.now c.field-field.ensures.braid c.args.key.now.degree c.args.key.now.product c.requires.block.there (images_of_all c.args.braid.now c.args.key.now c.requires.block) c.in_ok-new.new.words.items c.in_ok-new.new.spots.items c.in_ok-new.new.backs.items c.in_ok-places.places.items c.in_ok-below.below.items c.in_ok-basis.basis c.in_ok-ends.ends.items
    c.in_ok-new.ensures.new c.in_ok-below.ensures (c.in_ok-basis.ensures ∙ c.in_ok-least.ensures ∙ ap₂ (λ ws ps. independent_in ws ps) c.as_slice-4.ensures.value c.as_slice-5.ensures.value)
    (c.in_ok-ends.ensures ∙ ap (independent_in (ends_of c.in_ok-new.new.spots.items c.in_ok-new.new.backs.items)) c.as_slice-10.ensures.value)

pub least_derivatives-requires-clause-least : goal.least_derivatives-requires-clause-least
least_derivatives-requires-clause-least c =
    c.len-count.ensures ∙ c.in_ok-least.least.ok.0 ∙ ap length (least_words _ _ _ _ _ _ _ _ c.in_ok-least.ensures c.as_slice-4.ensures.value c.as_slice-5.ensures.value c.in_ok-new.ensures.words c.in_ok-places.ensures)
