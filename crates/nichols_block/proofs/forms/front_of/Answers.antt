use Rattle.std.proofs.Common.{◌-◌, arith, length, refl}
use Rattle.std.specs.Prelude.{slice_index}
use Rattle.nichols_braid.specs.Product.{product_before}
use Rattle.nichols_block.proofs.EndPlaces.{back_some, back_there, block_before, front_is_there, has_upper, last_letter}
use Rattle.nichols_block.proofs.forms.front_of.Goals as goal

pub unreachable-requires : goal.unreachable-requires
unreachable-requires c = back_some c.args.braid.now c.args.key.now.degree c.args.key.now.product c.args.word.now c.args.c c.args.place (omega (arith, c.requires.long, c.requires.word.size)) c.requires.word c.requires.words c.requires.place c.in_default.ensures

pub ends-requires-clause-kept : goal.ends-requires-clause-kept
ends-requires-clause-kept c = has_upper c.args.braid.now (c.args.key.now.degree - 1) (product_before c.args.braid.now c.args.c c.args.key.now.product) c.in-Some.own.now c.in-Some.ensures

pub ends-requires-clause-place : goal.ends-requires-clause-place
ends-requires-clause-place c = (back_there c.args.braid.now c.args.key.now.degree c.args.key.now.product c.args.word.now c.in-Some.own.now c.args.c c.args.place (omega (arith, c.requires.long, c.requires.word.size)) c.requires.word c.requires.words c.in-Some.ensures c.requires.place).0

pub returns-clause-below : goal.returns-clause-below
returns-clause-below c =
    (front_is_there c.args.braid.now c.field-field.ensures.braid c.args.key.now.degree c.args.key.now.product c.args.word.now c.in-Some.own.now (slice_index c.args.word.now (length c.args.word.now - 1)) c.args.c c.args.place c.ends.result (omega (arith, c.requires.long, c.requires.word.size))
    (block_before c.args.braid.now c.field-field.ensures.braid c.args.key.now.degree c.args.key.now.product c.args.word.now (slice_index c.args.word.now (length c.args.word.now - 1)) (omega (arith, c.requires.long, c.requires.word.size)) c.requires.word refl (last_letter c.args.braid.now c.args.key.now.degree c.args.key.now.product c.args.word.now (slice_index c.args.word.now (length c.args.word.now - 1)) (omega (arith, c.requires.long, c.requires.word.size)) c.requires.word refl)) c.requires.word refl
    (last_letter c.args.braid.now c.args.key.now.degree c.args.key.now.product c.args.word.now (slice_index c.args.word.now (length c.args.word.now - 1)) (omega (arith, c.requires.long, c.requires.word.size)) c.requires.word refl) c.requires.letter c.requires.sent c.in-Some.ensures
    (back_there c.args.braid.now c.args.key.now.degree c.args.key.now.product c.args.word.now c.in-Some.own.now c.args.c c.args.place (omega (arith, c.requires.long, c.requires.word.size)) c.requires.word c.requires.words c.in-Some.ensures c.requires.place).1 c.ends.ensures).0

pub returns-clause-place : goal.returns-clause-place
returns-clause-place c =
    (front_is_there c.args.braid.now c.field-field.ensures.braid c.args.key.now.degree c.args.key.now.product c.args.word.now c.in-Some.own.now (slice_index c.args.word.now (length c.args.word.now - 1)) c.args.c c.args.place c.ends.result (omega (arith, c.requires.long, c.requires.word.size))
    (block_before c.args.braid.now c.field-field.ensures.braid c.args.key.now.degree c.args.key.now.product c.args.word.now (slice_index c.args.word.now (length c.args.word.now - 1)) (omega (arith, c.requires.long, c.requires.word.size)) c.requires.word refl (last_letter c.args.braid.now c.args.key.now.degree c.args.key.now.product c.args.word.now (slice_index c.args.word.now (length c.args.word.now - 1)) (omega (arith, c.requires.long, c.requires.word.size)) c.requires.word refl)) c.requires.word refl
    (last_letter c.args.braid.now c.args.key.now.degree c.args.key.now.product c.args.word.now (slice_index c.args.word.now (length c.args.word.now - 1)) (omega (arith, c.requires.long, c.requires.word.size)) c.requires.word refl) c.requires.letter c.requires.sent c.in-Some.ensures
    (back_there c.args.braid.now c.args.key.now.degree c.args.key.now.product c.args.word.now c.in-Some.own.now c.args.c c.args.place (omega (arith, c.requires.long, c.requires.word.size)) c.requires.word c.requires.words c.in-Some.ensures c.requires.place).1 c.ends.ensures).1
