use Rattle.std.proofs.Common.{◌-◌, ◌∙◌, ap, arith}
use Rattle.std.specs.Prelude.{slice_index}
use Rattle.nichols_braid.specs.Product.{product_before}
use Rattle.nichols_block.proofs.EndPlaces.{back_is_there, front_some, front_there, has_upper, last_letter}
use Rattle.nichols_block.proofs.forms.back_of.Goals as goal

pub rule_at-requires-clause-letter : goal.rule_at-requires-clause-letter
rule_at-requires-clause-letter c = last_letter c.args.braid.now c.args.key.now.degree c.args.key.now.product c.args.word.now c.letter-b.result (omega (arith, c.requires.long, c.requires.word.size)) c.requires.word (c.letter-b.ensures.value ∙ ap (λ n. slice_index c.args.word.now (n - 1)) c.len.ensures.value)

pub unreachable-requires : goal.unreachable-requires
unreachable-requires c = front_some c.args.braid.now c.args.key.now.degree c.args.key.now.product c.args.word.now c.letter-b.result c.args.place (omega (arith, c.requires.long, c.requires.word.size)) c.requires.word (c.letter-b.ensures.value ∙ ap (λ n. slice_index c.args.word.now (n - 1)) c.len.ensures.value) c.requires.place c.in_default.ensures

pub ends-requires-clause-kept : goal.ends-requires-clause-kept
ends-requires-clause-kept c = has_upper c.args.braid.now (c.args.key.now.degree - 1) (product_before c.args.braid.now c.letter-b.result c.args.key.now.product) c.in-Some.own.now c.in-Some.ensures

pub ends-requires-clause-place : goal.ends-requires-clause-place
ends-requires-clause-place c = (front_there c.args.braid.now c.args.key.now.degree c.args.key.now.product c.args.word.now c.in-Some.own.now c.letter-b.result c.args.place (omega (arith, c.requires.long, c.requires.word.size)) c.requires.word (c.letter-b.ensures.value ∙ ap (λ n. slice_index c.args.word.now (n - 1)) c.len.ensures.value) c.in-Some.ensures c.requires.place).0

pub returns-clause-below : goal.returns-clause-below
returns-clause-below c =
    (back_is_there c.args.braid.now c.field-field.ensures.braid c.args.key.now.degree c.args.key.now.product c.args.word.now c.in-Some.own.now c.letter-b.result c.args.c c.args.place c.ends.result (omega (arith, c.requires.long, c.requires.word.size)) c.requires.word (c.letter-b.ensures.value ∙ ap (λ n. slice_index c.args.word.now (n - 1)) c.len.ensures.value)
    (last_letter c.args.braid.now c.args.key.now.degree c.args.key.now.product c.args.word.now c.letter-b.result (omega (arith, c.requires.long, c.requires.word.size)) c.requires.word (c.letter-b.ensures.value ∙ ap (λ n. slice_index c.args.word.now (n - 1)) c.len.ensures.value)) c.requires.letter c.requires.sent c.in-Some.ensures
    (front_there c.args.braid.now c.args.key.now.degree c.args.key.now.product c.args.word.now c.in-Some.own.now c.letter-b.result c.args.place (omega (arith, c.requires.long, c.requires.word.size)) c.requires.word (c.letter-b.ensures.value ∙ ap (λ n. slice_index c.args.word.now (n - 1)) c.len.ensures.value) c.in-Some.ensures c.requires.place).1 c.ends.ensures).0

pub returns-clause-place : goal.returns-clause-place
returns-clause-place c =
    (back_is_there c.args.braid.now c.field-field.ensures.braid c.args.key.now.degree c.args.key.now.product c.args.word.now c.in-Some.own.now c.letter-b.result c.args.c c.args.place c.ends.result (omega (arith, c.requires.long, c.requires.word.size)) c.requires.word (c.letter-b.ensures.value ∙ ap (λ n. slice_index c.args.word.now (n - 1)) c.len.ensures.value)
    (last_letter c.args.braid.now c.args.key.now.degree c.args.key.now.product c.args.word.now c.letter-b.result (omega (arith, c.requires.long, c.requires.word.size)) c.requires.word (c.letter-b.ensures.value ∙ ap (λ n. slice_index c.args.word.now (n - 1)) c.len.ensures.value)) c.requires.letter c.requires.sent c.in-Some.ensures
    (front_there c.args.braid.now c.args.key.now.degree c.args.key.now.product c.args.word.now c.in-Some.own.now c.letter-b.result c.args.place (omega (arith, c.requires.long, c.requires.word.size)) c.requires.word (c.letter-b.ensures.value ∙ ap (λ n. slice_index c.args.word.now (n - 1)) c.len.ensures.value) c.in-Some.ensures c.requires.place).1 c.ends.ensures).1
