use Rattle.std.proofs.Common.{◌<◌, List, ℕ, length, arith, subst}
use Rattle.std.proofs.lemmas.Result.{on_ok_weaker}
use Rattle.nichols_value.specs.Block.{lower_basis}
use Rattle.nichols_value.proofs.Blocks.{lower_basis_rises}
use Rattle.nichols_value.specs.Kept.{candidate_at}
use Rattle.nichols_block.specs.Rows.{lower_words}
use Rattle.nichols_block.proofs.SpotsBelow.{spot_letter, spot_place}
use Rattle.nichols_block.proofs.DerivedRows.{derived_in_next, row_of_sums, spot_in_block}
use Rattle.nichols_block.proofs.derivatives.push_derivative.Goals as goal

pub rule_at-requires-clause-letter : goal.rule_at-requires-clause-letter
rule_at-requires-clause-letter c = spot_letter c.args.braid.now c.args.key.now.degree c.args.key.now.product c.args.spot c.requires.spot

pub unreachable-requires : goal.unreachable-requires
unreachable-requires c =
    let less : c.args.spot.place < 0 =
    subst (λ (ws : List (List ℕ)). c.args.spot.place < length ws) c.in_default.ensures (spot_place c.args.braid.now c.args.key.now.degree c.args.key.now.product c.args.spot c.requires.spot) in
    omega arith

pub returns-clause-row : goal.returns-clause-row
returns-clause-row c =
    on_ok_weaker c.drain_into.result
    (λ drained.
    row_of_sums c.args.braid.now c.field-field.ensures.braid c.field-field.result c.field-field.ensures.field (lower_basis c.args.braid.now c.args.key.now.degree c.args.key.now.product c.args.a)
    (lower_basis_rises c.args.braid.now c.args.key.now.degree c.args.key.now.product c.args.a) _
    (derived_in_next c.args.braid.now c.field-field.ensures.braid c.args.key.now.degree c.args.key.now.product (candidate_at (lower_words c.args.braid.now c.args.key.now.degree c.args.key.now.product) c.args.spot) c.requires.block.some
    (spot_in_block c.args.braid.now c.field-field.ensures.braid c.args.key.now.degree c.args.key.now.product c.requires.block.some c.requires.block.there c.args.spot c.requires.spot) c.args.a c.requires.letter)
    c.add_derivative.new.sums c.add_derivative.ensures.sums c.args.rows.now c.drain_into.new.rows drained)
    c.drain_into.ensures.row

pub add_derivative-requires-clause-last : goal.add_derivative-requires-clause-last
add_derivative-requires-clause-last c = spot_letter c.args.braid.now c.args.key.now.degree c.args.key.now.product c.args.spot c.requires.spot
