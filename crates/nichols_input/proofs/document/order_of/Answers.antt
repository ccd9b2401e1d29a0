use Rattle.std.proofs.Common.{rules}
use Rattle.std.specs.Prelude.{option_map}
use Rattle.nichols_braid.proofs.Rearranged.{rearranged_length}
use Rattle.nichols_input.proofs.Orders.{sized, ordered}
use Rattle.nichols_input.proofs.document.order_of.Goals as goal

pub returns-in-None-clause-letters : goal.returns-in-None-clause-letters
returns-in-None-clause-letters c = rearranged_length c.args.letters c.plain.result c.plain.ensures.order

pub returns-in-Some-clause-letters : goal.returns-in-Some-clause-letters
returns-in-Some-clause-letters c = sized c.args.letters c.new.result c.new.ensures.order

pub returns-in-Some-clause-value : goal.returns-in-Some-clause-value
returns-in-Some-clause-value c = ordered c.args.letters (option_map (λ v. v.items) c.args.given.now) c.as_slice.result.now c.new.result (search rules) c.new.ensures.value
