use Rattle.std.proofs.Common.{to_z, of_z, w64}
use Rattle.nichols_input.proofs.Orders.{extended_if}
use Rattle.nichols_input.proofs.document.field_of.Goals as goal

pub returns-in-Some-clause-extended : goal.returns-in-Some-clause-extended
returns-in-Some-clause-extended c = extended_if _ (to_z w64 (of_z w64 c.args.modulus)) (to_z w64 (of_z w64 c.in-Some.a)) (to_z w64 (of_z w64 c.in-Some.b)) c.extended.result c.extended.ensures
