use Rattle.nichols_expression.proofs.PrintedLaws.{printed_combinations_are_read_again}
use Rattle.nichols_expression.proofs.laws.printed_combinations_are_read_again.Goals as goal

pub returns : goal.returns
returns c = printed_combinations_are_read_again
