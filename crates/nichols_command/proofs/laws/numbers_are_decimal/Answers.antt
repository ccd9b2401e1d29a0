use Rattle.nichols_command.proofs.DecimalTexts.{numbers_are_decimal}
use Rattle.nichols_command.proofs.laws.numbers_are_decimal.Goals as goal

pub returns : goal.returns
returns c = numbers_are_decimal
