use Rattle.nichols_command.proofs.DecimalTexts.{options_are_decimal}
use Rattle.nichols_command.proofs.laws.options_are_decimal.Goals as goal

pub returns : goal.returns
returns c = options_are_decimal
