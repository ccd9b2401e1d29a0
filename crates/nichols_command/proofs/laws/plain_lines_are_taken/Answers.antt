use Rattle.nichols_command.proofs.PlainEnd.{plain_lines_are_taken}
use Rattle.nichols_command.proofs.laws.plain_lines_are_taken.Goals as goal

pub returns : goal.returns
returns c = plain_lines_are_taken
