use Rattle.nichols_command.proofs.PlainEnd.{plain_lines_are_commands}
use Rattle.nichols_command.proofs.laws.plain_lines_are_commands.Goals as goal

pub returns : goal.returns
returns c = plain_lines_are_commands
