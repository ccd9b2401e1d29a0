use Rattle.nichols_value.proofs.ValueLaws.{lower_letters_are_leading}
use Rattle.nichols_value.proofs.laws.lower_letters_are_leading.Goals as goal

pub returns : goal.returns
returns c = lower_letters_are_leading
