use Rattle.nichols_expression.proofs.GrammarLaws.{a_text_has_one_value}
use Rattle.nichols_expression.proofs.laws.a_text_has_one_value.Goals as goal

pub returns : goal.returns
returns c = a_text_has_one_value
