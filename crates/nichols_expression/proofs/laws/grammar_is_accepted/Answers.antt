use Rattle.nichols_expression.proofs.GrammarLaws.{grammar_is_accepted}
use Rattle.nichols_expression.proofs.laws.grammar_is_accepted.Goals as goal

pub returns : goal.returns
returns c = grammar_is_accepted
