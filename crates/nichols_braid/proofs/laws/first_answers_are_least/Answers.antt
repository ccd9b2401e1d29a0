use Rattle.nichols_braid.proofs.FirstAnswers.{first_answers_are_least, first_triples_are_least}
use Rattle.nichols_braid.proofs.laws.first_answers_are_least.Goals as goal

pub returns-clause-answers : goal.returns-clause-answers
returns-clause-answers g c = first_answers_are_least _

pub returns-clause-triples : goal.returns-clause-triples
returns-clause-triples g c = first_triples_are_least _
