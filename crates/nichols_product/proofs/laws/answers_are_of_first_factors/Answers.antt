use Rattle.nichols_product.proofs.AnswerLaws.{answers_are_of_first_factors}
use Rattle.nichols_product.proofs.laws.answers_are_of_first_factors.Goals as goal

pub returns : goal.returns
returns c = answers_are_of_first_factors
