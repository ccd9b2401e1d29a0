use Rattle.nichols_braid.proofs.LeastLaws.{basis_has_least_words}
use Rattle.nichols_braid.proofs.laws.basis_has_least_words.Goals as goal

pub returns : goal.returns
returns c = basis_has_least_words
