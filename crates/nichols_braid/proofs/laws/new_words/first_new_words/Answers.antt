use Rattle.nichols_braid.proofs.NewWordLaws.{first_new_words}
use Rattle.nichols_braid.proofs.laws.new_words.first_new_words.Goals as goal

pub returns : goal.returns
returns c = first_new_words
