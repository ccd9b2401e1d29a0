use Rattle.nichols_braid.proofs.NewWordLaws.{forms_read_earlier_words}
use Rattle.nichols_braid.proofs.laws.new_words.forms_read_earlier_words.Goals as goal

pub returns : goal.returns
returns c = forms_read_earlier_words
