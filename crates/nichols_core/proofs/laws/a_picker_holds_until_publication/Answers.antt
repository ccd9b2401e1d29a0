use Rattle.nichols_core.proofs.RunsKept.{a_picker_holds_until_publication}
use Rattle.nichols_core.proofs.laws.a_picker_holds_until_publication.Goals as goal

pub returns : goal.returns
returns c = a_picker_holds_until_publication
