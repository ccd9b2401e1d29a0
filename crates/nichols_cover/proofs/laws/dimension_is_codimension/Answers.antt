use Rattle.nichols_cover.proofs.Dimensions.{dimension_is_codimension}
use Rattle.nichols_cover.proofs.laws.dimension_is_codimension.Goals as goal

pub returns : goal.returns
returns c = dimension_is_codimension
