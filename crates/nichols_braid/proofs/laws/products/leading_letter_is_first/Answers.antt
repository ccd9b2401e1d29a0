use Rattle.nichols_braid.proofs.ProductListLaws.{leading_letter_is_first}
use Rattle.nichols_braid.proofs.laws.products.leading_letter_is_first.Goals as goal

pub returns : goal.returns
returns c = leading_letter_is_first
