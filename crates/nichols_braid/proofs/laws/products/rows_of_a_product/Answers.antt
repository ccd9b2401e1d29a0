use Rattle.nichols_braid.proofs.ProductListLaws.{rows_of_a_product, rows_by_letters}
use Rattle.nichols_braid.proofs.laws.products.rows_of_a_product.Goals as goal

pub returns : goal.returns
returns c = record { words = rows_of_a_product; letters = rows_by_letters }
