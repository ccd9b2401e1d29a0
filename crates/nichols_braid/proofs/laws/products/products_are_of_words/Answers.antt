use Rattle.nichols_braid.proofs.ProductListLaws.{products_are_of_words, products_are_distinct, first_words_rise}
use Rattle.nichols_braid.proofs.laws.products.products_are_of_words.Goals as goal

pub returns : goal.returns
returns c = record { words = products_are_of_words; once = products_are_distinct; order = first_words_rise }
