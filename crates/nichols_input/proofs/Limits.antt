-- The limits as they are written.
use Rattle.std.proofs.Common.{◌≡◌, refl}
use Rattle.nichols_expression.specs.declared.TheConstants.{NUMBER_LIMIT, TERM_LIMIT, EXPRESSION_LIMIT}
use Rattle.nichols_input.specs.declared.TheConstants.{DOCUMENT_LIMIT}

digits_of_a_number : NUMBER_LIMIT ≡ 9
digits_of_a_number = refl

terms_of_an_expression : TERM_LIMIT ≡ 1000
terms_of_an_expression = refl

expressions_of_a_document : EXPRESSION_LIMIT ≡ 1000
expressions_of_a_document = refl

bytes_of_a_document : DOCUMENT_LIMIT ≡ 1048576
bytes_of_a_document = refl
