-- The limits as numbers.
use Rattle.std.proofs.Common.{◌≡◌, refl}
use Rattle.nichols_tensor.specs.declared.TheConstants.{LETTER_LIMIT, WORD_LIMIT}
use Rattle.nichols_braid.specs.declared.TheConstants.{POINTS_LEAST, POINTS_MOST, MOST_DEGREES, MOST_PRODUCTS, MOST_ROWS}

letter_limit : LETTER_LIMIT ≡ 24
letter_limit = refl

word_limit : WORD_LIMIT ≡ 60
word_limit = refl

points_least : POINTS_LEAST ≡ 3
points_least = refl

points_most : POINTS_MOST ≡ 7
points_most = refl

most_degrees : MOST_DEGREES ≡ 60
most_degrees = refl

most_products : MOST_PRODUCTS ≡ 5040
most_products = refl

most_rows : MOST_ROWS ≡ 65536
most_rows = refl
