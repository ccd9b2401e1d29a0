-- The next term of the sum of a combination and a multiple of another.
use Rattle.std.specs.Prelude.{◌≡◌, ℕ, ◌∷◌}
use Rattle.nichols_field.specs.Field.{FieldValue, plus, times}
use Rattle.nichols_tensor.specs.Combination.{Term, Combination, words_of}
use Rattle.nichols_tensor.specs.WordOrder.{IsBelowFirst}

-- the term comes from the left, from the right or from both; with what is then left of the two
pub data TakesNext (field : FieldValue) (by : ℕ) : Combination → Combination → Term → Combination → Combination → Type 0 where
  from_left : {x : Term} {xs ys : Combination} → IsBelowFirst x.word (words_of ys) → TakesNext field by (x ∷ xs) ys x xs ys
  from_right : {y : Term} {xs ys : Combination} → IsBelowFirst y.word (words_of xs) → TakesNext field by xs (y ∷ ys) (record { word = y.word; coefficient = times field by y.coefficient }) xs ys
  from_both : {x y : Term} {xs ys : Combination} → x.word ≡ y.word → TakesNext field by (x ∷ xs) (y ∷ ys) (record { word = x.word; coefficient = plus field x.coefficient (times field by y.coefficient) }) xs ys
