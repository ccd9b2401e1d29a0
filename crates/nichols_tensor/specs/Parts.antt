-- Combinations whose words have several lengths, and their parts.
use Rattle.std.specs.Prelude.{ℕ, suc, Bool, List, [], ◌∷◌, length, filter, max, nat_eq}
use Rattle.std.specs.List.{range_with_len}
use Rattle.nichols_tensor.specs.Combination.{Combination}

-- the terms whose words pass a test
abbrev pub part : (List ℕ → Bool) → Combination → Combination
part test f = filter (λ t. test t.word) f

-- the terms whose words have m letters
abbrev pub part_of_degree : ℕ → Combination → Combination
part_of_degree m f = part (λ w. nat_eq (length w) m) f

-- the most letters that a word of the combination has, or 0 where there is no word
unfoldable pub longest : Combination → ℕ
longest [] = 0
longest (t ∷ f) = max (length t.word) (longest f)

-- the degrees from 0 to the greatest one of a word
unfoldable pub degrees_of : Combination → List ℕ
degrees_of f = range_with_len 0 (suc (longest f))
