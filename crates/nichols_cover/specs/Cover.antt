-- The quadratic cover of an algebra: its dimensions, and where it stops under a limit.
use Rattle.std.specs.Prelude.{ℕ, suc, ◌-◌, ◌*◌, nat_lt, List, [], map, find, Option, option_map, unwrap_or}
use Rattle.std.specs.List.{range_with_len}
use Rattle.nichols_field.specs.Field.{FieldValue}
use Rattle.nichols_tensor.specs.Combination.{Combination}
use Rattle.nichols_braid.specs.Braid.{BraidValue}
use Rattle.nichols_braid.specs.End.{dimension}
use Rattle.nichols_cover.specs.Ideal.{in_ideal}

-- a field and a number of letters as a braid without tables: what the least words and the normal forms of a cover read of a braid
abbrev pub without_tables : FieldValue → ℕ → BraidValue
without_tables field n = record { field = field; letters = n; rack = []; cocycle = [] }

-- the dimension in degree m of the cover over n letters whose ideal these combinations generate: the number of its least words
unfoldable pub cover_dimension : FieldValue → ℕ → List Combination → ℕ → ℕ
cover_dimension field n rs m = dimension (in_ideal rs) (without_tables field n) m

-- how many candidates a degree from 1 on has: the least words of the degree below, each with a letter behind
abbrev pub candidate_count : FieldValue → ℕ → List Combination → ℕ → ℕ
candidate_count field n rs m = n * cover_dimension field n rs (m - 1)

-- the first degree from 1 to `through` that has more candidates than the limit
unfoldable pub first_wide : FieldValue → ℕ → List Combination → ℕ → ℕ → Option ℕ
first_wide field n rs through limit = find (λ m. nat_lt limit (candidate_count field n rs m)) (range_with_len 1 through)

-- where a cover stops: the degree, and how many candidates it has
abbrev pub StopValue : Type 0
StopValue = record { degree : ℕ; count : ℕ }

-- a cover as contracts see it: its dimensions from degree 0 on, and where it stopped
abbrev pub CoverValue : Type 0
CoverValue = record { dimensions : List ℕ; stop : Option StopValue }

-- the dimensions of the degrees from 0 to `through`, or to the one before the stop
unfoldable pub cover_of : FieldValue → ℕ → List Combination → ℕ → ℕ → CoverValue
cover_of field n rs through limit = record {
  dimensions = map (cover_dimension field n rs) (range_with_len 0 (unwrap_or (first_wide field n rs through limit) (suc through)));
  stop = option_map (λ m. record { degree = m; count = candidate_count field n rs m }) (first_wide field n rs through limit);
}
