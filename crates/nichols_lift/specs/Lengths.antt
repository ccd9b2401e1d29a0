-- Combinations of short words.
use Rattle.std.specs.Prelude.{ℕ, ◌≤◌, length}
use Rattle.std.specs.List.{AllByRecursion}
use Rattle.nichols_tensor.specs.Combination.{Combination}

-- each word has at most this many letters
abbrev pub AllAtMost : ℕ → Combination → Type 0
AllAtMost limit f = AllByRecursion (λ t. length t.word ≤ limit) f
