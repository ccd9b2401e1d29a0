-- Products of two words.
use Rattle.std.specs.Prelude.{ℕ, List, ◌++◌}
use Rattle.nichols_tensor.specs.Combination.{Combination, single}
use Rattle.nichols_braid.specs.Braid.{BraidValue}
use Rattle.nichols_braid.specs.Kernel.{is_killed}
use Rattle.nichols_braid.specs.WholeForm.{normal_form_by_parts}

-- the normal form of the product of two words, which is the word that has the letters of both
abbrev pub product_of_words : BraidValue → List ℕ → List ℕ → Combination
product_of_words braid u v = normal_form_by_parts is_killed braid (single (u ++ v))
