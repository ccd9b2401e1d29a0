-- Normal forms of words, and what may be in a slot.
use Rattle.std.specs.Prelude.{◌≡◌, ℕ, List, length, Option, Some, None}
use Rattle.nichols_tensor.specs.Combination.{Combination, single}
use Rattle.nichols_braid.specs.Braid.{BraidValue}
use Rattle.nichols_braid.specs.Kernel.{is_killed}
use Rattle.nichols_braid.specs.Least.{normal_form}
use Rattle.nichols_memo.specs.declared.entry.Entry.{Entry}

-- the normal form of a word
abbrev pub form_of : BraidValue → List ℕ → Combination
form_of braid w = normal_form is_killed braid (length w) (single w)

-- nothing, or a word with its normal form
abbrev pub IsRight : BraidValue → Option Entry → Type 0
IsRight braid None = Unit {0}
IsRight braid (Some e) = e.form ≡ form_of braid e.word
