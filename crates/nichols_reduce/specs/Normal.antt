-- Normal forms as far as the degrees of an algebra are made.
use Rattle.std.specs.Prelude.{ℕ, Bool, ◌&&◌, not, nat_lt, if◌then◌else◌}
use Rattle.nichols_tensor.specs.Combination.{Combination}
use Rattle.nichols_tensor.specs.Parts.{longest}
use Rattle.nichols_braid.specs.Braid.{BraidValue}
use Rattle.nichols_braid.specs.End.{is_empty_degree}
use Rattle.nichols_braid.specs.Kernel.{is_killed}
use Rattle.nichols_braid.specs.WholeForm.{normal_form_by_parts}
use Rattle.nichols_reduce.specs.declared.answer.Normal.{Normal}
use Rattle.nichols_reduce.specs.declared.answer.Normal.TheVariants.{Form, Beyond}

-- whether a word is longer than the last degree that is made, which has least words
unfoldable pub is_beyond : BraidValue → ℕ → Combination → Bool
is_beyond braid last f = nat_lt last (longest f) && not (is_empty_degree is_killed braid last)

-- that a word is beyond the last degree, or the normal form
unfoldable pub normal_of : BraidValue → ℕ → Combination → Normal
normal_of braid last f = if is_beyond braid last f then Beyond last else Form (normal_form_by_parts is_killed braid f)
