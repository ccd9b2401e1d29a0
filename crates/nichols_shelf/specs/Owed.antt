-- What a pass owes, as it is kept.
use Rattle.std.specs.Prelude.{◌≡◌, ℕ, suc, ◌+◌, ◌*◌, ◌/◌, ◌^◌, ◌<◌, ◌≤◌, Bool, true, false, List, length, slice_index_or}

-- a flag for each stretch of 64 blocks: where it doesn't stand none of them is marked
pub record AreStretches (marks stretches : List Bool) : Type 0 where
  pub room : length stretches ≡ length marks / 64 + 1
  pub free : (j : ℕ) → slice_index_or stretches j false ≡ false → (b : ℕ) → 64 * j ≤ b → b < 64 * suc j → slice_index_or marks b false ≡ false

-- nothing is marked below the least mark, which is one of the marks or their number; and there are fewer than 2^32
pub record IsOwed (marks stretches : List Bool) (least : ℕ) : Type 0 where
  pub few : length marks < 2 ^ 32
  pub within : least ≤ length marks
  pub below : (b : ℕ) → b < least → slice_index_or marks b false ≡ false
  pub found : least < length marks → slice_index_or marks least false ≡ true
  pub passed : AreStretches marks stretches
