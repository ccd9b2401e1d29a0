-- The numbers of slots.
use Rattle.std.proofs.Common.{◌≡◌, refl}
use Rattle.nichols_memo.specs.declared.TheConstants.{MOST_SLOTS, SLOTS_DEFAULT}

most_slots : MOST_SLOTS ≡ 65536
most_slots = refl

slots_default : SLOTS_DEFAULT ≡ 4096
slots_default = refl
