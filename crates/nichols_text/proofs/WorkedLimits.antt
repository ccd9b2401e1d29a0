-- The bytes of an unknown key that are printed.
use Rattle.std.proofs.Common.{◌≡◌, refl}
use Rattle.nichols_text.specs.declared.key_line.TheConstants.{KEY_LIMIT}

key_limit : KEY_LIMIT ≡ 60
key_limit = refl
