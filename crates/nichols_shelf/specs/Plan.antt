-- What a shelf stands on.
use Rattle.std.specs.Prelude.{◌≡◌, ℕ, List, length, slice_index_or}
use Rattle.nichols_braid.specs.Braid.{BraidValue}
use Rattle.nichols_core.specs.Layout.{LayoutValue}
use Rattle.nichols_value.specs.Value.{IsRight}
use Rattle.nichols_value.specs.declared.key.BlockKey.{BlockKey}
use Rattle.nichols_value.specs.declared.value.BlockValue.{BlockValue}

-- the braid, the layout, the key of each block and the rows limit
pub record PlanValue : Type 0 where
  pub braid : BraidValue
  pub layout : LayoutValue
  pub keys : List BlockKey
  pub rows_limit : ℕ

-- one key for each block
pub record IsPlan (g : PlanValue) : Type 0 where
  pub keyed : length g.keys ≡ length g.layout.degrees

-- what stands past the last key
abbrev pub no_key : BlockKey
no_key = record { degree = 0; product = Rattle.std.specs.Prelude.[] }

-- the key of the block b
abbrev pub key_at : PlanValue → ℕ → BlockKey
key_at g b = slice_index_or g.keys b no_key

-- the value is right for the block b
unfoldable pub IsRightFor : PlanValue → ℕ → BlockValue → Type 0
IsRightFor g b value = IsRight g.braid g.rows_limit (key_at g b).degree (key_at g b).product value
