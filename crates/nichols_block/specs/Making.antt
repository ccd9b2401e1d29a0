-- What may be said of the values of the lower blocks of a block.
use Rattle.std.specs.Prelude.{◌≡◌, List}
use Rattle.std.specs.List.{Contains}
use Rattle.nichols_value.specs.declared.shared.LowerValue.{LowerValue}
use Rattle.nichols_value.specs.declared.value.BlockValue.{BlockValue}
use Rattle.nichols_value.specs.declared.value.BlockValue.TheVariants as value
use Rattle.nichols_value.specs.Worth.{worth}

-- some lower value is one of these
abbrev pub SomeLower : (BlockValue → Type 0) → List LowerValue → Type 0
SomeLower P lower = (l : LowerValue) × Contains lower l × P (worth l.value)

-- each lower value is one of these
abbrev pub EachLower : (BlockValue → Type 0) → List LowerValue → Type 0
EachLower P lower = (l : LowerValue) → Contains lower l → P (worth l.value)

-- the value is a rule
abbrev pub IsARule : BlockValue → Type 0
IsARule (value.Rule r) = Unit {0}
IsARule _ = ⊥

-- the value is `Over` or `Void`
abbrev pub IsOverOrVoid : BlockValue → Type 0
IsOverOrVoid (value.Over n) = Unit {0}
IsOverOrVoid value.Void = Unit {0}
IsOverOrVoid _ = ⊥

-- the value is want of memory
abbrev pub IsStarved : BlockValue → Type 0
IsStarved v = v ≡ value.Starved
