-- What a shared value stands for.
use Rattle.std.specs.Arc.{arc_value}
use Rattle.nichols_value.specs.declared.shared.Shared.{Shared}
use Rattle.nichols_value.specs.declared.shared.Shared.TheVariants as shared
use Rattle.nichols_value.specs.declared.value.BlockValue.{BlockValue}
use Rattle.nichols_value.specs.declared.value.BlockValue.TheVariants as value
use Rattle.nichols_value.specs.Rule.{without_upper}

-- the value in it, or want of memory
abbrev pub worth : Shared → BlockValue
worth (shared.Value it) = arc_value it
worth shared.Starved = value.Starved

-- the value without what serves the degree above
abbrev pub lean_value : BlockValue → BlockValue
lean_value (value.Rule r) = value.Rule (without_upper r)
lean_value (value.Over n) = value.Over n
lean_value value.Void = value.Void
lean_value value.Starved = value.Starved
