-- What the values of the lower blocks of a block allow.
use Rattle.std.specs.Prelude.{◌≡◌, List}
use Rattle.nichols_value.specs.declared.shared.LowerValue.{LowerValue}
use Rattle.nichols_value.specs.declared.value.BlockValue.{BlockValue}
use Rattle.nichols_value.specs.declared.value.BlockValue.TheVariants as value
use Rattle.nichols_block.specs.declared.making.Outlook.{Outlook}
use Rattle.nichols_block.specs.declared.making.Outlook.TheVariants.{Rules, Void, Starved}
use Rattle.nichols_block.specs.Making.{EachLower, SomeLower}

-- what one value allows
abbrev pub allows : BlockValue → Outlook
allows (value.Rule r) = Rules
allows (value.Over n) = Void
allows value.Void = Void
allows value.Starved = Starved

-- what all of them allow: they are rules; or one of them is of a block that isn't whole, and none is want of memory; or one of them is
abbrev pub AreAllowed : Outlook → List LowerValue → Type 0
AreAllowed Rules lower = EachLower (λ v. allows v ≡ Rules) lower
AreAllowed Void lower = SomeLower (λ v. allows v ≡ Void) lower × EachLower (λ v. allows v ≡ Starved → ⊥) lower
AreAllowed Starved lower = SomeLower (λ v. allows v ≡ Starved) lower
