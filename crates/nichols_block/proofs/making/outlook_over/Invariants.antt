use Rattle.std.proofs.Common.{◌≡◌, false, take, true}
use Rattle.nichols_block.specs.declared.making.Outlook.TheVariants.{Rules, Starved, Void}
use Rattle.nichols_block.specs.Making.{EachLower, SomeLower}
use Rattle.nichols_block.specs.Allowed.{allows}
use Rattle.nichols_block.proofs.making.outlook_over.Given as goal

-- of those before none is want of memory, and they are rules unless one was met that is of a block that isn't whole
abbrev pub invariant-loop-below : goal.invariant-loop-below
invariant-loop-below l = record {
  none : EachLower (λ v. allows v ≡ Starved → ⊥) (take l.below-index l.lower);
  rules : l.void ≡ false → EachLower (λ v. allows v ≡ Rules) (take l.below-index l.lower);
  some : l.void ≡ true → SomeLower (λ v. allows v ≡ Void) (take l.below-index l.lower);
}
