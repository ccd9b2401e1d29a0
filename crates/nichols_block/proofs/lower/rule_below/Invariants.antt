use Rattle.std.proofs.Common.{◌≢◌, take}
use Rattle.std.specs.List.{All}
use Rattle.nichols_value.specs.declared.shared.LowerValue.{LowerValue}
use Rattle.nichols_block.proofs.lower.rule_below.Given as goal

-- no value before has the leading letter
abbrev pub invariant-loop-below : goal.invariant-loop-below
invariant-loop-below l = All (λ (x : LowerValue). x.letter ≢ l.leading) (take l.below-index l.lower)
