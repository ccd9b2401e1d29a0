-- What the answers of a call say of a text.
use Rattle.std.specs.Prelude.{◌≡◌, Result, Err}
use Rattle.nichols_tensor.specs.Combination.{Combination}
use Rattle.nichols_expression.specs.Reader.{Fault}
use Rattle.nichols_expression.specs.declared.faults.ExpressionFault.{ExpressionFault}
use Rattle.nichols_expression.specs.declared.faults.ExpressionFault.TheVariants.{At, Memory}

-- a place and a cause are those of the first fault; want of memory says nothing of the text
abbrev pub IsFaultAnswer : Result Combination Fault → ExpressionFault → Type 0
IsFaultAnswer value (At place cause) = value ≡ Err (record { place = place; cause = cause })
IsFaultAnswer value Memory = Unit {0}
