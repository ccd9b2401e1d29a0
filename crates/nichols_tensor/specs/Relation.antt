-- Relations between words as contracts see them.
use Rattle.std.specs.Prelude.{ℕ, List}
use Rattle.nichols_tensor.specs.Combination.{Combination}

-- a candidate that isn't least, with its normal form
abbrev pub PlainRelation : Type 0
PlainRelation = record { candidate : List ℕ; form : Combination }
