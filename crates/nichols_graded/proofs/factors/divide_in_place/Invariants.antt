use Rattle.std.proofs.Common.{◌≡◌, ◌-◌, ◌++◌, take, drop}
use Rattle.std.specs.Prelude.{option_map}
use Rattle.nichols_graded.specs.Factors.{quotient_of}
use Rattle.nichols_graded.proofs.factors.divide_in_place.Given as goal

abbrev pub invariant-loop-i : goal.invariant-loop-i
invariant-loop-i l = quotient_of l.count l.k l.fn.polynomial ≡ option_map (λ q. take l.i l.polynomial ++ q) (quotient_of (l.count - l.i) l.k (drop l.i l.polynomial))
