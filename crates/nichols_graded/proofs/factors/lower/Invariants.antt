use Rattle.std.proofs.Common.{◌≡◌, ◌-◌, ◌++◌, true, map, take, drop, nat_le}
use Rattle.std.specs.List.{list_all}
use Rattle.nichols_graded.proofs.factors.lower.Given as goal

abbrev pub invariant-loop-coefficient : goal.invariant-loop-coefficient
invariant-loop-coefficient l = record {
  enough : list_all (nat_le l.by) (take l.coefficient-index l.fn.coefficients) ≡ true;
  lowered : l.coefficient-items ≡ map (λ x. x - l.by) (take l.coefficient-index l.fn.coefficients) ++ drop l.coefficient-index l.fn.coefficients;
}
