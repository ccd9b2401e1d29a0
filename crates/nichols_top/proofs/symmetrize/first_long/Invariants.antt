use Rattle.std.proofs.Common.{◌≡◌, ◌+◌, take, drop}
use Rattle.std.specs.List.{AllByRecursion}
use Rattle.nichols_lift.specs.Lengths.{AllAtMost}
use Rattle.nichols_lift.specs.declared.TheConstants.{PLACE_LIMIT}
use Rattle.nichols_top.specs.Symmetrize.{first_long}
use Rattle.nichols_top.proofs.symmetrize.first_long.Given as goal

abbrev pub invariant-loop-expression : goal.invariant-loop-expression
invariant-loop-expression l = record {
  number : l.number ≡ 1 + l.expression-index;
  rest : first_long 1 l.expressions ≡ first_long l.number (drop l.expression-index l.expressions);
  short : AllByRecursion (AllAtMost PLACE_LIMIT) (take l.expression-index l.expressions);
}
