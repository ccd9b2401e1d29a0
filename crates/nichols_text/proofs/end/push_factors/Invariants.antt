use Rattle.std.proofs.Common.{◌≡◌, ◌++◌, take, codes}
use Rattle.std.specs.Prelude.{decimal}
use Rattle.std.specs.List.{flat_map}
use Rattle.nichols_text.proofs.end.push_factors.Given as goal

abbrev pub invariant-loop-factor : goal.invariant-loop-factor
invariant-loop-factor l = l.out.items ≡ l.fn.out.items ++ codes "factors" ++ flat_map (λ k. codes " " ++ decimal k) (take l.factor-index l.numbers)
