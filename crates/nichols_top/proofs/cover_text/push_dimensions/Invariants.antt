use Rattle.std.proofs.Common.{◌≡◌, ◌++◌, take, codes}
use Rattle.std.specs.Prelude.{decimal}
use Rattle.std.specs.List.{flat_map}
use Rattle.nichols_top.proofs.cover_text.push_dimensions.Given as goal

abbrev pub invariant-loop-dimension : goal.invariant-loop-dimension
invariant-loop-dimension l = l.out.items ≡ l.fn.out.items ++ codes "cover" ++ flat_map (λ d. codes " " ++ decimal d) (take l.dimension-index l.dimensions)
