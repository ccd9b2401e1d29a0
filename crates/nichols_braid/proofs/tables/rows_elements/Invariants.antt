use Rattle.std.proofs.Common.{◌≡◌, map, take}
use Rattle.std.specs.List.{flat_map}
use Rattle.nichols_braid.specs.GivenEntries.{given_element}
use Rattle.nichols_braid.proofs.tables.rows_elements.Given as goal

abbrev pub invariant-loop-row : goal.invariant-loop-row
invariant-loop-row l = l.out.items ≡ flat_map (map (given_element l.field)) (take l.row-index (map (λ row. row.items) l.rows))
