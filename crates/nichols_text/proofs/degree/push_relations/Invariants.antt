use Rattle.std.proofs.Common.{◌≡◌, ◌++◌, take}
use Rattle.std.specs.List.{flat_map}
use Rattle.nichols_text.specs.Words.{relation_line}
use Rattle.nichols_text.proofs.degree.push_relations.Given as goal

abbrev pub invariant-loop-relation : goal.invariant-loop-relation
invariant-loop-relation l = l.out.items ≡ l.fn.out.items ++ flat_map (relation_line l.field l.order) (take l.relation-index l.relations)
