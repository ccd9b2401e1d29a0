use Rattle.std.proofs.Common.{◌≡◌, ◌++◌, drop}
use Rattle.std.specs.Option.{option_map}
use Rattle.toml.specs.View.{items_view}
use Rattle.nichols_input.specs.Shapes.{entries_in}
use Rattle.nichols_input.proofs.shapes.as_entries.Given as goal

abbrev pub invariant-loop-item : goal.invariant-loop-item
invariant-loop-item l = option_map (λ ys. l.out.items ++ ys) (entries_in l.extended (items_view (drop l.item-index l.item-items))) ≡ entries_in l.extended (items_view l.item-items)
