use Rattle.std.proofs.Common.{◌≡◌, ◌++◌, drop, map}
use Rattle.std.specs.Option.{option_map}
use Rattle.toml.specs.View.{items_view}
use Rattle.nichols_input.specs.Shapes.{entry_rows_in}
use Rattle.nichols_input.proofs.shapes.as_entry_rows.Given as goal

abbrev pub invariant-loop-item : goal.invariant-loop-item
invariant-loop-item l = option_map (λ ys. map (λ row. row.items) l.out.items ++ ys) (entry_rows_in l.extended (items_view (drop l.item-index l.item-items))) ≡ entry_rows_in l.extended (items_view l.item-items)
