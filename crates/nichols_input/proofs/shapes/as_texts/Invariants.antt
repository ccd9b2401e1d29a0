use Rattle.std.proofs.Common.{◌≡◌, ◌++◌, drop, map}
use Rattle.std.specs.Option.{option_map}
use Rattle.toml.specs.View.{items_view}
use Rattle.nichols_input.specs.Shapes.{texts_in}
use Rattle.nichols_input.proofs.shapes.as_texts.Given as goal

abbrev pub invariant-loop-item : goal.invariant-loop-item
invariant-loop-item l = option_map (λ ys. map (λ text. text.now) l.out.items ++ ys) (texts_in (items_view (drop l.item-index l.item-items))) ≡ texts_in (items_view l.item-items)
