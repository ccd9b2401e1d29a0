use Rattle.std.proofs.Common.{◌≡◌}
use Rattle.std.specs.Prelude.{option_copied}
use Rattle.nichols_input.specs.Document.{unknown_in}
use Rattle.nichols_input.proofs.keys.unknown_key.Given as goal
use Rattle.toml.specs.View.{members_view}

abbrev pub invariant-loop-key : goal.invariant-loop-key
invariant-loop-key l =
    (goal.iterator-loop-key).can_next l.key-iterator ×
    (goal.iterator-loop-key).is_finite l.key-iterator ×
    (unknown_in (option_copied l.further) (members_view l.key-iterator) ≡ unknown_in (option_copied l.further) (members_view l.table.entries))
