use Rattle.std.proofs.Common.{◌≡◌, [], map}
use Rattle.std.specs.List.{range_with_len}
use Rattle.nichols_cover.specs.Rows.{form_at, number_at}
use Rattle.nichols_cover.proofs.level.level_of.Given as goal

abbrev pub invariant-loop-place : goal.invariant-loop-place
invariant-loop-place l = record {
  numbers : l.numbers.items ≡ map (number_at l.places) (range_with_len 0 l.place-index);
  count : l.count ≡ number_at l.places l.place-index;
  forms : l.forms ≡ record { rows = map (form_at l.others l.places) (range_with_len 0 l.place-index); begun = [] };
}
