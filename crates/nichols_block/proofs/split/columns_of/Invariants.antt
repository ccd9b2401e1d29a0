use Rattle.std.proofs.Common.{◌≡◌, ◌<◌, ◌^◌, ℕ, length}
use Rattle.std.specs.Prelude.{slice_index}
use Rattle.nichols_block.specs.NewRows.{columns_to}
use Rattle.nichols_block.proofs.split.columns_of.Given as goal

abbrev pub invariant-loop-a : goal.invariant-loop-a
invariant-loop-a l = record {
  letters : length l.offsets.items ≡ l.a;
  each : (b : ℕ) → b < l.a → slice_index l.offsets.items b ≡ columns_to l.braid l.key.degree l.key.product b;
  columns : l.columns ≡ columns_to l.braid l.key.degree l.key.product l.a;
  short : l.columns < 2 ^ 32;
}
