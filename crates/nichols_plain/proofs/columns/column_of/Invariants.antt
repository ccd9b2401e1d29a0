use Rattle.std.proofs.Common.{◌≡◌, ◌<◌, ◌^◌, take}
use Rattle.nichols_plain.specs.Columns.{number_of}
use Rattle.nichols_plain.proofs.columns.column_of.Given as goal

abbrev pub invariant-loop-letter : goal.invariant-loop-letter
invariant-loop-letter l = record {
  value : l.number ≡ number_of l.letters (take l.letter-index l.letter-items);
  bound : l.number < l.letters ^ l.letter-index;
}
