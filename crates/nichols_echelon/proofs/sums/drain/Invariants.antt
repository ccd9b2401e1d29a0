use Rattle.std.proofs.Common.{◌≡◌}
use Rattle.nichols_echelon.proofs.Draining.{Drained}
use Rattle.nichols_echelon.proofs.sums.drain.Given as goal

abbrev pub invariant-loop-word : goal.invariant-loop-word
invariant-loop-word l = record {
  sums : Drained l.field l.initial.values l.values l.marks l.rows.begun l.word;
  rows : l.rows.rows ≡ l.initial.rows.rows;
}
