use Rattle.std.proofs.Common.{◌<◌, ◌^◌}
use Rattle.nichols_cover.specs.Ideal.{generators}
use Rattle.nichols_cover.specs.Level.{StandsFor}
use Rattle.nichols_cover.proofs.Covered.{AreCovered}
use Rattle.nichols_cover.proofs.covering.cover.Given as goal

abbrev pub invariant-loop-below : goal.invariant-loop-below
invariant-loop-below l = record {
  covered : AreCovered l.field l.letters (generators l.field l.quadratic) l.limit l.below l.dimensions.items;
  level : StandsFor l.field l.letters (generators l.field l.quadratic) l.below l.level;
  few : l.level.count < 2 ^ 32;
}
