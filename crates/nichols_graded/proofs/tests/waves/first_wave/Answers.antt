use Rattle.std.proofs.Common.{ap, sym, subst}
use Rattle.nichols_crew.specs.Wave.{AreWithin}
use Rattle.nichols_graded.specs.Graded.{GradedValue}
use Rattle.nichols_graded.proofs.DegreeStops.{finished_within}
use Rattle.nichols_graded.proofs.tests.waves.first_wave.Goals as goal

pub wave-requires-clause-within : goal.wave-requires-clause-within
wave-requires-clause-within g c κs within =
    let made = c.in_ok-graded.graded in
    let levels = c.levels-levels.result.now in
    subst (λ b. AreWithin b 1024 levels.last) (sym c.levels-levels.ensures.braid)
    (subst (λ m. AreWithin made.braid 1024 m) (sym c.levels-levels.ensures.last)
    (subst (λ r. AreWithin made.braid r made.last) (ap (λ (v : GradedValue). v.rows) c.in_ok-graded.ensures) (finished_within made c.levels-levels.ensures.graded)))
