use Rattle.std.proofs.Common.{◌∙◌, ap}
use Rattle.nichols_braid.specs.Kernel.{is_in_kernel}
use Rattle.nichols_braid.specs.End.{is_empty_degree}
use Rattle.nichols_graded.proofs.FinishedDegrees.{closed_is}
use Rattle.nichols_graded.proofs.graded.Graded.closed.Goals as goal

pub returns : goal.returns
returns c =
    closed_is c.self.inside.levels.braid c.self.invariant.0.braid c.self.inside.levels.last c.closed.result c.closed.ensures ∙ ap (λ g. is_empty_degree is_in_kernel g.braid g.last) c.self.view_is
