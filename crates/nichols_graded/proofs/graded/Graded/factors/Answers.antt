use Rattle.std.proofs.Common.{◌≡◌, suc, length, ◌∙◌, ap, arith}
use Rattle.std.proofs.lemmas.List.FromFn.{length-map-range_with_len}
use Rattle.nichols_braid.specs.Kernel.{is_in_kernel}
use Rattle.nichols_braid.specs.End.{dimension}
use Rattle.nichols_graded.proofs.FinishedDegrees.{last_within}
use Rattle.nichols_graded.proofs.graded.Graded.factors.Goals as goal

pub factors_of-requires : goal.factors_of-requires
factors_of-requires c =
    let size : length c.as_slice.result.now ≡ suc c.args.self.now.last =
    ap length (c.as_slice.ensures.value ∙ c.in_ok-dimensions.ensures.dimensions) ∙ length-map-range_with_len (dimension is_in_kernel c.args.self.now.braid) 0 (suc c.args.self.now.last) in
    let w = last_within c.args.self.now c.levels-levels.ensures.graded in
    omega (arith, size, w.0, w.1)
