use Rattle.std.proofs.Common.{◌≡◌, length, rules}
use Rattle.nichols_core.specs.Machine.{stage_after_take}
use Rattle.nichols_core.specs.States.{MarksValue, marks_value, stage_at, place_of}
use Rattle.nichols_core.proofs.MarksWritten.{take_applies}
use Rattle.nichols_core.proofs.marks.Marks.take.Goals as goal

pub returns : goal.returns
returns c =
    let old : MarksValue = marks_value c.args.self.now in
    let at : c.place_of-place.result ≡ place_of (length old.stages) c.args.worker c.args.block = search rules in
    let is : c.after_take.result ≡ stage_after_take c.args.worker (stage_at old.stages c.args.block) = search rules in
    λ es. take_applies es old c.args.worker c.args.block c.place_of-place.result c.after_take.result c.requires at is
