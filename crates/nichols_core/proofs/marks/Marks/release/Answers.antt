use Rattle.std.proofs.Common.{◌≡◌, length, true, rules}
use Rattle.nichols_core.specs.Machine.{is_resumed_by}
use Rattle.nichols_core.specs.States.{MarksValue, marks_value, stage_at, place_of}
use Rattle.nichols_core.proofs.MarksWritten.{release_applies}
use Rattle.nichols_core.proofs.marks.Marks.release.Goals as goal

pub returns : goal.returns
returns c =
    let old : MarksValue = marks_value c.args.self.now in
    let at : c.place_of-place.result ≡ place_of (length old.stages) c.args.worker c.args.block = search rules in
    let possible : is_resumed_by c.args.worker (stage_at old.stages c.args.block) ≡ true = search rules in
    λ es. release_applies es old c.args.worker c.args.block c.place_of-place.result c.requires at possible
