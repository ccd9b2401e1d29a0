use Rattle.std.proofs.Common.{◌≡◌, ap, true, rules}
use Rattle.nichols_core.specs.declared.event.Event.TheVariants.{Publish}
use Rattle.nichols_core.specs.Layout.{LayoutValue}
use Rattle.nichols_core.specs.Machine.{can}
use Rattle.nichols_core.specs.States.{MarksValue, marks_value, machine_in}
use Rattle.nichols_core.proofs.MarksWritten.{publish_applies}
use Rattle.nichols_core.proofs.marks.Marks.publish.Goals as goal

pub returns : goal.returns
returns c =
    let old : MarksValue = marks_value c.args.self.now in
    let same : c.layout.inside.edges.items ≡ c.args.layout.now.edges = ap (λ (l : LayoutValue). l.edges) c.layout.view_is in
    let possible : can c.args.layout.now.edges (Publish c.args.worker c.args.block) (machine_in old) ≡ true = search rules in
    publish_applies c.args.layout.now.edges old c.args.worker c.args.block c.resume.new.stages.items c.requires.place.stage possible c.resume.ensures.len c.resume.ensures.resumed
