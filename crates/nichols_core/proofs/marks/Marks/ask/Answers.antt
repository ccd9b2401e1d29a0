use Rattle.std.proofs.Common.{◌≡◌, true, false, rules}
use Rattle.std.specs.Prelude.{Some}
use Rattle.nichols_core.specs.declared.event.Event.TheVariants.{Ask}
use Rattle.nichols_core.specs.Layout.{edge_at, edge_into}
use Rattle.nichols_core.specs.Machine.{can, is_published}
use Rattle.nichols_core.specs.States.{MarksValue, marks_value, machine_in, stage_at}
use Rattle.nichols_core.proofs.MarksWritten.{ask_applies}
use Rattle.nichols_core.proofs.marks.Marks.ask.Goals as goal

pub returns-then-not-is_published : goal.returns-then-not-is_published
returns-then-not-is_published c =
    let old : MarksValue = marks_value c.args.self.now in
    let possible : can c.args.layout.now.edges (Ask c.args.worker c.args.block c.args.letter) (machine_in old) ≡ true = search rules in
    let found : edge_into c.args.layout.now.edges c.args.block c.args.letter ≡ Some c.in-Some.number = search rules in
    let is : c.edge-lower.result.lower ≡ (edge_at c.args.layout.now.edges c.in-Some.number).lower = search rules in
    let yet : is_published (stage_at old.stages c.edge-lower.result.lower) ≡ false = search rules in
    ask_applies c.args.layout.now.edges old c.args.worker c.args.block c.args.letter c.in-Some.number c.edge-lower.result.lower c.requires.place.stage possible found is yet
