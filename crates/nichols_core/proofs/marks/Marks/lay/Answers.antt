use Rattle.std.proofs.Common.{◌≡◌, ◌<◌, length, true, rules}
use Rattle.std.specs.Prelude.{Some}
use Rattle.nichols_core.specs.declared.event.Event.TheVariants.{Lay}
use Rattle.nichols_core.specs.Layout.{edge_out}
use Rattle.nichols_core.specs.Machine.{can}
use Rattle.nichols_core.specs.States.{MarksValue, marks_value, machine_in}
use Rattle.nichols_core.proofs.MarksWritten.{lay_applies}
use Rattle.nichols_core.proofs.marks.Marks.lay.Goals as goal

pub returns : goal.returns
returns c =
    let old : MarksValue = marks_value c.args.self.now in
    let inside : c.in-Some.number < length old.laid = search rules in
    let possible : can c.args.layout.now.edges (Lay c.args.worker c.args.block c.args.letter) (machine_in old) ≡ true = search rules in
    let found : edge_out c.args.layout.now.edges c.args.block c.args.letter ≡ Some c.in-Some.number = search rules in
    lay_applies c.args.layout.now.edges old c.args.worker c.args.block c.args.letter c.in-Some.number inside possible found
