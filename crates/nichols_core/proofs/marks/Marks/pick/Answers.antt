use Rattle.std.proofs.Common.{◌≡◌, ℕ, ◌<◌, length, true, false, refl, sym, ◌∙◌, rules}
use Rattle.std.proofs.lemmas.List.{get_or_read_under}
use Rattle.std.specs.Prelude.{Some}
use Rattle.nichols_core.specs.Layout.{edge_at, edge_into}
use Rattle.nichols_core.specs.Machine.{is_published, is_held_by}
use Rattle.nichols_core.specs.States.{MarksValue, marks_value, mark_at, stage_at, machine_in}
use Rattle.nichols_core.proofs.MarksWritten.{pick_applies, pick_possible}
use Rattle.nichols_core.proofs.marks.Marks.pick.Goals as goal

pub returns : goal.returns
returns c =
    let old : MarksValue = marks_value c.args.self.now in
    let low : ℕ = (edge_at c.args.layout.now.edges c.in-Some.number).lower in
    let inside : c.in-Some.number < length old.picked = search rules in
    let all_inside : c.in-Some.number < length old.laid = search rules in
    let found : edge_into c.args.layout.now.edges c.args.block c.args.letter ≡ Some c.in-Some.number = search rules in
    let held : is_held_by c.args.worker (stage_at old.stages c.args.block) ≡ true = search rules in
    let published : is_published (stage_at old.stages low) ≡ true = search rules in
    let laid : mark_at old.laid c.in-Some.number ≡ true = sym (get_or_read_under old.laid c.in-Some.number (length old.laid) c.index.result.now false c.index.ensures all_inside refl) ∙ c.if-not-index.false in
    let picked : mark_at old.picked c.in-Some.number ≡ false = search rules in
    pick_applies c.args.layout.now.edges old c.args.worker c.args.block c.args.letter c.in-Some.number inside
    (pick_possible c.args.layout.now.edges (machine_in old) c.args.worker c.args.block c.args.letter c.in-Some.number found held published laid picked) found
