use Rattle.std.proofs.Common.{◌+◌, ◌∙◌, sym, ap, pos, Some}
use Rattle.std.specs.Prelude.{ℤ, slice_index_or}
use Rattle.std.proofs.Common.{arith, rules}
use Rattle.std.proofs.lemmas.Int.{to_z-of_z}
use Rattle.nichols_braid.specs.Faults.{rack_entry}
use Rattle.nichols_braid.specs.GivenTables.{letter_of}
use Rattle.nichols_braid.proofs.TableSteps.{entry_found, entry_passed, row_step}
use Rattle.nichols_braid.proofs.tables.push_letters.Goals as goal
use mir.Syntax.{w64}
use mir.Val.{SFits, of_z, to_z}

pub returns-in-None-clause-fault : goal.returns-in-None-clause-fault
returns-in-None-clause-fault c =
    let v : ℤ = slice_index_or c.args.row.now c.loop-j.j (pos 0) in
    let fits : SFits w64 (slice_index_or c.args.row.now c.loop-j.j (pos 0)) = search rules in
    entry_found c.args.letters c.args.i c.loop-j.j c.args.row.now (to_z w64 (of_z w64 v)) (omega arith) (sym (to_z-of_z w64 v fits)) c.loop-j.invariant.faultless c.in-None.ensures
    ∙ ap (λ i. Some (rack_entry i (c.loop-j.j + 1) (to_z w64 (of_z w64 v)))) (sym c.from.ensures)

pub loop-j-preserved : goal.loop-j-preserved
loop-j-preserved c =
    let v : ℤ = slice_index_or c.args.row.now c.loop-j.j (pos 0) in
    let fits : SFits w64 (slice_index_or c.args.row.now c.loop-j.j (pos 0)) = search rules in
    record {
      faultless = entry_passed c.args.letters c.args.i c.loop-j.j c.args.row.now (to_z w64 (of_z w64 v)) (sym (to_z-of_z w64 v fits)) c.loop-j.invariant.faultless c.in-Some.ensures.0;
      letters = row_step (pos 0) letter_of c.args.row.now c.loop-j.j c.args.out.now.items c.loop-j.out.items c.push.new.self.items c.in-Some.letter c.loop-j-test.true c.loop-j.invariant.letters c.in_ok-push-in-Some.ensures.items (c.in-Some.ensures.1 ∙ ap letter_of (to_z-of_z w64 v fits));
    }
