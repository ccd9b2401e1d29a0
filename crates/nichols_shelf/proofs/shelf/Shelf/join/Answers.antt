use Rattle.std.proofs.Common.{arith, subst, sym, ap, ◌∙◌}
use Rattle.nichols_shelf.specs.Plan.{PlanValue}
use Rattle.nichols_shelf.specs.Places.{blocks}
use Rattle.nichols_shelf.specs.Steps.{Mine}
use Rattle.nichols_shelf.specs.Stored.{IsStored}
use Rattle.nichols_shelf.proofs.Agreed.{stored_join}
use Rattle.nichols_shelf.proofs.Joined.{joins}
use Rattle.nichols_shelf.proofs.Picks.{none_out}
use Rattle.nichols_shelf.proofs.shelf.Shelf.join.Goals as goal

pub join_seat-requires : goal.join_seat-requires
join_seat-requires c =
    let s = c.args.self.now in
    let p = c.args.pass.now in
    let o = c.args.other in
    let words = s.words in
    let r = c.requires in (
      r.pass.0,
      r.other.0,
      none_out o.place.me.0 r.holds o.place.me.1 o.stored.slots,
      omega arith,
      joins _ _ _ _ _ p.stored.live r.zeroth o.stored.live r.next r.holds r.resumes,
    )

pub invariant_of-pass : goal.invariant_of-pass
invariant_of-pass c =
    let p = c.args.pass.now in
    let o = c.args.other in
    let same = ap (λ (g : PlanValue). blocks g) (c.requires.other.1 ∙ sym c.requires.pass.1) in
    record {
      stored = subst (λ (m : Mine). IsStored p.worker p.passes c.add_all.new.self m.0 m.1) (sym c.join_seat.ensures.2)
          (stored_join p.worker p.passes p.owed p.place.me.0 p.place.me.1 p.stored o.worker o.passes o.owed c.add_all.new.self o.place.me.0 o.place.me.1 o.stored same c.add_all.ensures.length c.add_all.ensures.marks);
    }
