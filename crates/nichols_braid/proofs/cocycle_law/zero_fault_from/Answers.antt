use Rattle.std.proofs.Common.{◌+◌, ◌∙◌, refl, sym, ap, Some}
use Rattle.std.specs.Option.{option_map}
use Rattle.nichols_braid.specs.Braid.{entry}
use Rattle.nichols_braid.specs.Faults.{zero_fault_at}
use Rattle.nichols_braid.specs.Tables.{with_scalars}
use Rattle.nichols_braid.specs.declared.faults.BraidFault.TheVariants.{CocycleZero}
use Rattle.nichols_braid.proofs.Search.{first_answer-more, fault-found}
use Rattle.nichols_braid.proofs.TableSteps.{zero_told, zero_passed}
use Rattle.nichols_braid.proofs.cocycle_law.zero_fault_from.Goals as goal

pub returns-then-scalar-eq0 : goal.returns-then-scalar-eq0
returns-then-scalar-eq0 c =
    fault-found (zero_fault_at (with_scalars c.args.field c.args.rack.now c.args.scalars.now) c.args.i) c.loop-j.j c.args.rack.now.letters (Some (CocycleZero c.args.i (c.loop-j.j + 1))) (rw (← c.rack.view_is) c.loop-j-test.true) c.loop-j.invariant
    (ap (option_map Some) (sym (zero_told (with_scalars c.args.field c.args.rack.now c.args.scalars.now) c.args.i (c.loop-j.j + 1) c.scalar.result (c.scalar.ensures.value ∙ ap (λ t. entry t.letters c.args.scalars.now c.args.i (c.loop-j.j + 1)) c.rack.view_is) c.if-scalar-eq0.true))) refl

pub loop-j-preserved : goal.loop-j-preserved
loop-j-preserved c =
    first_answer-more (zero_fault_at (with_scalars c.args.field c.args.rack.now c.args.scalars.now) c.args.i) c.loop-j.j c.loop-j.invariant
    (zero_passed (with_scalars c.args.field c.args.rack.now c.args.scalars.now) c.args.i (c.loop-j.j + 1) c.scalar.result (c.scalar.ensures.value ∙ ap (λ t. entry t.letters c.args.scalars.now c.args.i (c.loop-j.j + 1)) c.rack.view_is) c.if-scalar-eq0.false)
