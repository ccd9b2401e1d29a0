use Rattle.nichols_braid.specs.GivenEntries.{IsEntryOf, given_element}
use Rattle.std.specs.List.{AllByRecursion}
use Rattle.nichols_braid.proofs.TableSteps.{row_of_all, rows_step}
use Rattle.nichols_braid.proofs.tables.rows_elements.Goals as goal

pub push_elements-requires : goal.push_elements-requires
push_elements-requires c =
    row_of_all (AllByRecursion (IsEntryOf c.args.field)) c.args.rows.now (λ row. row.items) c.row-item.result c.as_slice.result.now c.loop-row.row-index c.requires c.loop-row-test.true c.row-item.is c.as_slice.ensures.value

pub loop-row-preserved : goal.loop-row-preserved
loop-row-preserved c =
    rows_step (given_element c.args.field) c.args.rows.now (λ row. row.items) c.row-item.result c.as_slice.result.now c.loop-row.row-index c.loop-row.out.items c.push_elements.new.out.items c.loop-row-test.true c.row-item.is c.as_slice.ensures.value c.loop-row.invariant c.in_ok-push_elements.ensures
