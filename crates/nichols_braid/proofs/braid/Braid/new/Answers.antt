use Rattle.std.proofs.Common.{map}
use Rattle.std.proofs.lemmas.Result.{err_from_is_err_and}
use Rattle.nichols_braid.specs.GivenScalars.{given_scalars}
use Rattle.nichols_braid.proofs.NewBraid.{names_rows, names_bijection, names_distributivity, are_read, is_rack, count_is, names_places, scalars_are_table, names_zero, names_law, is_braid, is_made}
use Rattle.nichols_braid.proofs.braid.Braid.new.Goals as goal

pub returns-in_err-table : goal.returns-in_err-table
returns-in_err-table c =
    let p = err_from_is_err_and c.from_residual.result c.from_residual.ensures.1 in
    rw (p.1, p.2) (names_rows c.args.field (map (λ row. row.items) c.args.rack.now) (given_scalars c.args.scalars.now) c.in_err-table.field-0.0 c.in_err-table.ensures.fault)

pub returns-in-Some : goal.returns-in-Some
returns-in-Some c = names_bijection c.args.field (map (λ row. row.items) c.args.rack.now) (given_scalars c.args.scalars.now) c.in_ok-table.table c.in-Some.fault (record { value = c.in_ok-table.ensures.value; fault = c.in_ok-table.ensures.fault }) c.in-Some.ensures

pub returns-in-Some-fault : goal.returns-in-Some-fault
returns-in-Some-fault c = names_distributivity c.args.field (map (λ row. row.items) c.args.rack.now) (given_scalars c.args.scalars.now) c.in_ok-table.table c.fault.result c.in-Some-fault.fault (record { value = c.in_ok-table.ensures.value; fault = c.in_ok-table.ensures.fault }) c.fault.ensures c.in_default.is c.in-Some-fault.ensures

pub returns-in_err-cocycle : goal.returns-in_err-cocycle
returns-in_err-cocycle c =
    let p = err_from_is_err_and c.from_residual-in_err-cocycle.result c.from_residual-in_err-cocycle.ensures.1 in
    rw (p.1, p.2) (names_places c.args.field (map (λ row. row.items) c.args.rack.now) (given_scalars c.args.scalars.now) c.table.inside.letters c.in_err-cocycle.field-0.0
    (is_rack (map (λ row. row.items) c.args.rack.now) c.in_ok-table.table c.fault.result c.fault-2.result (record { value = c.in_ok-table.ensures.value; fault = c.in_ok-table.ensures.fault }) c.fault.ensures c.in_default.is c.fault-2.ensures c.in_default-fault.is)
    (count_is (map (λ row. row.items) c.args.rack.now) c.table.inside.letters c.table.inside.entries.items c.in_ok-table.table c.table.view_is c.in_ok-table.ensures.value) c.in_err-cocycle.ensures.fault)

pub zero_fault-requires : goal.zero_fault-requires
zero_fault-requires c =
    let read =
    are_read c.args.field (map (λ row. row.items) c.args.rack.now) (given_scalars c.args.scalars.now) c.in_ok-table.table c.table.inside.letters c.table.inside.entries.items c.in_ok-cocycle.cocycle.items c.fault.result c.fault-2.result (record { value = c.in_ok-table.ensures.value; fault = c.in_ok-table.ensures.fault }) c.table.view_is
    c.fault.ensures c.in_default.is c.fault-2.ensures c.in_default-fault.is c.in_ok-cocycle.ensures.value c.in_ok-cocycle.ensures.fault c.requires in
    rw c.as_slice.ensures.value (scalars_are_table c.args.field c.modulus-modulus.ensures.field (map (λ row. row.items) c.args.rack.now) (given_scalars c.args.scalars.now) c.in_ok-table.table c.table.inside.letters c.in_ok-cocycle.cocycle.items read)

pub returns-in-Some-zero_fault : goal.returns-in-Some-zero_fault
returns-in-Some-zero_fault c =
    let read =
    are_read c.args.field (map (λ row. row.items) c.args.rack.now) (given_scalars c.args.scalars.now) c.in_ok-table.table c.table.inside.letters c.table.inside.entries.items c.in_ok-cocycle.cocycle.items c.fault.result c.fault-2.result (record { value = c.in_ok-table.ensures.value; fault = c.in_ok-table.ensures.fault }) c.table.view_is
    c.fault.ensures c.in_default.is c.fault-2.ensures c.in_default-fault.is c.in_ok-cocycle.ensures.value c.in_ok-cocycle.ensures.fault c.requires in
    names_zero c.args.field (map (λ row. row.items) c.args.rack.now) (given_scalars c.args.scalars.now) c.in_ok-table.table c.table.inside.letters c.in_ok-cocycle.cocycle.items c.in-Some-zero_fault.fault read (rw c.as_slice.ensures.value at c.in-Some-zero_fault.ensures)

pub cocycle_fault-requires : goal.cocycle_fault-requires
cocycle_fault-requires c =
    let read =
    are_read c.args.field (map (λ row. row.items) c.args.rack.now) (given_scalars c.args.scalars.now) c.in_ok-table.table c.table.inside.letters c.table.inside.entries.items c.in_ok-cocycle.cocycle.items c.fault.result c.fault-2.result (record { value = c.in_ok-table.ensures.value; fault = c.in_ok-table.ensures.fault }) c.table.view_is
    c.fault.ensures c.in_default.is c.fault-2.ensures c.in_default-fault.is c.in_ok-cocycle.ensures.value c.in_ok-cocycle.ensures.fault c.requires in
    rw c.as_slice-2.ensures.value (scalars_are_table c.args.field c.modulus-modulus.ensures.field (map (λ row. row.items) c.args.rack.now) (given_scalars c.args.scalars.now) c.in_ok-table.table c.table.inside.letters c.in_ok-cocycle.cocycle.items read)

pub returns-in-Some-cocycle_fault : goal.returns-in-Some-cocycle_fault
returns-in-Some-cocycle_fault c =
    let read =
    are_read c.args.field (map (λ row. row.items) c.args.rack.now) (given_scalars c.args.scalars.now) c.in_ok-table.table c.table.inside.letters c.table.inside.entries.items c.in_ok-cocycle.cocycle.items c.fault.result c.fault-2.result (record { value = c.in_ok-table.ensures.value; fault = c.in_ok-table.ensures.fault }) c.table.view_is
    c.fault.ensures c.in_default.is c.fault-2.ensures c.in_default-fault.is c.in_ok-cocycle.ensures.value c.in_ok-cocycle.ensures.fault c.requires in
    names_law c.args.field (map (λ row. row.items) c.args.rack.now) (given_scalars c.args.scalars.now) c.in_ok-table.table c.table.inside.letters c.in_ok-cocycle.cocycle.items c.zero_fault.result c.in-Some-cocycle_fault.fault read (rw c.as_slice.ensures.value at c.zero_fault.ensures) c.in_default-zero_fault.is (rw c.as_slice-2.ensures.value at c.in-Some-cocycle_fault.ensures)

pub invariant_of-result : goal.invariant_of-result
invariant_of-result c =
    let read =
    are_read c.args.field (map (λ row. row.items) c.args.rack.now) (given_scalars c.args.scalars.now) c.in_ok-table.table c.table.inside.letters c.table.inside.entries.items c.in_ok-cocycle.cocycle.items c.fault.result c.fault-2.result (record { value = c.in_ok-table.ensures.value; fault = c.in_ok-table.ensures.fault }) c.table.view_is
    c.fault.ensures c.in_default.is c.fault-2.ensures c.in_default-fault.is c.in_ok-cocycle.ensures.value c.in_ok-cocycle.ensures.fault c.requires in
    is_braid c.args.field c.modulus-modulus.ensures.field (map (λ row. row.items) c.args.rack.now) (given_scalars c.args.scalars.now) c.in_ok-table.table c.table.inside.letters c.table.inside.entries.items c.in_ok-cocycle.cocycle.items read c.table.view_is
    (record { first = c.zero_fault.result; second = c.cocycle_fault.result; zero = rw c.as_slice.ensures.value at c.zero_fault.ensures; none = c.in_default-zero_fault.is; law = rw c.as_slice-2.ensures.value at c.cocycle_fault.ensures; still = c.in_default-cocycle_fault.is })

pub returns : goal.returns
returns c =
    let read =
    are_read c.args.field (map (λ row. row.items) c.args.rack.now) (given_scalars c.args.scalars.now) c.in_ok-table.table c.table.inside.letters c.table.inside.entries.items c.in_ok-cocycle.cocycle.items c.fault.result c.fault-2.result (record { value = c.in_ok-table.ensures.value; fault = c.in_ok-table.ensures.fault }) c.table.view_is
    c.fault.ensures c.in_default.is c.fault-2.ensures c.in_default-fault.is c.in_ok-cocycle.ensures.value c.in_ok-cocycle.ensures.fault c.requires in
    is_made c.args.field (map (λ row. row.items) c.args.rack.now) (given_scalars c.args.scalars.now) c.in_ok-table.table c.table.inside.letters c.table.inside.entries.items c.in_ok-cocycle.cocycle.items read c.table.view_is
    (record { first = c.zero_fault.result; second = c.cocycle_fault.result; zero = rw c.as_slice.ensures.value at c.zero_fault.ensures; none = c.in_default-zero_fault.is; law = rw c.as_slice-2.ensures.value at c.cocycle_fault.ensures; still = c.in_default-cocycle_fault.is })
