-- What an answer of `BraidFault` says of the tables.
use Rattle.std.specs.Prelude.{◌≡◌, Option, None, Some, IfSome}
use Rattle.std.specs.Option.{option_map}
use Rattle.nichols_field.specs.Pairs.{pair}
use Rattle.nichols_braid.specs.Faults.{TableFault, letters, rack_shape, rack_entry, not_bijective, not_distributive, cocycle_shape, cocycle_zero, not_cocycle}
use Rattle.nichols_braid.specs.declared.faults.BraidFault.{BraidFault}
use Rattle.nichols_braid.specs.declared.faults.BraidFault.TheVariants.{Letters, RackShape, RackEntry, NotBijective, NotDistributive, CocycleShape, CocycleZero, NotCocycle, Memory}

-- the fault of the tables that is answered; want of memory says nothing of them
abbrev pub table_fault_in : BraidFault → Option TableFault
table_fault_in (Letters n) = Some (letters n)
table_fault_in (RackShape row) = Some (rack_shape row)
table_fault_in (RackEntry i j v) = Some (rack_entry i j v)
table_fault_in (NotBijective i j k v) = Some (not_bijective i j k v)
table_fault_in (NotDistributive i j k left right) = Some (not_distributive i j k left right)
table_fault_in (CocycleShape row) = Some (cocycle_shape row)
table_fault_in (CocycleZero i j) = Some (cocycle_zero i j)
table_fault_in (NotCocycle i j k left right) = Some (not_cocycle i j k (pair left.low left.high) (pair right.low right.high))
table_fault_in Memory = None

-- the answer is want of memory, or the fault that there is
abbrev pub IsFaultOrMemory : BraidFault → Option TableFault → Type 0
IsFaultOrMemory answer fault = IfSome (table_fault_in answer) (λ told. fault ≡ Some told)

-- the answer is the fault, or none where there is none
abbrev pub IsFault : Option BraidFault → Option TableFault → Type 0
IsFault answer fault = option_map table_fault_in answer ≡ option_map Some fault
