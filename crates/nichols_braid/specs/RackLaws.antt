-- The fault of a table against one of the two laws of a rack.
use Rattle.std.specs.Prelude.{ℕ, Option}
use Rattle.nichols_braid.specs.Faults.{TableFault, first_triple, bijection_fault_at, distributivity_fault_at}
use Rattle.nichols_braid.specs.Tables.{RackEntries}
use Rattle.nichols_braid.specs.declared.rack_laws.RackLaw.{RackLaw}
use Rattle.nichols_braid.specs.declared.rack_laws.RackLaw.TheVariants.{Bijective, Distributive}

-- the fault at three letters
abbrev pub law_fault_at : RackEntries → RackLaw → ℕ → ℕ → ℕ → Option TableFault
law_fault_at rack Bijective = bijection_fault_at rack
law_fault_at rack Distributive = distributivity_fault_at rack

-- the first fault
unfoldable pub law_fault : RackEntries → RackLaw → Option TableFault
law_fault rack law = first_triple rack.letters (law_fault_at rack law)
