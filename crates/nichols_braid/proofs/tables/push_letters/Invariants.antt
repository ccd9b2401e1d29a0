use Rattle.std.proofs.Common.{◌≡◌, ◌++◌, map, take, None}
use Rattle.nichols_tensor.specs.Words.{up_to}
use Rattle.nichols_braid.specs.Faults.{first_answer, entry_fault_at}
use Rattle.nichols_braid.specs.GivenTables.{letter_of}
use Rattle.nichols_braid.proofs.tables.push_letters.Given as goal

abbrev pub invariant-loop-j : goal.invariant-loop-j
invariant-loop-j l = record {
  faultless : first_answer (entry_fault_at l.letters l.row l.i) (up_to l.j) ≡ None;
  letters : l.out.items ≡ l.initial.out.items ++ map letter_of (take l.j l.row);
}
