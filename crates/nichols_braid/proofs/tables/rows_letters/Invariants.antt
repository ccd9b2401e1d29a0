use Rattle.std.proofs.Common.{◌≡◌, map, take, None}
use Rattle.std.specs.List.{flat_map}
use Rattle.nichols_tensor.specs.Words.{up_to}
use Rattle.nichols_braid.specs.Faults.{first_answer, entry_fault_at}
use Rattle.nichols_braid.specs.GivenTables.{row_at, letter_of}
use Rattle.nichols_braid.proofs.tables.rows_letters.Given as goal

abbrev pub invariant-loop-i : goal.invariant-loop-i
invariant-loop-i l = record {
  faultless : first_answer (λ i. first_answer (entry_fault_at l.letters (row_at (map (λ row. row.items) l.rows) i) i) (up_to l.letters)) (up_to l.i) ≡ None;
  letters : l.out.items ≡ flat_map (map letter_of) (take l.i (map (λ row. row.items) l.rows));
}
