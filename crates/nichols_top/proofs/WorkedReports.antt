-- Worked rows: what is due for documents that are refused under an order, a braid over four elements that is written in two ways, and
-- two command lines that differ in workers and window alone.
use Rattle.std.proofs.Common.{◌≡◌, ℕ, List, [], ◌∷◌, ◌++◌, None, Ok, Some, codes, refl}
use Rattle.std.specs.Prelude.{pos}
use Rattle.std.specs.Fmt.{digits}
use Rattle.nichols_field.specs.Field.{prime_field, quadratic_field}
use Rattle.nichols_command.specs.declared.command.Command.TheVariants.{OnDocument}
use Rattle.nichols_command.specs.declared.command.Task.{Task}
use Rattle.nichols_command.proofs.WorkedLines.{one_worker, one_worker_is_command, one_worker_texts, texts_with, wide_window, wide_window_is_command, wide_window_texts}
use Rattle.nichols_input.specs.Document.{document_in}
use Rattle.nichols_input.proofs.OnLiterals.{input_on_literals}
use Rattle.nichols_text.specs.Refusals.{cocycle_zero_text}
use Rattle.nichols_top.specs.Due.{command_due, due}
use Rattle.nichols_top.specs.Report.{line_report}
use Rattle.nichols_top.specs.declared.status.Status.TheVariants.{Refused}
use Rattle.nichols_top.proofs.ReportLaws.{workers_and_window_leave_the_report}

abbrev with_two_zeros : List ℕ
with_two_zeros = codes "modulus = 101\nrack = [[1, 3, 2], [3, 2, 1], [2, 1, 3]]\ncocycle = [[-1, -1, -1], [-1, -1, 0], [0, -1, -1]]\n"

-- the first place in the document's own letters; by ranks, the entry 3 1 stands before the entry 2 3
faults_by_letters : (task : Task) → command_due (OnDocument task) (with_two_zeros ++ codes "order = [3, 1, 2]\n") ≡ line_report (codes "refused: cocycle entry 2 3 is zero\n") Refused
unfolding input_on_literals command_due cocycle_zero_text digits
faults_by_letters task = refl

-- the braid's fault comes before that of the order
braid_before_order : (task : Task) → command_due (OnDocument task) (with_two_zeros ++ codes "order = [3, 1]\n") ≡ line_report (codes "refused: cocycle entry 2 3 is zero\n") Refused
unfolding input_on_literals command_due cocycle_zero_text digits
braid_before_order task = refl

-- ---- four elements, of which 1, 2 and 3 are scalars

abbrev of_two_letters : List ℕ
of_two_letters = codes "modulus = 2\nextension = [1, 1]\nrack = [[1, 2], [1, 2]]\n"

in_integers_and_pairs : document_in (of_two_letters ++ codes "cocycle = [[1, [0, 1]], [[1, 1], -1]]\n") ≡ Ok (record {
  braid = record { field = quadratic_field (prime_field (pos 2)) (pos 1) (pos 1); letters = 2; rack = 1 ∷ 2 ∷ 1 ∷ 2 ∷ []; cocycle = 1 ∷ 2 ∷ 3 ∷ 1 ∷ [] };
  order = 1 ∷ 2 ∷ [];
  expressions = [];
})
unfolding input_on_literals
in_integers_and_pairs = refl

in_pairs_alone : document_in (of_two_letters ++ codes "cocycle = [[[1, 0], [2, -1]], [[-1, 3], [-1, 0]]]\n") ≡ document_in (of_two_letters ++ codes "cocycle = [[1, [0, 1]], [[1, 1], -1]]\n")
unfolding input_on_literals
in_pairs_alone = refl

-- ---- two command lines

one_report : (document : List ℕ) → due one_worker document ≡ due wide_window document
one_report document =
    workers_and_window_leave_the_report one_worker wide_window (texts_with (Some (codes "1")) None) (texts_with None (Some (codes "8"))) one_worker_texts wide_window_texts one_worker_is_command wide_window_is_command
    (record { command = refl; points = refl; degree = refl; rows = refl; brief = refl }) document
