use Rattle.std.proofs.Common.{◌≡◌, ◌≤◌, length, map}
use Rattle.std.specs.List.{AllByRecursion}
use Rattle.nichols_input.specs.Document.{values_from}
use Rattle.nichols_expression.specs.declared.TheConstants.{EXPRESSION_LIMIT}
use Rattle.nichols_input.proofs.Values.{read_before}
use Rattle.nichols_input.proofs.expressions.read_expressions.Given as goal
use Rattle.nichols_tensor.specs.Combination.{AllElements}
use Rattle.nichols_tensor.specs.Words.{IsOver}

abbrev pub invariant-loop-text : goal.invariant-loop-text
invariant-loop-text l =
    (read_before (λ text. text.now) l.braid l.order l.texts l.values.items l.text-index ≡ values_from l.braid l.order 1 (map (λ text. text.now) l.texts)) ×
    (length l.values.items ≤ EXPRESSION_LIMIT) ×
    AllByRecursion (IsOver l.braid.letters) l.values.items ×
    AllByRecursion (AllElements l.braid.field) l.values.items
