use Rattle.std.proofs.Common.{◌≡◌, ◌++◌, take, codes}
use Rattle.std.specs.List.{flat_map}
use Rattle.nichols_expression.specs.Printed.{term_text}
use Rattle.nichols_text.proofs.word.push_form.Given as goal

abbrev pub invariant-loop-term : goal.invariant-loop-term
invariant-loop-term l = l.out.items ≡ l.initial.out.items ++ flat_map (λ u. codes " + " ++ term_text l.field l.order u) (take l.term-index l.rest)
