use Rattle.std.proofs.Common.{◌≡◌, ◌++◌, take, codes}
use Rattle.std.specs.List.{flat_map}
use Rattle.nichols_expression.specs.Printed.{word_text}
use Rattle.nichols_text.proofs.degree.push_basis.Given as goal

abbrev pub invariant-loop-word : goal.invariant-loop-word
invariant-loop-word l = l.out.items ≡ l.fn.out.items ++ codes "basis" ++ flat_map (λ w. codes " " ++ word_text l.order w) (take l.word-index l.basis)
