use Rattle.nichols_input.proofs.Orders.{letters_on_ranks}
use Rattle.nichols_input.proofs.document.document_of.Goals as goal

pub read_expressions-requires : goal.read_expressions-requires
read_expressions-requires c = letters_on_ranks c.in-Ok.order c.in_ok-braid.braid c.in_ok-ranked.ranked _ c.in_ok-ranked.ensures c.letters.ensures c.in-Ok.ensures.letters

pub returns-clause-order : goal.returns-clause-order
returns-clause-order c = letters_on_ranks c.in-Ok.order c.in_ok-braid.braid c.in_ok-ranked.ranked _ c.in_ok-ranked.ensures c.letters.ensures c.in-Ok.ensures.letters
