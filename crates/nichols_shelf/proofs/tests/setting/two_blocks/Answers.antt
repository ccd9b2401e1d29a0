use Rattle.std.proofs.Common.{length, IsPermutation, ap, subst, ◌∙◌}
use Rattle.std.proofs.lemmas.Option.{IfSome_then}
use Rattle.nichols_shelf.proofs.Alone.{permuted_alone}
use Rattle.nichols_shelf.proofs.tests.setting.two_blocks.Goals as goal

pub returns : goal.returns
returns c = IfSome_then c.new.result c.new.ensures.layout
    (λ l h. (ap (λ xs. length xs) (h.0 ∙ c.in_ok-degrees.ensures.items), permuted_alone _ l.edges (subst (λ es. IsPermutation es l.edges) c.in_ok-edges.ensures.items h.1)))
