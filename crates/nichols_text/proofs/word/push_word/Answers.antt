use Rattle.std.proofs.Common.{◌≡◌, ◌++◌, ℕ, List, ◌∷◌, codes, sym, ◌∙◌, ap}
use Rattle.std.specs.Prelude.{decimal}
use Rattle.std.specs.List.{flat_map}
use Rattle.std.proofs.lemmas.List.{take_all}
use Rattle.nichols_braid.specs.Order.{letter_at}
use Rattle.nichols_expression.specs.Printed.{word_text}
use Rattle.nichols_text.proofs.Behind.{text_more}
use Rattle.nichols_text.proofs.word.push_word.Goals as goal

pub returns : goal.returns
unfolding word_text
returns c =
    let order : List ℕ = c.args.order.now in
    let rest : List ℕ = c.in-Some.rest.now in
    let dotted : ℕ → List ℕ = λ s. codes "." ++ decimal (letter_at order s) in
    let word : c.args.word.now ≡ c.in-Some.first.now ∷ rest = sym c.letters.ensures.same ∙ c.in-Some.ensures.cases.0 in
    text_more c.args.out.now.items (decimal (letter_at order c.in-Some.first.now)) (flat_map dotted rest) c.in_ok-push_letter.ensures
    (c.loop-rank.invariant ∙ ap (λ t. c.push_letter.new.out.items ++ flat_map dotted t) (take_all c.loop-rank.rank-index rest c.loop-rank-test.false))
    ∙ ap (λ w. c.args.out.now.items ++ word_text order w) (sym word)
