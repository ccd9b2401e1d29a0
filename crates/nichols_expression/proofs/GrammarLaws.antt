-- Exactly the expressions are accepted, each with its value.
use Rattle.std.proofs.Common.{◌≡◌, List, ℕ, sym, ◌∙◌, ap, Ok, Err}
use Rattle.nichols_braid.specs.Braid.{BraidValue, IsBraid}
use Rattle.nichols_braid.specs.Order.{in_ranks}
use Rattle.nichols_tensor.specs.Combination.{Combination}
use Rattle.nichols_tensor.specs.InOrder.{in_order}
use Rattle.nichols_expression.specs.Grammar.{IsExpression}
use Rattle.nichols_expression.specs.Reader.{Read, read_terms, value_or_fault, expression_of}
use Rattle.nichols_expression.specs.Laws.{IsExpressionOf, GrammarIsAccepted, ATextHasOneValue}
use Rattle.nichols_expression.proofs.Sound.{Whole, read_terms_sound}
use Rattle.nichols_expression.proofs.Whole.{read_terms_complete}

accepted_is_grammar : (braid : BraidValue) (order text : List ℕ) (f : Combination) → expression_of braid order text ≡ Ok f → IsExpressionOf braid order text f
unfolding expression_of
accepted_is_grammar braid order text f e = at (read_terms braid.field braid.letters text) (read_terms_sound braid.field braid.letters text) e
  where
    at : (r : Read) → Whole (IsExpression braid.field braid.letters) text r → value_or_fault braid.field order text r ≡ Ok f → IsExpressionOf braid order text f
    at (Err fault) h e = absurd cc
    at (Ok terms) h e =
        let same : in_order braid.field (in_ranks order terms) ≡ f = cc in
        (terms, h, sym same)

grammar_accepted : (braid : BraidValue) → IsBraid braid → (order text : List ℕ) (f : Combination) → IsExpressionOf braid order text f → expression_of braid order text ≡ Ok f
unfolding expression_of
grammar_accepted braid is order text f h = ap (value_or_fault braid.field order text) (read_terms_complete braid.field braid.letters is.most text h.0 h.1) ∙ ap (λ g. Ok g) (sym h.2)

pub grammar_is_accepted : GrammarIsAccepted
grammar_is_accepted braid is order text f = (accepted_is_grammar braid order text f, grammar_accepted braid is order text f)

pub a_text_has_one_value : ATextHasOneValue
a_text_has_one_value braid is order text f g p q =
    let e = sym (grammar_accepted braid is order text f p) ∙ grammar_accepted braid is order text g q in
    cc
